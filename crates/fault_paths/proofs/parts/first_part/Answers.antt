use Rattle.json_pointers.proofs.PointerLemmas.{parts_some, parts_none}
use Rattle.fault_paths.proofs.parts.first_part.Goals as goal

pub returns-in-Some : goal.returns-in-Some
returns-in-Some c = parts_some c.args.text.now c.in-Some.part c.in-Some.after c.in-Some.ensures.cases

pub returns-in-None : goal.returns-in-None
returns-in-None c = parts_none c.args.text.now c.in-None.ensures.cases
