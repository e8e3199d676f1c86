use Rattle.std.proofs.Common.{◌≡◌, drop}
use Rattle.graph_answers.specs.Completions.{assumed_in}
use Rattle.graph_answers.proofs.assumed.answer_in.Given as goal

abbrev pub invariant-loop-one : goal.invariant-loop-one
invariant-loop-one l = assumed_in l.assumed l.pattern l.text ≡ assumed_in (drop l.one-index l.assumed) l.pattern l.text
