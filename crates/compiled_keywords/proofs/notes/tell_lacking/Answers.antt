use Rattle.std.proofs.Common.{◌∙◌, sym}
use Rattle.compiled_keywords.proofs.TellLemmas.{tells_there}
use Rattle.compiled_keywords.proofs.notes.tell_lacking.Goals as goal

pub returns-else-lacks : goal.returns-else-lacks
returns-else-lacks c = tells_there c.args.situation.now c.args.keyword.now _ _ c.args.observer.now (sym c.lacks.ensures ∙ c.if-lacks.false)
