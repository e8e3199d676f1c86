use Rattle.std.proofs.Common.{sym}
use Rattle.std.proofs.lemmas.Str.{IsUtf8-from_is_utf8, is_utf8-from_IsUtf8}
use Rattle.serde_json.specs.View.{view}
use Rattle.answer_checks.proofs.Reading.{value_there, value_none}
use Rattle.answer_checks.proofs.paths.listed_value.Goals as goal

pub returns-in-Ok : goal.returns-in-Ok
returns-in-Ok c =
    let read = c.in-Ok.ensures.ok in
    sym (value_there c.args.line.now (view c.in-Ok.value) (is_utf8-from_IsUtf8 c.args.line.now read.0) read.1)

pub returns-in_default : goal.returns-in_default
returns-in_default c =
    sym (value_none c.args.line.now (λ valid. c.in-Err.ensures.err (λ m. c.in_default.not-Memory (c.classify.ensures.memory.1 m)) (IsUtf8-from_is_utf8 c.args.line.now valid)))
