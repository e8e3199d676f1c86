use Rattle.std.proofs.Common.{◌∙◌, sym}
use Rattle.std.proofs.lemmas.Str.{IsUtf8-from_is_utf8, is_utf8-from_IsUtf8}
use Rattle.serde_json.specs.View.{view}
use Rattle.schema_registries.proofs.Values.{value-read, value-none}
use Rattle.schema_registries.proofs.reading.line_value.Goals as goal

pub returns-then-has_only_whole-clause-value : goal.returns-then-has_only_whole-clause-value
returns-then-has_only_whole-clause-value c =
    let read = c.in-Ok.ensures.ok in
    sym (value-read c.args.line.now (view c.in-Ok.value) (is_utf8-from_IsUtf8 c.args.line.now read.0) read.1 (sym c.has_only_whole.ensures.tree ∙ c.if-has_only_whole.true))

pub returns-in_default-clause-value : goal.returns-in_default-clause-value
returns-in_default-clause-value c =
    sym (value-none c.args.line.now (λ valid. c.in-Err.ensures.err (λ m. c.in_default.not-Memory (c.classify.ensures.memory.1 m)) (IsUtf8-from_is_utf8 c.args.line.now valid)))
