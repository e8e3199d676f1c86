use Rattle.std.proofs.Common.{◌∙◌}
use Rattle.std.proofs.lemmas.Str.{IsUtf8-from_is_utf8, is_utf8-from_IsUtf8}
use Rattle.schema_registries.proofs.Texts.{read_value, no_value}
use Rattle.schema_registries.proofs.documents.read_text.Goals as goal

pub returns-in-Ok-clause-ok : goal.returns-in-Ok-clause-ok
returns-in-Ok-clause-ok c =
    let read = c.in-Ok.ensures.ok in
    read_value c.args.text.now (is_utf8-from_IsUtf8 c.args.text.now read.0) ∙ read.1

pub returns-in_ok-from_str-in_default-clause-refused : goal.returns-in_ok-from_str-in_default-clause-refused
returns-in_ok-from_str-in_default-clause-refused c = (
  c.in_ok-from_str-in_default.ensures.ok ∙ c.as_str.ensures.value,
  no_value c.args.text.now (λ valid. c.in-Err.ensures.err (λ m. c.in_default.not-Memory (c.classify.ensures.memory.1 m)) (IsUtf8-from_is_utf8 c.args.text.now valid)),
)
