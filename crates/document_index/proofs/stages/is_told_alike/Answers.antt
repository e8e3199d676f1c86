use Rattle.std.proofs.Common.{◌∙◌, sym, ap₂, option_map}
use Rattle.schema_definitions.specs.DocumentCauses.{is_told_alike}
use Rattle.schema_dialects.specs.Dialects.{dialect_of}
use Rattle.document_index.proofs.StageLemmas.{alike-by}
use Rattle.document_index.proofs.stages.is_told_alike.Goals as goal

pub returns-in-Some-Some : goal.returns-in-Some-Some
returns-in-Some-Some c =
    alike-by c.in-Some-Some.left c.in-Some-Some.right c.is_same.result c.is_same.ensures
    ∙ sym (ap₂ (λ o p. is_told_alike (option_map dialect_of o) (option_map dialect_of p)) c.in-Some-Some.is-0 c.in-Some-Some.is-1)
