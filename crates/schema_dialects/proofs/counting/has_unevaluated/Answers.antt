use Rattle.std.proofs.Common.{◌∙◌, ap, sym}
use Rattle.schema_drafts.specs.Vocabularies.{has_some, is_unevaluated}
use Rattle.schema_dialects.specs.Dialects.{in_force}
use Rattle.schema_dialects.proofs.Alike.{marked_unevaluated}
use Rattle.schema_dialects.proofs.counting.has_unevaluated.Goals as goal

pub returns-in-Some : goal.returns-in-Some
returns-in-Some c = marked_unevaluated c.in-Some.known ∙ ap (λ o. has_some is_unevaluated (in_force o)) (sym c.in-Some.is)
