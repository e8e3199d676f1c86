use Rattle.std.proofs.Common.{◌∙◌, ap, sym}
use Rattle.schema_drafts.specs.Vocabularies.{has_some, is_validation}
use Rattle.schema_dialects.specs.Dialects.{in_force}
use Rattle.schema_dialects.proofs.Alike.{marked_validation}
use Rattle.schema_dialects.proofs.counting.has_validation.Goals as goal

pub returns-in-Some : goal.returns-in-Some
returns-in-Some c = marked_validation c.in-Some.known ∙ ap (λ o. has_some is_validation (in_force o)) (sym c.in-Some.is)
