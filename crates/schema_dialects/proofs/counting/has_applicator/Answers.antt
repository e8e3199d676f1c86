use Rattle.std.proofs.Common.{◌∙◌, ap, sym}
use Rattle.schema_drafts.specs.Vocabularies.{has_some, is_applicator}
use Rattle.schema_dialects.specs.Dialects.{in_force}
use Rattle.schema_dialects.proofs.Alike.{marked_applicator}
use Rattle.schema_dialects.proofs.counting.has_applicator.Goals as goal

pub returns-in-Some : goal.returns-in-Some
returns-in-Some c = marked_applicator c.in-Some.known ∙ ap (λ o. has_some is_applicator (in_force o)) (sym c.in-Some.is)
