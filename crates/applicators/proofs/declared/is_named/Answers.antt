use Rattle.std.proofs.Common.{◌∙◌, ap, sym}
use Rattle.std.specs.Prelude.{is_some}
use Rattle.serde_json.proofs.Views.{view-lookup}
use Rattle.serde_json.specs.View.{view, members_view}
use Rattle.schema_meaning.specs.Members.{is_listed}
use Rattle.applicators.specs.Shapes.{names_declared}
use Rattle.applicators.proofs.DeclaredLemmas.{found_listed, same_there}
use Rattle.applicators.proofs.declared.is_named.Goals as goal

pub returns-in-Some : goal.returns-in-Some
returns-in-Some c =
    let name = c.args.name.now in
    let entries = c.in-Some.schemas.now.entries in
    c.contains_key.ensures ∙ same_there view _ ∙ ap is_some (view-lookup name entries) ∙ found_listed name (members_view entries)
    ∙ ap (λ o. is_listed name (names_declared o)) (sym c.in-Some.is)
