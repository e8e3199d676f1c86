use Rattle.std.proofs.Common.{sym, ap, ◌∙◌}
use Rattle.serde_json.specs.View.{view, items_view}
use Rattle.serde_json.proofs.Views.{view-Object}
use Rattle.schema_drafts.specs.Subschemas.{holds_of}
use Rattle.schema_drafts.specs.Children.{among_items, in_map, schemas_held}
use Rattle.schema_drafts.proofs.Among.{among_values}
use Rattle.schema_drafts.proofs.children.Held.of_member.Goals as goal

pub returns-in-ByName-Object : goal.returns-in-ByName-Object
returns-in-ByName-Object c =
    let members = c.in-ByName-Object.members in
    let map_of = ap (λ h. schemas_held (holds_of h) (view c.args.value.now)) c.in-ByName-Object.is-0 ∙ ap (λ v. in_map (view v)) c.in-ByName-Object.is-1 ∙ ap in_map (view-Object members) in
    ap (λ vs. among_items (items_view vs)) c.values.ensures.rest ∙ among_values members.entries ∙ sym map_of
