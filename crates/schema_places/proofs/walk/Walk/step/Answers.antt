use Rattle.std.proofs.Common.{arith, ap, ◌∙◌}
use Rattle.serde_json.specs.View.{view, items_view}
use Rattle.serde_json.proofs.Views.{view-Array, items_len-items_view}
use Rattle.schema_places.proofs.walk.Walk.step.Goals as goal

pub to_item-requires : goal.to_item-requires
to_item-requires c =
    let list = c.in-Array.field-0 in
    (items_view list.items, ap view c.in-Array.is ∙ view-Array list, omega (arith, items_len-items_view list.items, list.ok, list.small))
