use Rattle.std.proofs.Common.{◌≡◌}
use Rattle.serde_json.specs.View.{items_view}
use Rattle.schema_drafts.specs.Children.{among_items}
use Rattle.schema_drafts.proofs.children.next_named.Given as goal

abbrev pub invariant-loop-value : goal.invariant-loop-value
invariant-loop-value l = among_items (items_view l.fn.values) ≡ among_items (items_view l.values)
