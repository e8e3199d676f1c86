use Rattle.std.proofs.Common.{◌≡◌, ◌<◌, ◌^◌, ◌+◌, drop}
use Rattle.serde_json.specs.View.{items_view, members_view}
use Rattle.schema_definitions.specs.Bearers.{schemas_named_in as those_in, schemas_named_among as those_among}
use Rattle.document_index.proofs.counting.+named.Given as goal

abbrev pub invariant-schemas_named_in-loop-item : goal.invariant-schemas_named_in-loop-item
invariant-schemas_named_in-loop-item l = record { fits : l.count < 2 ^ 64; counted : those_in (items_view l.items) ≡ l.count + those_in (items_view (drop l.item-index l.items)) }

abbrev pub invariant-schemas_named_among-loop-name : goal.invariant-schemas_named_among-loop-name
invariant-schemas_named_among-loop-name l = record { fits : l.count < 2 ^ 64; counted : those_among (members_view l.members.entries) ≡ l.count + those_among (members_view l.name-iterator) }
