-- The first of the items or members that is no schema.
use Rattle.std.specs.Prelude.{ℕ, suc, List, Option, Some, None, if◌then◌else◌}
use Rattle.serde_json.specs.Data.{Items, no_items, item, Members, no_members, member}
use Rattle.schema_definitions.specs.Places.{is_schema}

-- its index, where the first item has index i
abbrev pub first_other_item : ℕ → Items → Option ℕ
first_other_item i no_items = None
first_other_item i (item d ds) = if is_schema d then first_other_item (suc i) ds else Some i

-- its name
abbrev pub first_other_member : Members → Option (List ℕ)
first_other_member no_members = None
first_other_member (member n d ms) = if is_schema d then first_other_member ms else Some n
