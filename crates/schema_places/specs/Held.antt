-- What the value reached is to the schema place passed last, as the program has it.
use Rattle.std.specs.Prelude.{◌≡◌, ◌<◌, ◌^◌}
use Rattle.serde_json.specs.Data.{Data, array, Items}
use Rattle.serde_json.specs.Events.{items_len}
use Rattle.schema_drafts.specs.Subschemas.{holds_of}
use Rattle.schema_definitions.specs.Lookup.{Within, at_place, part_of}
use Rattle.schema_places.specs.declared.within.Within as code
use Rattle.schema_places.specs.declared.within.Within.TheVariants as variants

abbrev pub within_of : code.Within → Within
within_of variants.AtPlace = at_place
within_of (variants.PartOf held) = part_of (holds_of held)

-- a list that memory can hold
abbrev pub IsList : Data → Type 0
IsList d = (ds : Items) × (d ≡ array ds) × (items_len ds < 2 ^ 64)
