-- What stands beside a member of a schema, as the code's neighbours tell it.
use Rattle.std.specs.Prelude.{◌≡◌, ℕ, List, Bool, codes, if◌then◌else◌, Option, Some, None, option_and_then}
use Rattle.serde_json.specs.Data.{Data, Items}
use Rattle.serde_json.specs.Find.{get_member, as_array}
use Rattle.serde_json.specs.View.{members_view}
use Rattle.schema_drafts.specs.Counts.{counts}
use Rattle.schema_definitions.specs.Places.{is_schema}
use Rattle.schema_meaning.specs.Questions.{Declared}
use Rattle.schema_dialects.specs.Dialects.{dialect_of}
use Rattle.schema_definitions.specs.Rows.{Context, has_reference, names_of_object}
use Rattle.applicator_reading.specs.declared.neighbours.Neighbours.{Neighbours}

abbrev pub counts_in : Neighbours → List ℕ → Bool
counts_in n k = counts (dialect_of n.dialect) (has_reference (members_view n.members.now.entries)) k

abbrev pub beside_in : Neighbours → List ℕ → Option Data
beside_in n k = if counts_in n k then get_member k (members_view n.members.now.entries) else None

abbrev pub declared_in : Neighbours → Declared
declared_in n = record { names = names_of_object (beside_in n (codes "properties")); patterns = names_of_object (beside_in n (codes "patternProperties")) }

abbrev pub list_in : Option Data → Option Items
list_in o = option_and_then as_array o

abbrev pub schema_in : Option Data → Option Data
schema_in o = option_and_then (λ d. if is_schema d then Some d else None) o

-- a context of the neighbours: their dialect, and the members of the schema
pub record Surrounds (n : Neighbours) (x : Context) : Type 0 where
  pub dialect : x.site.dialect ≡ dialect_of n.dialect
  pub members : x.members ≡ members_view n.members.now.entries
