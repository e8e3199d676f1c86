-- The schemas directly inside a schema (the applicators of Core 10, and `$defs` and its like of Core 8.2.4), in the order of its members and their items.
use Rattle.std.specs.Prelude.{List, [], ◌∷◌, ◌++◌, Bool, true, false, if◌then◌else◌}
use Rattle.serde_json.specs.Data.{Data, null, boolean, number, string, array, object, Items, no_items, item, Members, no_members, member}
use Rattle.schema_drafts.specs.Subschemas.{Holds, nothing, one, several, one_or_several, by_name, held_by}
use Rattle.schema_drafts.specs.Vocabularies.{Dialect}
use Rattle.schema_drafts.specs.Identifiers.{is_hidden}
use Rattle.schema_drafts.specs.declared.draft.Draft.{Draft}

-- objects and booleans are schemas (Core 4.3), by each draft alike
abbrev pub is_schema : Data → Bool
is_schema null = false
is_schema (boolean b) = true
is_schema (number n) = false
is_schema (string s) = false
is_schema (array ds) = false
is_schema (object ms) = true

abbrev pub if_schema : Data → List Data
if_schema d = if is_schema d then d ∷ [] else []

-- the schemas among the items of a list
abbrev pub among_items : Items → List Data
among_items no_items = []
among_items (item d ds) = if_schema d ++ among_items ds

-- the schemas among the values of an object
abbrev pub among_members : Members → List Data
among_members no_members = []
among_members (member k d ms) = if_schema d ++ among_members ms

abbrev pub in_list : Data → List Data
in_list null = []
in_list (boolean b) = []
in_list (number n) = []
in_list (string s) = []
in_list (array ds) = among_items ds
in_list (object ms) = []

abbrev pub in_map : Data → List Data
in_map null = []
in_map (boolean b) = []
in_map (number n) = []
in_map (string s) = []
in_map (array ds) = []
in_map (object ms) = among_members ms

-- the schemas that a member has, by what it holds
abbrev pub schemas_held : Holds → Data → List Data
schemas_held nothing d = []
schemas_held one d = if_schema d
schemas_held several d = in_list d
schemas_held one_or_several d = if_schema d ++ in_list d
schemas_held by_name d = in_map d

abbrev pub of_members : Draft → Bool → Members → List Data
of_members draft hidden no_members = []
of_members draft hidden (member k d ms) = schemas_held (held_by draft hidden k) d ++ of_members draft hidden ms

-- the schemas directly inside a value: none but in an object
abbrev pub subschemas : Dialect → Data → List Data
subschemas e null = []
subschemas e (boolean b) = []
subschemas e (number n) = []
subschemas e (string s) = []
subschemas e (array ds) = []
subschemas e (object ms) = of_members e.draft (is_hidden e (object ms)) ms
