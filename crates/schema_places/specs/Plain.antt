-- Schemas that bear no name, name no meta-schema and refer to nothing.
use Rattle.std.specs.Prelude.{◌≡◌, ℕ, List, [], ◌∷◌, ◌==◌, Bool, true, false, not, ◌&&◌, ◌||◌, bytes_eq, codes}
use Rattle.serde_json.specs.Data.{Data, null, boolean, number, string, array, object, Members, no_members, member}

abbrev pub begins_with_dollar : List ℕ → Bool
begins_with_dollar [] = false
begins_with_dollar (b ∷ t) = b == 36

-- the keywords of identifiers, anchors, meta-schemas and references: each begins with `$` but the `id` of Draft 4
abbrev pub is_core_name : List ℕ → Bool
is_core_name k = begins_with_dollar k || bytes_eq k (codes "id")

abbrev pub has_core_name : Members → Bool
has_core_name no_members = false
has_core_name (member k d ms) = is_core_name k || has_core_name ms

-- no member has such a name
abbrev pub is_plain_schema : Data → Bool
is_plain_schema null = true
is_plain_schema (boolean b) = true
is_plain_schema (number n) = true
is_plain_schema (string s) = true
is_plain_schema (array ds) = true
is_plain_schema (object ms) = not (has_core_name ms)

abbrev pub IsPlain : Data → Type 0
IsPlain d = is_plain_schema d ≡ true
