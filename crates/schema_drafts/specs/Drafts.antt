-- The drafts of JSON Schema.
use Rattle.std.specs.Prelude.{ℕ, List, [], ◌∷◌, ◌++◌, Bool, true, false, not, ◌||◌, codes, bytes_eq, if◌then◌else◌, Option, Some, None}
use Rattle.std.specs.List.{list_any}
use Rattle.schema_drafts.specs.declared.draft.Draft.{Draft}
use Rattle.schema_drafts.specs.declared.draft.Draft.TheVariants.{Draft4, Draft6, Draft7, Draft201909, Draft202012, Unknown}

abbrev pub is_listed : List ℕ → List (List ℕ) → Bool
is_listed k names = list_any (bytes_eq k) names

-- the URIs of the drafts' own meta-schemas; an empty fragment may stand behind each or be missing (Core 8.1.1)
abbrev pub known_schemas : List (List ℕ × Draft)
known_schemas =
    (codes "http://json-schema.org/draft-04/schema", Draft4)
    ∷ (codes "http://json-schema.org/draft-04/schema#", Draft4)
    ∷ (codes "http://json-schema.org/draft-06/schema", Draft6)
    ∷ (codes "http://json-schema.org/draft-06/schema#", Draft6)
    ∷ (codes "http://json-schema.org/draft-07/schema", Draft7)
    ∷ (codes "http://json-schema.org/draft-07/schema#", Draft7)
    ∷ (codes "https://json-schema.org/draft/2019-09/schema", Draft201909)
    ∷ (codes "https://json-schema.org/draft/2019-09/schema#", Draft201909)
    ∷ (codes "https://json-schema.org/draft/2020-12/schema", Draft202012)
    ∷ (codes "https://json-schema.org/draft/2020-12/schema#", Draft202012)
    ∷ []

abbrev pub draft_among : List (List ℕ × Draft) → List ℕ → Option Draft
draft_among [] uri = None
draft_among (row ∷ rest) uri = if bytes_eq row.0 uri then Some row.1 else draft_among rest uri

-- the draft that a `$schema` names, compared as a text
abbrev pub draft_named : List ℕ → Option Draft
draft_named uri = draft_among known_schemas uri

-- Drafts 4 to 7: what stands beside `$ref` is ignored (Draft 7, Core 8.3), in Drafts 6 and 7 where siblings are not read by an option
abbrev pub ignores_siblings : Bool → Draft → Bool
ignores_siblings siblings Draft4 = true
ignores_siblings siblings Draft6 = not siblings
ignores_siblings siblings Draft7 = not siblings
ignores_siblings siblings Draft201909 = false
ignores_siblings siblings Draft202012 = false
ignores_siblings siblings Unknown = false

-- the keyword of identifiers (Draft 4, Core 7.2; later Core 8.2.1)
abbrev pub identifier_name : Draft → List ℕ
identifier_name Draft4 = codes "id"
identifier_name Draft6 = codes "$id"
identifier_name Draft7 = codes "$id"
identifier_name Draft201909 = codes "$id"
identifier_name Draft202012 = codes "$id"
identifier_name Unknown = codes "$id"

-- the draft where nothing names one
abbrev pub newest : Draft
newest = Draft202012

abbrev pub or_unknown : Option Draft → Draft
or_unknown None = Unknown
or_unknown (Some draft) = draft

-- the draft by the text of a `$schema`
abbrev pub detected : Draft → Option (List ℕ) → Draft
detected draft None = draft
detected draft (Some uri) = or_unknown (draft_named uri)
