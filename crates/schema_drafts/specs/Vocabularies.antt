-- Vocabularies (Core 8.1.2).
use Rattle.std.specs.Prelude.{ℕ, List, [], ◌∷◌, ◌++◌, Bool, true, false, ◌||◌, ◌&&◌, codes, bytes_eq, nat_eq, if◌then◌else◌, Option, Some, None}
use Rattle.std.specs.List.{list_any, filter}
use Rattle.schema_drafts.specs.declared.draft.Draft.{Draft}

pub data Vocabulary : Type 0 where
  core : Vocabulary
  applicator : Vocabulary
  unevaluated : Vocabulary
  validation : Vocabulary
  metadata : Vocabulary
  format : Vocabulary
  format_annotation : Vocabulary
  format_assertion : Vocabulary
  content : Vocabulary
  custom : List ℕ → Vocabulary

abbrev pub of_2019 : List (List ℕ × Vocabulary)
of_2019 =
    (codes "https://json-schema.org/draft/2019-09/vocab/core", core)
    ∷ (codes "https://json-schema.org/draft/2019-09/vocab/applicator", applicator)
    ∷ (codes "https://json-schema.org/draft/2019-09/vocab/validation", validation)
    ∷ (codes "https://json-schema.org/draft/2019-09/vocab/meta-data", metadata)
    ∷ (codes "https://json-schema.org/draft/2019-09/vocab/format", format)
    ∷ (codes "https://json-schema.org/draft/2019-09/vocab/content", content)
    ∷ []

abbrev pub of_2020 : List (List ℕ × Vocabulary)
of_2020 =
    (codes "https://json-schema.org/draft/2020-12/vocab/core", core)
    ∷ (codes "https://json-schema.org/draft/2020-12/vocab/applicator", applicator)
    ∷ (codes "https://json-schema.org/draft/2020-12/vocab/unevaluated", unevaluated)
    ∷ (codes "https://json-schema.org/draft/2020-12/vocab/validation", validation)
    ∷ (codes "https://json-schema.org/draft/2020-12/vocab/meta-data", metadata)
    ∷ (codes "https://json-schema.org/draft/2020-12/vocab/format-annotation", format_annotation)
    ∷ (codes "https://json-schema.org/draft/2020-12/vocab/format-assertion", format_assertion)
    ∷ (codes "https://json-schema.org/draft/2020-12/vocab/content", content)
    ∷ []

abbrev pub vocabulary_among : List (List ℕ × Vocabulary) → List ℕ → Vocabulary
vocabulary_among [] uri = custom uri
vocabulary_among (row ∷ rest) uri = if bytes_eq row.0 uri then row.1 else vocabulary_among rest uri

-- the vocabulary of a URI: one known to either draft, or a custom one
abbrev pub vocabulary_named : List ℕ → Vocabulary
vocabulary_named uri = vocabulary_among (of_2019 ++ of_2020) uri

abbrev pub is_applicator : Vocabulary → Bool
is_applicator core = false
is_applicator applicator = true
is_applicator unevaluated = false
is_applicator validation = false
is_applicator metadata = false
is_applicator format = false
is_applicator format_annotation = false
is_applicator format_assertion = false
is_applicator content = false
is_applicator (custom uri) = false

abbrev pub is_validation : Vocabulary → Bool
is_validation core = false
is_validation applicator = false
is_validation unevaluated = false
is_validation validation = true
is_validation metadata = false
is_validation format = false
is_validation format_annotation = false
is_validation format_assertion = false
is_validation content = false
is_validation (custom uri) = false

abbrev pub is_unevaluated : Vocabulary → Bool
is_unevaluated core = false
is_unevaluated applicator = false
is_unevaluated unevaluated = true
is_unevaluated validation = false
is_unevaluated metadata = false
is_unevaluated format = false
is_unevaluated format_annotation = false
is_unevaluated format_assertion = false
is_unevaluated content = false
is_unevaluated (custom uri) = false

-- the vocabularies of a schema: all of its draft, or those that its meta-schema requires
pub data Vocabularies : Type 0 where
  all_of_draft : Vocabularies
  only : List Vocabulary → Vocabularies

-- the dialect of a schema: its draft, the vocabularies in force, and whether what stands beside `$ref` is read in Drafts 6 and 7 (an option)
pub record Dialect : Type 0 where
  pub draft : Draft
  pub vocabularies : Vocabularies
  pub siblings : Bool

-- a draft with all its vocabularies, as its own meta-schema gives it
abbrev pub standard : Bool → Draft → Dialect
standard siblings draft = record { draft = draft; vocabularies = all_of_draft; siblings = siblings }

abbrev pub has_some : (Vocabulary → Bool) → Vocabularies → Bool
has_some test all_of_draft = true
has_some test (only vs) = list_any test vs

-- ---- those that the drafts know

abbrev pub the_known : List Vocabulary
the_known = core ∷ applicator ∷ unevaluated ∷ validation ∷ metadata ∷ format ∷ format_annotation ∷ format_assertion ∷ content ∷ []

abbrev pub number_of : Vocabulary → ℕ
number_of core = 0
number_of applicator = 1
number_of unevaluated = 2
number_of validation = 3
number_of metadata = 4
number_of format = 5
number_of format_annotation = 6
number_of format_assertion = 7
number_of content = 8
number_of (custom uri) = 9

abbrev pub uri_of : Vocabulary → List ℕ
uri_of core = []
uri_of applicator = []
uri_of unevaluated = []
uri_of validation = []
uri_of metadata = []
uri_of format = []
uri_of format_annotation = []
uri_of format_assertion = []
uri_of content = []
uri_of (custom uri) = uri

-- of one kind, and custom ones under one URI
abbrev pub is_same : Vocabulary → Vocabulary → Bool
is_same v w = nat_eq (number_of v) (number_of w) && bytes_eq (uri_of v) (uri_of w)

-- those of a list that the drafts know, each once and in one order: no keyword of the drafts is of a custom one
abbrev pub known_among : List Vocabulary → List Vocabulary
known_among vs = filter (λ v. list_any (is_same v) vs) the_known
