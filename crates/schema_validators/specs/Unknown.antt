-- Members of schemas whose names are no keywords of the drafts there.
use Rattle.std.specs.Prelude.{ℕ, List, [], ◌∷◌, ◌++◌, Bool, true, false, not, ◌||◌, codes, string_bytes, if◌then◌else◌, Option}
use Rattle.std.specs.List.{flat_map}
use Rattle.serde_json.specs.Data.{Data, null, boolean, number, string, array, object, Members, no_members, member}
use Rattle.json_values.specs.Parts.{name}
use Rattle.schema_meaning.specs.Members.{is_listed}
use Rattle.schema_drafts.specs.Counts.{is_known}
use Rattle.schema_drafts.specs.declared.draft.Draft.{Draft}
use Rattle.schema_drafts.specs.declared.draft.Draft.TheVariants.{Draft4, Draft6, Draft7, Draft201909, Draft202012, Unknown}
use Rattle.schema_definitions.specs.Bearers.{Document, meta, document_name}
use Rattle.schema_definitions.specs.Places.{SchemaPlace, Dialect, places}
use Rattle.schema_definitions.specs.Rows.{Place}
use Rattle.reached_sites.specs.Places.{place_in}
use Rattle.schema_validators.specs.declared.unknown.UnknownKeyword.{UnknownKeyword}

-- ---- keywords that tell of a schema, or of what a text holds, and assert nothing (Validation 7, 8, 9)

abbrev pub told_in_draft_4 : List (List ℕ)
told_in_draft_4 = codes "title" ∷ codes "description" ∷ codes "default" ∷ codes "format" ∷ []

abbrev pub told_in_draft_6 : List (List ℕ)
told_in_draft_6 = codes "examples" ∷ told_in_draft_4

abbrev pub told_in_draft_7 : List (List ℕ)
told_in_draft_7 = codes "readOnly" ∷ codes "writeOnly" ∷ codes "contentEncoding" ∷ codes "contentMediaType" ∷ told_in_draft_6

abbrev pub told_in_2019 : List (List ℕ)
told_in_2019 = codes "deprecated" ∷ codes "contentSchema" ∷ told_in_draft_7

abbrev pub told_in : Draft → List (List ℕ)
told_in Draft4 = told_in_draft_4
told_in Draft6 = told_in_draft_6
told_in Draft7 = told_in_draft_7
told_in Draft201909 = told_in_2019
told_in Draft202012 = told_in_2019
told_in Unknown = told_in_2019

-- ---- unknown ones

abbrev pub is_unknown : Draft → List ℕ → Bool
is_unknown draft k = not (is_known draft k || is_listed k (told_in draft))

-- one of them: where it stands, its name, and by which draft it is unknown
pub record UnknownName : Type 0 where
  pub place : Place
  pub text : List ℕ
  pub draft : Draft

abbrev pub unknown_name : List ℕ → SchemaPlace → List ℕ → UnknownName
unknown_name document p k = record { place = record { document = document; path = name k ∷ p.path }; text = k; draft = p.dialect.draft }

-- those of a schema, in the order of its members
abbrev pub unknown_among : List ℕ → SchemaPlace → Members → List UnknownName
unknown_among document p no_members = []
unknown_among document p (member k d ms) = (if is_unknown p.dialect.draft k then unknown_name document p k ∷ [] else []) ++ unknown_among document p ms

abbrev pub unknown_in_schema : List ℕ → SchemaPlace → Data → List UnknownName
unknown_in_schema document p null = []
unknown_in_schema document p (boolean b) = []
unknown_in_schema document p (number n) = []
unknown_in_schema document p (string t) = []
unknown_in_schema document p (array ds) = []
unknown_in_schema document p (object ms) = unknown_among document p ms

abbrev pub unknown_at : List ℕ → SchemaPlace → List UnknownName
unknown_at document p = unknown_in_schema document p p.contents

-- those of a document's schema places, in the order of these
abbrev pub unknown_under : (List ℕ → Option Dialect) → Document → List UnknownName
unknown_under told d = flat_map (unknown_at (document_name d)) (places told d.uri d.default d.contents)

abbrev pub unknown_of : List Document → Document → List UnknownName
unknown_of documents d = unknown_under (meta documents) d

-- what the code's keyword stands for
abbrev pub unknown_from : UnknownKeyword → UnknownName
unknown_from u = record { place = place_in u.place; text = string_bytes u.name; draft = u.draft }
