-- The stages by which the dialects of meta-schemas are told, and when they are at rest (Core 8.1.1, 8.1.2).
use Rattle.std.specs.Prelude.{ℕ, suc, ◌<◌, ◌≤◌, ◌≡◌, List, [], ◌∷◌, true, if◌then◌else◌, Option, option_map}
use Rattle.std.specs.List.{AllByRecursion, flat_map}
use Rattle.schema_definitions.specs.Words.{listed}
use Rattle.schema_definitions.specs.Places.{Dialect, named_meta_schema}
use Rattle.schema_definitions.specs.Bearers.{Documents, Standing, standings, is_root, bearer_under, bearer, dialect_by, dialects, how_many, meta}
use Rattle.schema_definitions.specs.DocumentCauses.{DocumentCause, circular_metaschema, is_told_alike, told_anew}
use Rattle.document_laws.specs.Agreeing.{Agrees}

-- one stage more tells the same of all meta-schemas that are named at schema places
abbrev pub AtRest : Documents → ℕ → Type 0
AtRest docs n = AllByRecursion (Agrees (dialects docs n) (dialects docs (suc n))) (standings (dialects docs n) docs)

-- where n stages are at rest, no stage after the next tells another dialect of any URI
abbrev pub RestStays : Type 0
RestStays = (docs : Documents) (n : ℕ) → AtRest docs n → (m : ℕ) → n < m → (uri : List ℕ) → dialects docs m uri ≡ dialects docs (suc n) uri

-- and what any later stage tells of a meta-schema is the dialect by its bearer under what that stage tells
abbrev pub RestIsFixed : Type 0
RestIsFixed = (docs : Documents) (n : ℕ) → AtRest docs n → (m : ℕ) → n < m → (uri : List ℕ) → dialects docs m uri ≡ option_map dialect_by (bearer_under (dialects docs m) docs uri)

-- ---- what a stage tells anew

-- what counts as alike is the same
abbrev pub ToldAlikeIsSame : Type 0
ToldAlikeIsSame = (o p : Option Dialect) → (is_told_alike o p ≡ true → o ≡ p) × (o ≡ p → is_told_alike o p ≡ true)

-- the meta-schema that a schema place names, where two tell other dialects of it
abbrev pub unless_alike : (List ℕ → Option Dialect) → (List ℕ → Option Dialect) → List ℕ → List DocumentCause
unless_alike told after uri = if is_told_alike (told uri) (after uri) then [] else circular_metaschema uri ∷ []

abbrev pub anew_at : (List ℕ → Option Dialect) → (List ℕ → Option Dialect) → Standing → List DocumentCause
anew_at told after s = flat_map (unless_alike told after) (listed (named_meta_schema s.place.dialect.siblings (is_root s.place.path) s.place.contents))

-- those of which one stage more than n tells another dialect
abbrev pub anew_after : Documents → ℕ → List DocumentCause
anew_after docs n = flat_map (anew_at (dialects docs n) (dialects docs (suc n))) (standings (dialects docs n) docs)

-- there are none where n stages are at rest, and only there; the documents tell those anew that the last stage does
pub record RestTellsNoneAnew (docs : Documents) : Type 0 where
  pub none : (n : ℕ) → AtRest docs n → anew_after docs n ≡ []
  pub rests : (n : ℕ) → anew_after docs n ≡ [] → AtRest docs n
  pub last : told_anew docs ≡ anew_after docs (how_many docs)

abbrev pub OnlyRestTellsNoneAnew : Type 0
OnlyRestTellsNoneAnew = (docs : Documents) → RestTellsNoneAnew docs

-- ---- all that documents tell

-- where one of the stages that are counted is at rest, the documents tell what the next one does, and no meta-schema is told anew
pub record AllTold (docs : Documents) (n : ℕ) : Type 0 where
  pub told : (uri : List ℕ) → meta docs uri ≡ dialects docs (suc n) uri
  pub none_anew : told_anew docs ≡ []

abbrev pub RestIsTold : Type 0
RestIsTold = (docs : Documents) (n : ℕ) → AtRest docs n → n ≤ how_many docs → AllTold docs n

-- where none is told anew, the documents tell of each meta-schema the dialect by the schema that bears its URI
abbrev pub MetaIsFixed : Type 0
MetaIsFixed = (docs : Documents) → told_anew docs ≡ [] → (uri : List ℕ) → meta docs uri ≡ option_map dialect_by (bearer docs uri)
