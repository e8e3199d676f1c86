-- Targets of references, and the list of the schema places of their document (Core 8.2.3.1; RFC 6901).
use Rattle.std.specs.Prelude.{ℕ, ◌≡◌, List, [], ◌∷◌, ◌++◌, true, Option, None, Ok}
use Rattle.std.specs.List.{list_all}
use Rattle.json_values.specs.Parts.{Part}
use Rattle.schema_meaning.specs.Members.{In}
use Rattle.schema_definitions.specs.Places.{Dialect}
use Rattle.schema_definitions.specs.Bearers.{Document, Documents, Standing, standings, meta}
use Rattle.schema_definitions.specs.DocumentCauses.{document_causes}
use Rattle.schema_definitions.specs.Lookup.{Target, lookup_under}
use Rattle.document_laws.specs.TargetLaws.{are_apart, contents_rise, IsTarget}

-- a schema place stands at this path of this document
pub record StandsAt (name : List ℕ) (at : List Part) (s : Standing) : Type 0 where
  pub document : s.document ≡ name
  pub path : s.place.path ≡ at

-- it stands where a target is, with the contents, the base and the dialect there
pub record IsThere (t : Target) (s : Standing) : Type 0 where
  pub at : StandsAt t.document t.path s
  pub contents : s.place.contents ≡ t.contents
  pub base : s.place.base ≡ t.base
  pub dialect : s.place.dialect ≡ t.dialect

-- it stands above this path of this document
pub record StandsAbove (name : List ℕ) (path : List Part) (s : Standing) : Type 0 where
  pub document : s.document ≡ name
  pub part : Part
  pub parts : List Part
  pub behind : path ≡ parts ++ part ∷ s.place.path

-- no schema place above it awaits its meta-schema
abbrev pub NoneAwaitsAbove : (List ℕ → Option Dialect) → List Document → List ℕ → List Part → Type 0
NoneAwaitsAbove told docs name path = (s : Standing) → In s (standings told docs) → StandsAbove name path s → s.place.awaits ≡ None

-- A target that is a schema place is one of the list, as long as no place above it awaits its meta-schema; and where the list has a place,
-- among documents whose names are apart, a target there is that place.
pub record AgreesWithList (told : List ℕ → Option Dialect) (docs : Documents) (t : Target) : Type 0 where
  pub listed : t.is_place ≡ true → NoneAwaitsAbove told docs t.document t.path → (s : Standing) × In s (standings told docs) × IsThere t s
  pub place : are_apart docs ≡ true → (s : Standing) → In s (standings told docs) → StandsAt t.document t.path s → (t.is_place ≡ true) × IsThere t s

-- the same by what the documents themselves tell, where nothing awaits
pub record IsAsListed (docs : Documents) (t : Target) : Type 0 where
  pub listed : t.is_place ≡ true → (s : Standing) × In s (standings (meta docs) docs) × IsThere t s
  pub place : are_apart docs ≡ true → (s : Standing) → In s (standings (meta docs) docs) → StandsAt t.document t.path s → (t.is_place ≡ true) × IsThere t s

-- of documents without a cause to be refused: each target is as the list has it
abbrev pub AreAsListed : List Document → Type 0
AreAsListed docs = (t : Target) → IsTarget docs t → IsAsListed docs t

-- and where their names are apart, two at one path are one, so that a path determines base and dialect there
abbrev pub AreOne : List Document → Type 0
AreOne docs = are_apart docs ≡ true → (t u : Target) → IsTarget docs t → IsTarget docs u → t.document ≡ u.document → t.path ≡ u.path → t ≡ u

-- where names rise, of each target: whatever is told of meta-schemas; by what the documents tell; and of documents without a cause
pub record TargetsAgree (docs : Documents) : Type 0 where
  pub plain : (told : List ℕ → Option Dialect) (base reference : List ℕ) (t : Target) → lookup_under told docs base reference ≡ Ok t → AgreesWithList told docs t
  pub each : (t : Target) → IsTarget docs t → AgreesWithList (meta docs) docs t
  pub accepted : document_causes docs ≡ [] → AreAsListed docs
  pub one : document_causes docs ≡ [] → AreOne docs

abbrev pub TargetsAreListed : Type 0
TargetsAreListed = (docs : Documents) → list_all contents_rise docs ≡ true → TargetsAgree docs

-- ---- the list itself

-- a place of a document is one schema place at most, with one base and one dialect; and nothing stands below one that awaits its meta-schema
pub record ListsOnce (told : List ℕ → Option Dialect) (docs : Documents) : Type 0 where
  pub once : (r s : Standing) → In r (standings told docs) → In s (standings told docs) → r.document ≡ s.document → r.place.path ≡ s.place.path → r ≡ s
  pub none_below : (s : Standing) → In s (standings told docs) → NoneAwaitsAbove told docs s.document s.place.path

abbrev pub PlacesAreOne : Type 0
PlacesAreOne = (docs : Documents) → are_apart docs ≡ true → list_all contents_rise docs ≡ true → (told : List ℕ → Option Dialect) → ListsOnce told docs

-- by what the documents themselves tell, where their names are apart
abbrev pub ListOnce : List Document → Type 0
ListOnce docs = are_apart docs ≡ true → ListsOnce (meta docs) docs

-- documents without a cause await nothing
abbrev pub CauselessAwaitNothing : Type 0
CauselessAwaitNothing = (docs : Documents) → document_causes docs ≡ [] → (s : Standing) → In s (standings (meta docs) docs) → s.place.awaits ≡ None
