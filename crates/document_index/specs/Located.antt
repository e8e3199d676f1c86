-- The schema places of several documents, each with its document's position.
use Rattle.std.specs.Prelude.{ℕ, List, Bool, map, Option}
use Rattle.std.specs.List.{enumerate_from, flat_map}
use Rattle.json_values.specs.Parts.{Part}
use Rattle.schema_definitions.specs.Words.{last_that}
use Rattle.schema_definitions.specs.Places.{Dialect}
use Rattle.schema_definitions.specs.Bearers.{Document, Standing, standing_in}

-- a schema place, and its document's position
pub record Located : Type 0 where
  pub document : ℕ
  pub standing : Standing

-- those of the document at a position, under what is told of meta-schemas
abbrev pub standings_at : (List ℕ → Option Dialect) → ℕ × Document → List Located
standings_at meta e = map (λ s. record { document = e.0; standing = s }) (standing_in meta e.1)

-- those of documents in their order
unfoldable pub located_standings : (List ℕ → Option Dialect) → List Document → List Located
located_standings meta documents = flat_map (standings_at meta) (enumerate_from 0 documents)

-- the last that passes
abbrev pub last_located : (Standing → Bool) → List Located → Option Located
last_located test all = last_that (λ l. test l.standing) all

-- what is kept of a bearer
pub record Kept : Type 0 where
  pub document : ℕ
  pub path : List Part
  pub base : List ℕ
  pub dialect : Dialect

abbrev pub kept_of : Located → Kept
kept_of l = record { document = l.document; path = l.standing.place.path; base = l.standing.place.base; dialect = l.standing.place.dialect }
