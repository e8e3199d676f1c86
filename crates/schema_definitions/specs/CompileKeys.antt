-- Compile keys: what a compiled schema is found again by.
use Rattle.std.specs.Prelude.{ℕ, List, [], ◌∷◌, map, Option, bytes_eq, is_some, if◌then◌else◌}
use Rattle.std.specs.List.{list_any, flat_map}
use Rattle.json_values.specs.Parts.{Part}
use Rattle.schema_definitions.specs.Words.{last_that}
use Rattle.schema_definitions.specs.Identifiers.{dynamic_anchors}
use Rattle.schema_definitions.specs.Places.{Dialect}
use Rattle.schema_definitions.specs.Bearers.{Standing, Documents, standings, meta, dynamically_anchored}
use Rattle.schema_definitions.specs.Scopes.{recurs, end_of_run}
use Rattle.schema_definitions.specs.Sites.{Site}

-- the texts by their first occurrence
abbrev pub first_ones : List (List ℕ) → List (List ℕ) → List (List ℕ)
first_ones seen [] = []
first_ones seen (u ∷ us) = if list_any (bytes_eq u) seen then first_ones seen us else u ∷ first_ones (u ∷ seen) us

-- the names that a schema place bears as dynamic anchors
abbrev pub names_at : Standing → List (List ℕ)
names_at s = dynamic_anchors s.place.dialect s.place.contents

-- each name that some place of the documents bears as a dynamic anchor, once
unfoldable pub dynamic_names : Documents → List (List ℕ)
dynamic_names docs = first_ones [] (flat_map names_at (standings (meta docs) docs))

-- the outermost resource of a scope that bears a name as a dynamic anchor
abbrev pub outermost_bearer : Documents → List (List ℕ) → List ℕ → Option (List ℕ)
outermost_bearer docs scope k = last_that (λ u. is_some (dynamically_anchored docs u k)) scope

abbrev pub run_end : Documents → List ℕ → List (List ℕ) → List ℕ
run_end docs base scope = if recurs docs base then end_of_run docs base scope else base

-- What of a scope a reference can depend on, and no more: for each name that is a dynamic anchor the outermost resource that bears it,
-- and the end of the run of recursive ones.
pub record ScopeKey : Type 0 where
  pub bearers : List (Option (List ℕ))
  pub run : List ℕ

abbrev pub scope_key : Documents → List ℕ → List (List ℕ) → ScopeKey
scope_key docs base scope = record { bearers = map (outermost_bearer docs scope) (dynamic_names docs); run = run_end docs base scope }

-- two sites with one key are one node; the absolute location of a schema is determined by its place and base
pub record CompileKey : Type 0 where
  pub document : List ℕ
  pub path : List Part
  pub base : List ℕ
  pub scope : ScopeKey
  pub dialect : Dialect
  pub schema_path : List Part

abbrev pub compile_key : Documents → Site → CompileKey
compile_key docs s = record { document = s.document; path = s.path; base = s.base; scope = scope_key docs s.base s.scope; dialect = s.dialect; schema_path = s.schema_path }
