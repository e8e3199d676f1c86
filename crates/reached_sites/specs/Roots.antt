-- Roots in documents that can be told apart.
use Rattle.std.specs.Prelude.{◌≡◌, ℕ, List, true}
use Rattle.std.specs.List.{list_all}
use Rattle.schema_definitions.specs.Bearers.{Document}
use Rattle.schema_definitions.specs.Lookup.{Target}
use Rattle.schema_definitions.specs.Scopes.{entered_scope}
use Rattle.schema_definitions.specs.Sites.{Site, root_site}
use Rattle.document_laws.specs.TargetLaws.{are_apart, contents_rise, IsTarget}

-- their names are apart, their names rise, and the root is a place of theirs that a reference leads to
pub record IsPlaced (own : List Document) (root : Target) : Type 0 where
  pub apart : are_apart own ≡ true
  pub rise : list_all contents_rise own ≡ true
  pub target : IsTarget own root

-- a root whose base is entered behind the resources of a scope, from the present base on
abbrev pub root_behind : List ℕ → List (List ℕ) → Target → Site
root_behind base scope t = record (root_site t) { scope = entered_scope t.base base scope }
