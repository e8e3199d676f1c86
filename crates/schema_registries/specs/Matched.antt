-- Matches read of a value before its schemas.
use Rattle.std.specs.Prelude.{ℕ, List}
use Rattle.serde_json.specs.Data.{Data}
use Rattle.schema_definitions.specs.Lookup.{Target}
use Rattle.schema_patterns.specs.Texts.{texts_in}
use Rattle.schema_patterns.specs.Read.{IsReadBy}
use Rattle.schema_patterns.specs.declared.matches.Matches.{Matches}
use Rattle.reading_laws.specs.Asked.{AreAmong}
use Rattle.schema_registries.specs.Roots.{Root, Patterns, Finds, site_of_root}

-- each pattern of a schema that is reached from a root is among these
abbrev pub HoldsPatterns : Patterns → Root → List (List ℕ) → Type 0
HoldsPatterns p r patterns = (target : Target) → Finds r target → AreAmong r.documents p.makes (site_of_root r target) patterns

-- those of the patterns reached from a root, in the texts of a value
pub record AreReadOf (p : Patterns) (r : Root) (d : Data) (m : Matches) : Type 0 where
  pub patterns : List (List ℕ)
  pub hold : HoldsPatterns p r patterns
  pub read : IsReadBy p.finished patterns (texts_in d) m
