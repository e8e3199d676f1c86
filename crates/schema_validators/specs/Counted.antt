-- How many compile keys are reached from a root.
use Rattle.std.specs.Prelude.{ℕ, [], ◌∷◌}
use Rattle.schema_definitions.specs.Lookup.{Target}
use Rattle.reached_sites.specs.Passed.{AreWithin}
use Rattle.schema_registries.specs.Roots.{Root, Patterns, Finds, site_of_root}

-- no more than a limit
abbrev pub IsWithin : Patterns → ℕ → Root → Type 0
IsWithin p limit r = (target : Target) → Finds r target → AreWithin r.documents p.makes (site_of_root r target ∷ []) limit
