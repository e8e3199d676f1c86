-- All that is wrong with a root.
use Rattle.std.specs.Prelude.{◌≡◌, ◌⊎◌, ℕ, List, [], true, is_ok}
use Rattle.schema_definitions.specs.Lookup.{Target, lookup}
use Rattle.reached_sites.specs.Causes.{IsExceeded}
use Rattle.reached_sites.specs.declared.cause.BuildCause as reached
use Rattle.compiled_graphs.specs.Told.{AreCausesOf}
use Rattle.schema_registries.specs.Roots.{Root, Patterns, Finds, IsSound, site_of_root}
use Rattle.schema_validators.specs.Refused.{RefusesReference}
use Rattle.schema_validators.specs.declared.error.BuildError.{BuildError}
use Rattle.schema_validators.specs.declared.error.BuildError.TheVariants as error

-- The reference leads somewhere; each that is listed is a cause of the root, and of each identifier and each member there at which something is
-- wrong one cause is listed.
pub record ListsCauses (p : Patterns) (r : Root) (listed : List reached.BuildCause) : Type 0 where
  pub found : is_ok (lookup r.documents r.base r.reference) ≡ true
  pub causes : (target : Target) → Finds r target → AreCausesOf r.documents p.makes (site_of_root r target) listed

-- none is listed exactly where the root may be read
abbrev pub NoneWhereSound : Patterns → Root → List reached.BuildCause → Type 0
NoneWhereSound p r listed = (listed ≡ [] → IsSound p r) × (IsSound p r → listed ≡ [])

-- more compile keys are reached than the limit
pub record IsTooMuch (p : Patterns) (limit : ℕ) (r : Root) (e : BuildError) : Type 0 where
  pub cause : reached.BuildCause
  pub is : e ≡ error.Schema cause
  pub target : Target
  pub found : Finds r target
  pub exceeded : IsExceeded r.documents p.makes (site_of_root r target) limit cause

-- they are not listed: the reference leads nowhere, too much is reached, or memory is wanted
abbrev pub RefusesListing : Patterns → ℕ → Root → BuildError → Type 0
RefusesListing p limit r e = RefusesReference r e ⊎ IsTooMuch p limit r e
