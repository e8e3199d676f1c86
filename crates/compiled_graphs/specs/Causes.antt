-- When several roots are refused.
use Rattle.std.specs.Prelude.{◌≡◌, ◌⊎◌, ℕ, List, Bool}
use Rattle.schema_definitions.specs.Bearers.{Document, Documents}
use Rattle.schema_definitions.specs.Sites.{Site}
use Rattle.reading_laws.specs.Keys.{Exceeds}
use Rattle.reached_sites.specs.declared.cause.BuildCause.{BuildCause}
use Rattle.reached_sites.specs.declared.cause.BuildCause.TheVariants.{NodeLimit, Memory}
use Rattle.compiled_graphs.specs.Starts.{sites_from}

-- more compile keys are reached from some roots than a limit
pub record AreExceeded (docs : Documents) (makes : List ℕ → Bool) (roots : List Site) (limit : ℕ) (e : BuildCause) : Type 0 where
  pub named : e ≡ NodeLimit limit
  pub exceeds : Exceeds docs makes roots limit

abbrev pub RefusesEach : Documents → (List ℕ → Bool) → List Site → ℕ → BuildCause → Type 0
RefusesEach docs makes roots limit e = AreExceeded docs makes roots limit e ⊎ (e ≡ Memory)

-- those that some references from a base lead to
abbrev pub RefusesFrom : (List ℕ → Bool) → List Document → List ℕ → List (List ℕ) → ℕ → BuildCause → Type 0
RefusesFrom makes own base references limit e = RefusesEach own makes (sites_from own base references) limit e
