-- All that is wrong at what is reached from a root, as it is told.
use Rattle.std.specs.Prelude.{◌≡◌, ◌⊎◌, ℕ, List, ◌∷◌, ◌++◌, Bool, Some, map, slice_get}
use Rattle.schema_meaning.specs.Members.{In}
use Rattle.schema_definitions.specs.Bearers.{Documents}
use Rattle.schema_definitions.specs.BuildCauses.{Reached, IsCauseOf, causes_at}
use Rattle.schema_definitions.specs.Rows as rows
use Rattle.schema_definitions.specs.Rows.{rows_at, identifier_causes}
use Rattle.schema_definitions.specs.Sites.{Site}
use Rattle.referencing.specs.Resolved.{documents_in}
use Rattle.reached_sites.specs.Causes.{NamesCause, IsExceeded}
use Rattle.reached_sites.specs.Visits.{site_of}
use Rattle.reached_sites.specs.declared.cause.BuildCause as refused
use Rattle.reached_sites.specs.declared.cause.BuildCause.TheVariants.{Memory}
use Rattle.reached_sites.specs.declared.visit.Visit.{Visit}

-- what is wrong at a site: at its identifier, and at each of its members by itself
abbrev pub causes_apart : Documents → (List ℕ → Bool) → Site → List (List rows.BuildCause)
causes_apart docs makes s = identifier_causes s ∷ map (λ r. r.causes) (rows_at docs makes s)

-- one of some causes is told
pub record IsTold (told : List refused.BuildCause) (causes : List rows.BuildCause) : Type 0 where
  pub error : refused.BuildCause
  pub listed : In error told
  pub cause : rows.BuildCause
  pub named : NamesCause cause error
  pub stands : In cause causes

-- all that is told is wrong at what is reached from a root; and of each identifier and each member there at which something is wrong one cause is told
pub record AreCausesOf (docs : Documents) (makes : List ℕ → Bool) (root : Site) (told : List refused.BuildCause) : Type 0 where
  pub each : (e : refused.BuildCause) → In e told → (c : rows.BuildCause) × NamesCause c e × IsCauseOf docs makes root c
  pub every : (s : Site) → Reached docs makes root s → (cs : List rows.BuildCause) → In cs (causes_apart docs makes s) → (c : rows.BuildCause) → In c cs → IsTold told cs

-- they are not told: more compile keys are reached than a limit, or memory is wanted
abbrev pub RefusesTelling : Documents → (List ℕ → Bool) → Site → ℕ → refused.BuildCause → Type 0
RefusesTelling docs makes root limit e = IsExceeded docs makes root limit e ⊎ (e ≡ Memory)

-- ---- told one after another

-- of lists of causes one of each is put behind others
pub record TellsEach (apart : List (List rows.BuildCause)) (old new : List refused.BuildCause) : Type 0 where
  pub added : List refused.BuildCause
  pub grown : new ≡ old ++ added
  pub each : (e : refused.BuildCause) → In e added → (cs : List rows.BuildCause) × In cs apart × ((c : rows.BuildCause) × NamesCause c e × In c cs)
  pub every : (cs : List rows.BuildCause) → In cs apart → (c : rows.BuildCause) → In c cs → IsTold added cs

abbrev pub apart_at : (List ℕ → Bool) → Visit → List (List rows.BuildCause)
apart_at makes v = causes_apart (documents_in v.site.resolver) makes (site_of v)

-- of visits, those at some positions
pub record TellsVisits (makes : List ℕ → Bool) (vs : List Visit) (wrong : List ℕ) (told : List refused.BuildCause) : Type 0 where
  pub each : (e : refused.BuildCause) → In e told → (v : Visit) × In v vs × ((c : rows.BuildCause) × NamesCause c e × In c (causes_at (documents_in v.site.resolver) makes (site_of v)))
  pub every : (i : ℕ) → In i wrong → (v : Visit) → slice_get vs i ≡ Some v → (cs : List rows.BuildCause) → In cs (apart_at makes v) → (c : rows.BuildCause) → In c cs → IsTold told cs
