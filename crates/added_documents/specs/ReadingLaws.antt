-- What is read under documents to which others are added. Each statement is the contract of a function of this crate.
use Rattle.std.specs.Prelude.{ℕ, ◌≡◌, List, [], Bool, Ok}
use Rattle.serde_json.specs.Data.{Data}
use Rattle.schema_meaning.specs.Places.{whole}
use Rattle.schema_meaning.specs.Readings.{Telling, IsTold}
use Rattle.schema_meaning.specs.Circular.{IsCircular}
use Rattle.schema_meaning.specs.Cut.{cut}
use Rattle.schema_definitions.specs.Bearers.{Documents}
use Rattle.schema_definitions.specs.Lookup.{Target, lookup}
use Rattle.schema_definitions.specs.Sites.{Site, root_site}
use Rattle.schema_definitions.specs.Rows.{BuildCause, rows_at}
use Rattle.schema_definitions.specs.BuildCauses.{Reached, IsCauseOf}
use Rattle.schema_definitions.specs.Plain.{plain}
use Rattle.schema_definitions.specs.AllKeys.{keys_of}
use Rattle.added_documents.specs.Added.{IsFree, LeftAlone}

-- a root builds: the reference leads to it, and nothing is wrong at the schemas reached from there
pub record Builds (docs : Documents) (makes : List ℕ → Bool) (base reference : List ℕ) (root : Target) : Type 0 where
  pub found : lookup docs base reference ≡ Ok root
  pub right : (cause : BuildCause) → IsCauseOf docs makes (root_site root) cause → ⊥

-- it builds in the old documents, and no added document bears the base of a site that is reached
pub record StandsAlone (old more new : Documents) (makes : List ℕ → Bool) (base reference : List ℕ) (root : Target) : Type 0 where
  pub alone : LeftAlone old more new
  pub builds : Builds old makes base reference root
  pub free : (s : Site) → Reached old makes (root_site root) s → IsFree more new s.base

-- the same root builds, with the same sites reached, and the same at each of them
pub record SameSites (old new : Documents) (makes : List ℕ → Bool) (base reference : List ℕ) (root : Target) : Type 0 where
  pub builds : Builds new makes base reference root
  pub reached : (s : Site) → Reached old makes (root_site root) s → Reached new makes (root_site root) s
  pub no_more : (s : Site) → Reached new makes (root_site root) s → Reached old makes (root_site root) s
  pub rows : (s : Site) → Reached old makes (root_site root) s → rows_at new makes s ≡ rows_at old makes s

abbrev pub SitesStay : Type 0
SitesStay = (old more new : Documents) (makes : List ℕ → Bool) (base reference : List ℕ) (root : Target)
    → StandsAlone old more new makes base reference root → SameSites old new makes base reference root

-- of each value the same is told: by the cut reading always, and decided where the value is not circular
pub record SameAnswer {A : Type 0} (t : Telling Site A) (old new : Documents) (makes : List ℕ → Bool) (matches : List ℕ → List ℕ → Bool) (root : Target) (d : Data) : Type 0 where
  pub cut : cut t (plain new makes matches) (keys_of new d) [] (root_site root) (whole d) ≡ cut t (plain old makes matches) (keys_of old d) [] (root_site root) (whole d)
  pub circular : IsCircular (plain new makes matches) (root_site root) (whole d) → IsCircular (plain old makes matches) (root_site root) (whole d)
  pub circular_still : IsCircular (plain old makes matches) (root_site root) (whole d) → IsCircular (plain new makes matches) (root_site root) (whole d)
  pub told : (IsCircular (plain old makes matches) (root_site root) (whole d) → ⊥) → (x : A)
      → IsTold t (plain old makes matches) (root_site root) (whole d) x → IsTold t (plain new makes matches) (root_site root) (whole d) x

abbrev pub AnswersStay : (A : Type 0) → Type 0
AnswersStay A = (t : Telling Site A) (old more new : Documents) (makes : List ℕ → Bool) (base reference : List ℕ) (root : Target)
    → StandsAlone old more new makes base reference root → (matches : List ℕ → List ℕ → Bool) (d : Data) → SameAnswer t old new makes matches root d
