-- How many compile keys are reached from some roots.
use Rattle.std.specs.Prelude.{ℕ, ◌≡◌, ◌≤◌, ◌<◌, List, [], ◌∷◌, Bool, length}
use Rattle.schema_meaning.specs.Members.{In}
use Rattle.schema_definitions.specs.Bearers.{Documents}
use Rattle.schema_definitions.specs.BuildCauses.{Reached}
use Rattle.schema_definitions.specs.CompileKeys.{CompileKey, compile_key}
use Rattle.schema_definitions.specs.Sites.{Site}
use Rattle.reading_laws.specs.Spelled.{spelled}

-- no element stands twice
abbrev pub Distinct : {A : Type 0} → List A → Type 0
Distinct [] = Unit {0}
Distinct (x ∷ xs) = (In x xs → ⊥) × Distinct xs

-- the key of a site: its schema path counts as its text does
abbrev pub key_of_site : Documents → Site → CompileKey
key_of_site docs s = compile_key docs (record s { schema_path = spelled s.schema_path })

-- the key of a site that is reached from one of the roots
pub record IsReached (docs : Documents) (makes : List ℕ → Bool) (roots : List Site) (key : CompileKey) : Type 0 where
  pub root : Site
  pub listed : In root roots
  pub site : Site
  pub reached : Reached docs makes root site
  pub named : key_of_site docs site ≡ key

-- distinct keys, each of them reached
pub record AreKeys (docs : Documents) (makes : List ℕ → Bool) (roots : List Site) (keys : List CompileKey) : Type 0 where
  pub distinct : Distinct keys
  pub reached : (key : CompileKey) → In key keys → IsReached docs makes roots key

-- more keys are reached than a limit
pub record Exceeds (docs : Documents) (makes : List ℕ → Bool) (roots : List Site) (limit : ℕ) : Type 0 where
  pub keys : List CompileKey
  pub are : AreKeys docs makes roots keys
  pub more : limit < length keys

-- no more are
abbrev pub AreWithin : Documents → (List ℕ → Bool) → List Site → ℕ → Type 0
AreWithin docs makes roots limit = (keys : List CompileKey) → AreKeys docs makes roots keys → length keys ≤ limit
