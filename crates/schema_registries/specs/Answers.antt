-- What is answered of a value from a root on.
use Rattle.std.specs.Prelude.{ℕ, List, Bool}
use Rattle.serde_json.specs.Data.{Data}
use Rattle.schema_meaning.specs.Places.{whole}
use Rattle.schema_meaning.specs.Readings.{Telling, IsTold}
use Rattle.schema_meaning.specs.Circular.{IsCircular}
use Rattle.schema_definitions.specs.Lookup.{Target}
use Rattle.schema_definitions.specs.Sites.{Site}
use Rattle.schema_definitions.specs.Plain.{plain}
use Rattle.reading_laws.specs.Asked.{AreFinished}
use Rattle.schema_registries.specs.Roots.{Root, Patterns, Finds, site_of_root}

-- every match that a value asks for is finished, as `matches` says
abbrev pub Finish : Patterns → Root → (List ℕ → List ℕ → Bool) → Target → Data → Type 0
Finish p r matches target d = AreFinished r.documents p.makes (site_of_root r target) p.finished matches d

-- a chain of references comes back to where it was
abbrev pub ComesBack : Patterns → Root → (List ℕ → List ℕ → Bool) → Target → Data → Type 0
ComesBack p r matches target d = IsCircular (plain r.documents p.makes matches) (site_of_root r target) (whole d)

-- where the matches finish and no references come back, the answer is the decided one
abbrev pub IsAnswer : {A : Type 0} → Telling Site A → Patterns → Root → Data → A → Type 0
IsAnswer t p r d answer = (matches : List ℕ → List ℕ → Bool) (target : Target) → Finds r target → Finish p r matches target d
    → (ComesBack p r matches target d → ⊥) → IsTold t (plain r.documents p.makes matches) (site_of_root r target) (whole d) answer
