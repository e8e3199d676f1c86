-- What the documents tell of a value from a root on.
use Rattle.std.specs.Prelude.{ℕ, List, Bool}
use Rattle.serde_json.specs.Data.{Data}
use Rattle.schema_meaning.specs.Places.{whole}
use Rattle.schema_meaning.specs.Faults.{Fault, Faults, Told}
use Rattle.schema_meaning.specs.Order.{SameFaults}
use Rattle.schema_meaning.specs.Readings.{bags, IsTold}
use Rattle.schema_definitions.specs.Lookup.{Target}
use Rattle.schema_definitions.specs.Plain.{plain}
use Rattle.linked_meanings.specs.Moved.{moved}
use Rattle.reading_laws.specs.Spelled.{spelled}
use Rattle.schema_registries.specs.Roots.{Root, Patterns, Finds, site_of_root}
use Rattle.schema_registries.specs.Answers.{Finish, ComesBack}

-- this holds where the matches finish and no references come back
abbrev pub WhereDecided : Patterns → Root → Data → ((List ℕ → List ℕ → Bool) → Target → Type 0) → Type 0
WhereDecided p r d Holds = (matches : List ℕ → List ℕ → Bool) (target : Target) → Finds r target → Finish p r matches target d → (ComesBack p r matches target d → ⊥) → Holds matches target

-- some faults are those that the plain reading tells, each as often, in any order, with schema paths as pointers spell them
pub record AreThose (p : Patterns) (r : Root) (matches : List ℕ → List ℕ → Bool) (target : Target) (d : Data) (fs : Faults) : Type 0 where
  pub faults : Faults
  pub told : IsTold bags (plain r.documents p.makes matches) (site_of_root r target) (whole d) faults
  pub same : SameFaults fs (moved spelled faults)

abbrev pub AreFaults : Patterns → Root → Data → Faults → Type 0
AreFaults p r d fs = WhereDecided p r d (λ matches target. AreThose p r matches target d fs)

-- one of them
pub record IsThere (p : Patterns) (r : Root) (matches : List ℕ → List ℕ → Bool) (target : Target) (d : Data) (f : Fault) : Type 0 where
  pub faults : Faults
  pub those : AreThose p r matches target d faults
  pub told : Told f faults

abbrev pub IsFault : Patterns → Root → Data → Fault → Type 0
IsFault p r d f = WhereDecided p r d (λ matches target. IsThere p r matches target d f)
