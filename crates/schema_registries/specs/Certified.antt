-- What is answered of a value, and the chains of obliged steps to keywords that refuse it.
use Rattle.std.specs.Prelude.{◌≡◌, ℕ, List, Bool, false}
use Rattle.serde_json.specs.Data.{Data}
use Rattle.schema_meaning.specs.Faults.{Fault, Faults, instance_path, evaluation_path, Told}
use Rattle.schema_definitions.specs.Lookup.{Target}
use Rattle.schema_definitions.specs.PathTexts.{path_text}
use Rattle.schema_definitions.specs.Plain.{plain}
use Rattle.certificate_laws.specs.Spelled.{AreSpelled}
use Rattle.schema_registries.specs.Roots.{Root, Patterns, Finds, site_of_root}
use Rattle.schema_registries.specs.Answers.{ComesBack, Finish}

-- an instance path and an evaluation path that some chain of obliged steps spells, from a root at a value on, to a keyword that refuses
abbrev pub AreCertificate : Patterns → Root → (List ℕ → List ℕ → Bool) → Target → Data → List ℕ → List ℕ → Type 0
AreCertificate p r matches target d instance evaluation = AreSpelled (plain r.documents p.makes matches) (site_of_root r target) d instance evaluation

-- where the matches finish and no references come back, no two texts are a certificate unless the verdict is no
abbrev pub IsCertified : Patterns → Root → Data → Bool → Type 0
IsCertified p r d verdict = (matches : List ℕ → List ℕ → Bool) (target : Target) → Finds r target → Finish p r matches target d → (ComesBack p r matches target d → ⊥)
    → (instance evaluation : List ℕ) → AreCertificate p r matches target d instance evaluation → verdict ≡ false

-- where they finish and no references come back, the two paths of the fault are a certificate
abbrev pub HasCertificate : Patterns → Root → Data → Fault → Type 0
HasCertificate p r d f = (matches : List ℕ → List ℕ → Bool) (target : Target) → Finds r target → Finish p r matches target d → (ComesBack p r matches target d → ⊥)
    → AreCertificate p r matches target d (path_text (instance_path f)) (path_text (evaluation_path f))

-- those of each fault are
abbrev pub HaveCertificates : Patterns → Root → Data → Faults → Type 0
HaveCertificates p r d fs = (f : Fault) → Told f fs → HasCertificate p r d f
