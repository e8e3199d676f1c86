-- What a validator says of a value, told of each root of which it is made, by the patterns of each maker.
use Rattle.std.specs.Prelude.{◌≡◌, ◌⊎◌, Bool}
use Rattle.serde_json.specs.Data.{Data}
use Rattle.graph_answers.specs.declared.runs.Decision.{Decision}
use Rattle.schema_meaning.specs.Faults.{Fault, Faults}
use Rattle.schema_meaning.specs.Readings.{verdicts}
use Rattle.schema_patterns.specs.declared.matcher.PatternMatcher.{Ghosts}
use Rattle.schema_registries.specs.Answers.{IsAnswer}
use Rattle.schema_registries.specs.Certified.{IsCertified, HasCertificate, HaveCertificates}
use Rattle.schema_registries.specs.Roots.{Root, Patterns}
use Rattle.schema_validators.specs.Answered.{AreFaults, IsFault}
use Rattle.schema_validators.specs.Decided.{IsDecidedAs}
use Rattle.schema_validators.specs.Made.{IsMadeBy}
use Rattle.schema_validators.specs.Missing.{TellsEachMissing}
use Rattle.schema_validators.specs.Refused.{RefusesValue}
use Rattle.schema_validators.specs.declared.error.BuildError.{BuildError}
use Rattle.schema_validators.specs.declared.error.BuildError.TheVariants.{Memory}
use Rattle.schema_validators.specs.declared.validator.Validator.{Validator}

-- the verdict is that of the documents
abbrev pub IsVerdictOf : {M : Type 0} {G : Ghosts M} → Validator M G → Data → Bool → Type 0
IsVerdictOf v d b = (p : Patterns) (r : Root) → IsMadeBy p r v → IsAnswer verdicts p r d b

-- a chain of obliged steps leads to a refusal exactly where the verdict is no
abbrev pub IsCertifiedOf : {M : Type 0} {G : Ghosts M} → Validator M G → Data → Bool → Type 0
IsCertifiedOf v d b = (p : Patterns) (r : Root) → IsMadeBy p r v → IsCertified p r d b

-- what is decided is the documents' verdict
abbrev pub IsDecidedOf : {M : Type 0} {G : Ghosts M} → Validator M G → Data → Decision → Type 0
IsDecidedOf v d decision = (p : Patterns) (r : Root) → IsMadeBy p r v → IsDecidedAs p r d decision

-- a fault is one of the documents, and its two paths are such a chain
abbrev pub IsFaultOf : {M : Type 0} {G : Ghosts M} → Validator M G → Data → Fault → Type 0
IsFaultOf v d f = (p : Patterns) (r : Root) → IsMadeBy p r v → IsFault p r d f

abbrev pub HasCertificateOf : {M : Type 0} {G : Ghosts M} → Validator M G → Data → Fault → Type 0
HasCertificateOf v d f = (p : Patterns) (r : Root) → IsMadeBy p r v → HasCertificate p r d f

-- some faults are those of the documents, in any order, and the two paths of each are such a chain
abbrev pub AreFaultsOf : {M : Type 0} {G : Ghosts M} → Validator M G → Data → Faults → Type 0
AreFaultsOf v d fs = (p : Patterns) (r : Root) → IsMadeBy p r v → AreFaults p r d fs

abbrev pub HaveCertificatesOf : {M : Type 0} {G : Ghosts M} → Validator M G → Data → Faults → Type 0
HaveCertificatesOf v d fs = (p : Patterns) (r : Root) → IsMadeBy p r v → HaveCertificates p r d fs

-- each name that an application of `required` lists and the value lacks is among them
abbrev pub TellsMissingOf : {M : Type 0} {G : Ghosts M} → Validator M G → Data → Faults → Type 0
TellsMissingOf v d fs = (p : Patterns) (r : Root) → IsMadeBy p r v → TellsEachMissing p r d fs

-- a meta-schema refuses the value, or memory is wanted
abbrev pub RefusesValueOf : {M : Type 0} {G : Ghosts M} → Validator M G → Data → BuildError → Type 0
RefusesValueOf v d e = (p : Patterns) (r : Root) → IsMadeBy p r v → (e ≡ Memory) ⊎ RefusesValue p r d e
