-- What the check of faults says of what validators answer.
use Rattle.std.specs.Prelude.{◌≡◌, ◌+◌, ℕ, List, [], ◌∷◌, Bool}
use Rattle.serde_json.specs.Data.{Data}
use Rattle.schema_meaning.specs.Faults.{Fault, Faults, none, also, instance_path, evaluation_path}
use Rattle.schema_definitions.specs.Lookup.{Target}
use Rattle.schema_definitions.specs.PathTexts.{path_text}
use Rattle.schema_registries.specs.Roots.{Root, Patterns, Finds}
use Rattle.schema_registries.specs.Answers.{Finish, ComesBack}
use Rattle.schema_validators.specs.Answered.{AreFaults}
use Rattle.fault_checks.specs.Checked.{IsChecked}
use Rattle.fault_checks.specs.declared.checking.CheckAnswer.{CheckAnswer}
use Rattle.fault_checks.specs.declared.checking.CheckAnswer.TheVariants.{Accepted}

-- the answer of a check of the two paths of a fault
abbrev pub IsFaultChecked : Patterns → Root → Data → Fault → CheckAnswer → Type 0
IsFaultChecked p r d f answer = IsChecked p r d (path_text (instance_path f)) (path_text (evaluation_path f)) answer

-- this holds where the matches finish and no references come back
abbrev pub WhereStraight : Patterns → Root → Data → Type 0 → Type 0
WhereStraight p r d T = (matches : List ℕ → List ℕ → Bool) (target : Target) → Finds r target → Finish p r matches target d → (ComesBack p r matches target d → ⊥) → T

abbrev pub each_accepted : Faults → List CheckAnswer
each_accepted none = []
each_accepted (also f fs) = Accepted ∷ each_accepted fs

abbrev pub fault_count : Faults → ℕ
fault_count none = 0
fault_count (also f fs) = fault_count fs + 1

-- one answer for each of the faults, and where the matches finish and no references come back each accepts
pub record AreAccepted (p : Patterns) (r : Root) (d : Data) (answers : List CheckAnswer) : Type 0 where
  pub faults : Faults
  pub told : AreFaults p r d faults
  pub accepted : WhereStraight p r d (answers ≡ each_accepted faults)
