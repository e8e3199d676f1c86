-- What is decided of a value, where the matches that it asks for finish and no references come back.
use Rattle.std.specs.Prelude.{ℕ, List, Bool, true, false}
use Rattle.serde_json.specs.Data.{Data}
use Rattle.schema_meaning.specs.Readings.{verdicts}
use Rattle.graph_answers.specs.declared.runs.Decision.{Decision}
use Rattle.graph_answers.specs.declared.runs.Decision.TheVariants as decision
use Rattle.schema_definitions.specs.Lookup.{Target}
use Rattle.schema_registries.specs.Roots.{Root, Patterns, Finds}
use Rattle.schema_registries.specs.Answers.{Finish, ComesBack, IsAnswer}

-- the verdict is the decided one; there is one
abbrev pub IsDecidedAs : Patterns → Root → Data → Decision → Type 0
IsDecidedAs p r d decision.Accepted = IsAnswer verdicts p r d true
IsDecidedAs p r d decision.Refused = IsAnswer verdicts p r d false
IsDecidedAs p r d decision.Undecided = (matches : List ℕ → List ℕ → Bool) (target : Target) → Finds r target → Finish p r matches target d
    → (ComesBack p r matches target d → ⊥) → ⊥
