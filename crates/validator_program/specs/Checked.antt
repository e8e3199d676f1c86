-- What is written where the faults that a file lists are checked.
use Rattle.std.specs.Prelude.{◌≡◌, ℕ, List, Option, Some, codes, if◌then◌else◌}
use Rattle.clap.specs.Words.{Row, first_of}
use Rattle.answer_checks.specs.Listing.{ChecksGiven, StopsGiven}
use Rattle.answer_checks.specs.declared.given.CheckError.{CheckError}
use Rattle.line_cuts.specs.declared.report.RunReport.{RunReport}
use Rattle.line_runs.specs.Passed.{Root}
use Rattle.schema_registries.specs.declared.registry.SharedRegistry.{SharedRegistry}
use Rattle.program_inputs.specs.Held.{Held}
use Rattle.validator_program.specs.Given.{MayHold}
use Rattle.validator_program.specs.Built.{patterns_of_regex, IsPreparedOf}
use Rattle.validator_program.specs.Instances.{AreInstances}
use Rattle.validator_program.specs.Answered.{IsFormOf, instances_in, words_in}
use Rattle.validator_program.specs.declared.output.OutputForm.{OutputForm}

-- The root is what the base leads to in the documents that the words name; nobody asks whether it builds. A file lists faults, a line for each
-- instance; the instances are what the files hold that the words name, or else the lines of the reader.
pub record IsListed (file : List ℕ) (rows : List Row) (held : List ℕ → Held) (root : Root) (listed : List ℕ) (instances : List (List ℕ)) : Type 0 where
  pub schema : List ℕ
  pub is_schema : Some schema ≡ first_of (codes "schema") rows
  pub parent : Option SharedRegistry
  pub prepared : IsPreparedOf held (words_in schema rows) parent root
  pub form : OutputForm
  pub is_form : IsFormOf rows form
  pub holds : MayHold (held file) listed
  pub hold : AreInstances held (instances_in rows) instances

-- each was checked, and the status says whether something else is said than that a fault is accepted
pub record ChecksAll (file : List ℕ) (rows : List Row) (held : List ℕ → Held) (from to before after : Option (List ℕ)) (status : ℕ) : Type 0 where
  pub root : Root
  pub listed : List ℕ
  pub instances : List (List ℕ)
  pub named : IsListed file rows held root listed instances
  pub report : RunReport
  pub checked : ChecksGiven patterns_of_regex root listed instances from to before after report
  pub is_status : status ≡ (if report.any_refused then 1 else 0)

-- the checks ended with an error
pub record StopsChecking (file : List ℕ) (rows : List Row) (held : List ℕ → Held) (from to before after : Option (List ℕ)) : Type 0 where
  pub root : Root
  pub listed : List ℕ
  pub instances : List (List ℕ)
  pub named : IsListed file rows held root listed instances
  pub error : CheckError
  pub stopped : StopsGiven error patterns_of_regex root listed instances from to before after
