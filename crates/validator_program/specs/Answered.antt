-- What the program has done where it ends.
use Rattle.std.specs.Prelude.{◌≡◌, ℕ, List, [], Option, Some, codes, unwrap_or, if◌then◌else◌}
use Rattle.clap.specs.Words.{Row, first_of, all_of}
use Rattle.line_cuts.specs.declared.report.RunReport.{RunReport}
use Rattle.line_cuts.specs.declared.report.RunError.{RunError}
use Rattle.line_runs.specs.Passed.{Root}
use Rattle.program_inputs.specs.Held.{Held}
use Rattle.program_inputs.specs.Read.{says_true}
use Rattle.validator_program.specs.Given.{Words}
use Rattle.validator_program.specs.Built.{patterns_of_regex, IsBuiltOf}
use Rattle.validator_program.specs.Instances.{AnswersNamed, StopsNamed}
use Rattle.validator_program.specs.Outputs.{form_of}
use Rattle.validator_program.specs.declared.output.OutputForm.{OutputForm}

-- the words as they were parsed
abbrev pub words_in : List ℕ → List Row → Words
words_in schema rows = record {
  schema = schema;
  files = unwrap_or (all_of (codes "files") rows) [];
  base = first_of (codes "base") rows;
  draft = first_of (codes "draft") rows;
  meta = first_of (codes "meta") rows;
  siblings = says_true (first_of (codes "ref-siblings") rows);
}

-- the root is built of the files that the words name
pub record IsNamed (rows : List Row) (held : List ℕ → Held) (root : Root) : Type 0 where
  pub schema : List ℕ
  pub is_schema : Some schema ≡ first_of (codes "schema") rows
  pub built : IsBuiltOf held (words_in schema rows) root

-- the form of what is written is the one that the words name
abbrev pub IsFormOf : List Row → OutputForm → Type 0
IsFormOf rows form = form_of (first_of (codes "output") rows) ≡ Some form

-- the files of instances that the words name
abbrev pub instances_in : List Row → List (List ℕ)
instances_in rows = unwrap_or (all_of (codes "instance") rows) []

-- All that the reader had was read, and each of its lines was answered by the root that the words name, in the form that they name; where
-- they name files of instances, each of these was answered as a whole and the reader was not read. The status says whether some answer tells
-- of a refusal.
pub record AnswersAll (rows : List Row) (held : List ℕ → Held) (from to before after : Option (List ℕ)) (status : ℕ) : Type 0 where
  pub root : Root
  pub named : IsNamed rows held root
  pub form : OutputForm
  pub is_form : IsFormOf rows form
  pub report : RunReport
  pub answered : AnswersNamed form patterns_of_regex root (instances_in rows) held from to before after report
  pub is_status : status ≡ (if report.any_refused then 1 else 0)

-- a run of the root that the words name ended with an error
pub record StopsEarly (rows : List Row) (held : List ℕ → Held) (from to before after : Option (List ℕ)) : Type 0 where
  pub root : Root
  pub named : IsNamed rows held root
  pub form : OutputForm
  pub is_form : IsFormOf rows form
  pub error : RunError
  pub stopped : StopsNamed form patterns_of_regex root (instances_in rows) held error from to before after
