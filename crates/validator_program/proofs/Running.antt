-- Runs of the validator that the words name.
use Rattle.std.proofs.Common.{◌≡◌, ℕ, List, Option, if◌then◌else◌, refl, subst}
use Rattle.clap.specs.Words.{Row}
use Rattle.program_inputs.specs.Read.{HasWordsOf}
use Rattle.program_inputs.specs.declared.words.ProgramWords.{ProgramWords}
use Rattle.schema_patterns.specs.declared.matcher.PatternMatcher.{Ghosts}
use Rattle.regex_patterns.specs.declared.RegexMatcher.{RegexMatcher}
use Rattle.line_cuts.specs.declared.report.RunReport.{RunReport}
use Rattle.line_runs.specs.Passed.{IsMadeBy}
use Rattle.line_runs.specs.Passed.{Root}
use Rattle.program_inputs.specs.Held.{Held}
use Rattle.line_runs.specs.Passed.{Validator}
use Rattle.validator_program.specs.Given.{Words, words_of}
use Rattle.validator_program.specs.Built.{patterns_of_regex, IsBuiltOf}
use Rattle.validator_program.specs.Instances.{AnswersBy, AnswersNamed, StopsNamed, StopsSomewhereBy}
use Rattle.validator_program.specs.declared.output.OutputForm.{OutputForm}
use Rattle.validator_program.specs.Answered.{words_in, instances_in, IsNamed, IsFormOf, AnswersAll, StopsEarly}

-- what is built of the words that were read is named by them
pub named_by : (rows : List Row) (held : List ℕ → Held) (w : ProgramWords) (root : Root) → HasWordsOf rows w → IsBuiltOf held (words_of w) root → IsNamed rows held root
named_by rows held w root has built =
    let same : words_of w ≡ words_in w.schema.now rows = rw (has.files, has.base, has.draft, has.meta, has.ref_siblings) refl in
    record { schema = w.schema.now; is_schema = has.schema; built = subst (λ (words : Words). IsBuiltOf held words root) same built }

module _ {G : Ghosts RegexMatcher} (rows : List Row) (held : List ℕ → Held) (v : Validator RegexMatcher G) (root : Root) (named : IsNamed rows held root) (made : IsMadeBy patterns_of_regex root v)
    (form : OutputForm) (asked : IsFormOf rows form) (names : List (List ℕ)) (all : names ≡ instances_in rows) (from to before after : Option (List ℕ)) where
  pub answers_all : (report : RunReport) → AnswersBy v names held form from to before after report → AnswersAll rows held from to before after (if report.any_refused then 1 else 0)
  answers_all report h = record {
    root = root;
    named = named;
    form = form;
    is_form = asked;
    report = report;
    answered = subst (λ ns. AnswersNamed form patterns_of_regex root ns held from to before after report) all (h patterns_of_regex root made);
    is_status = refl;
  }

  pub stops_early : StopsSomewhereBy v names held form from to before after → StopsEarly rows held from to before after
  stops_early h = record {
    root = root;
    named = named;
    form = form;
    is_form = asked;
    error = h.0;
    stopped = subst (λ ns. StopsNamed form patterns_of_regex root ns held h.0 from to before after) all (h.1 patterns_of_regex root made);
  }
