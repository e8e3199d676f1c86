-- What a run of checks writes. R relates an instance and its line of answers with what is said of them.
use Rattle.std.specs.Prelude.{◌≡◌, ℕ, List, ◌++◌, Option, map, length, min}
use Rattle.std.specs.List.{AllZip, concat, list_any}
use Rattle.std.specs.Io.KnownBytes.{Appends}
use Rattle.line_cuts.specs.Devices.{most}
use Rattle.line_cuts.specs.declared.report.RunReport.{RunReport}
use Rattle.answer_checks.specs.Checks.{CheckAnswers, Listed}
use Rattle.answer_checks.specs.Words.{checked_text, is_doubtful}

-- what is written for each, one after another
abbrev pub texts_of : List CheckAnswers → List ℕ
texts_of said = concat (map checked_text said)

-- each was checked in its turn, and what is said of it was written
pub record WritesChecks (R : Listed → CheckAnswers → Type 0) (lines : List Listed) (before after : Option (List ℕ)) (report : RunReport) : Type 0 where
  pub said : List CheckAnswers
  pub checked : AllZip R lines said
  pub appended : Appends before after (texts_of said)
  pub counted : report.lines ≡ min (length said) most
  pub refused : report.any_refused ≡ list_any is_doubtful said

-- some first were checked, and what was written begins what is said of them
pub record BreaksChecks (R : Listed → CheckAnswers → Type 0) (lines : List Listed) (before after : Option (List ℕ)) : Type 0 where
  pub done : List Listed
  pub rest : List Listed
  pub said : List CheckAnswers
  pub written : List ℕ
  pub tail : List ℕ
  pub first : lines ≡ done ++ rest
  pub checked : AllZip R done said
  pub begun : texts_of said ≡ written ++ tail
  pub appended : Appends before after written
