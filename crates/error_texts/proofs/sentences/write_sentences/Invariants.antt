use Rattle.std.proofs.Common.{◌≡◌, ◌++◌, ℕ, List, string_bytes}
use Rattle.std.specs.List.{AllZip, concat}
use Rattle.schema_reports.specs.Left.{errors_left}
use Rattle.error_texts.specs.Sentences.{IsSentence}
use Rattle.error_texts.proofs.sentences.write_sentences.Given as goal

-- the text and the lines of the errors that are left
abbrev pub invariant-loop-error : goal.invariant-loop-error
invariant-loop-error l = (more : List (List ℕ)) → AllZip (IsSentence l.label) (errors_left l.error-iterator) more
    → (lines : List (List ℕ)) × AllZip (IsSentence l.label) (errors_left l.initial.error-iterator) lines × (string_bytes l.text ++ concat more ≡ string_bytes l.fn.text ++ concat lines)
