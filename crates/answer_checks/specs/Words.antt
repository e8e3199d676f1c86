-- What is written for the answers of checks.
use Rattle.std.specs.Prelude.{ℕ, List, ◌∷◌, [], ◌++◌, Bool, true, false, Option, Some, None, codes, map}
use Rattle.std.specs.List.{list_any}
use Rattle.serde_json.specs.Data.{Data, array, string}
use Rattle.serde_json.specs.View.{items_of}
use Rattle.serde_json.specs.Written.{compact_text}
use Rattle.fault_checks.specs.declared.checking.CheckAnswer.{CheckAnswer}
use Rattle.fault_checks.specs.declared.checking.CheckAnswer.TheVariants.{Accepted, Refused, Circular, Unfinished}

abbrev pub word_of : CheckAnswer → List ℕ
word_of Accepted = codes "accepted"
word_of Refused = codes "refused"
word_of Circular = codes "circular"
word_of Unfinished = codes "unfinished"

abbrev pub answers_data : List CheckAnswer → Data
answers_data answers = array (items_of (map (λ a. string (word_of a)) answers))

-- the JSON list of the words, or `null`, and a line end
abbrev pub checked_text : Option (List CheckAnswer) → List ℕ
checked_text None = codes "null" ++ 10 ∷ []
checked_text (Some answers) = compact_text (answers_data answers) ++ 10 ∷ []

abbrev pub is_refusal : CheckAnswer → Bool
is_refusal Accepted = false
is_refusal Refused = true
is_refusal Circular = true
is_refusal Unfinished = true

-- there are no answers, or one is not that it is accepted
abbrev pub is_doubtful : Option (List CheckAnswer) → Bool
is_doubtful None = true
is_doubtful (Some answers) = list_any is_refusal answers
