-- What follows from the definitions of literal forms and completions, each the promise of a function.
use Rattle.std.specs.Prelude.{◌≡◌, ◌↔◌, ℕ, List, Bool, true, Option, Some, None}
use Rattle.schema_patterns.specs.Forms.{HasForm}
use Rattle.json_values.specs.Patterns.{Literal, literal_of, pattern_of, is_written, matched, known, Completion, reads_as, Completes}

-- ---- patterns and matches (Validation 6.3.3)

abbrev pub LiteralsAreReadBack : Type 0
LiteralsAreReadBack = (l : Literal) → is_written l ≡ true → literal_of (pattern_of l) ≡ Some l

-- the forms that are read are those of the grammar
abbrev pub LiteralFormsAreTheGrammar : Type 0
LiteralFormsAreTheGrammar = (pattern : List ℕ) (l : Literal) → (literal_of pattern ≡ Some l) ↔ HasForm pattern l

-- where a match is known, every completion reads it as it is
abbrev pub CompletionsKeepKnownMatches : Type 0
CompletionsKeepKnownMatches = (finished : List ℕ → List ℕ → Option Bool) (sites : List (List ℕ × List ℕ)) (c : Completion) → Completes finished sites c
    → (pattern text : List ℕ) (answer : Bool) → reads_as sites pattern text ≡ true → known finished pattern text ≡ Some answer → matched (reads_as c) pattern text ≡ answer

-- the matches that are not known may be read in any way
abbrev pub EveryChoiceIsACompletion : Type 0
EveryChoiceIsACompletion = (finished : List ℕ → List ℕ → Option Bool) (sites : List (List ℕ × List ℕ)) (choice : List ℕ → List ℕ → Bool)
    → (c : Completion) × Completes finished sites c × ((pattern text : List ℕ) → reads_as sites pattern text ≡ true → known finished pattern text ≡ None → reads_as c pattern text ≡ choice pattern text)
