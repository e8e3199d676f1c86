-- What is read of the matches of a table's patterns.
use Rattle.std.specs.Prelude.{◌≡◌, ℕ, List, [], Bool, Option, Some, None, slice_get, option_and_then}
use Rattle.json_values.specs.Patterns.{Literal, literal_of, means}
use Rattle.schema_definitions.specs.Words.{or}
use Rattle.schema_patterns.specs.Compiled.{found_by}
use Rattle.schema_patterns.specs.Read.{is_yes}
use Rattle.schema_patterns.specs.Tables.{pattern_for, texts_of_table}
use Rattle.schema_patterns.specs.declared.compiled.CompiledPattern.{CompiledPattern}
use Rattle.schema_patterns.specs.declared.table.PatternTable.{PatternTable}
use Rattle.schema_engine.specs.Matches.{Matches}

-- each number's text, an empty one behind the last
abbrev pub table_texts : List (List ℕ) → ℕ → List ℕ
table_texts texts n = or [] (slice_get texts n)

-- whether the table's pattern of a text finds a yes: one that it lacks matches nothing, and neither does one that gives up
abbrev pub table_reads : {M : Type 0} → (M → List ℕ → Option Bool) → PatternTable M → List ℕ → List ℕ → Bool
table_reads finds table pattern text = is_yes (option_and_then (λ c. found_by finds c text) (pattern_for table pattern))

-- a table's texts by their numbers, and what is read of its patterns: every match is known, and any may be asked for
abbrev pub matches_of : {M : Type 0} → (M → List ℕ → Option Bool) → PatternTable M → Matches
matches_of finds table = record { pattern = table_texts (texts_of_table table); known = λ pattern text. Some (table_reads finds table pattern text); from = None }

-- where a text is a literal form, its pattern finds what the form means
abbrev pub AreForms : {M : Type 0} → (M → List ℕ → Option Bool) → PatternTable M → Type 0
AreForms {M = M} finds table = (pattern : List ℕ) (c : CompiledPattern M) (l : Literal) (text : List ℕ)
    → pattern_for table pattern ≡ Some c → literal_of pattern ≡ Some l → found_by finds c text ≡ Some (means l text)
