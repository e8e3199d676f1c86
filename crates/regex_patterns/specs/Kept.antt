-- What is known of searches that are kept for a table's patterns.
use Rattle.std.specs.Prelude.{◌≡◌, ℕ, List, Option, Some, slice_get}
use Rattle.graph_answers.specs.Tables.{table_texts}
use Rattle.regex.specs.declared.string.matcher.Matcher.{Matcher}
use Rattle.regex_patterns.specs.Matchers.{Searches}
use Rattle.regex_patterns.specs.declared.RegexMatcher.{RegexMatcher}
use Rattle.schema_patterns.specs.Tables.{pattern_for, texts_of_table}
use Rattle.schema_patterns.specs.declared.compiled.CompiledPattern.{CompiledPattern}
use Rattle.schema_patterns.specs.declared.compiled.CompiledPattern.TheVariants.{Made}
use Rattle.schema_patterns.specs.declared.table.PatternTable.{PatternTable}

-- the pattern of a number's text
abbrev pub compiled_at : {M : Type 0} → PatternTable M → ℕ → Option (CompiledPattern M)
compiled_at table number = pattern_for table (table_texts (texts_of_table table) number)

-- the search, if there is one, is for the pattern
abbrev pub IsKept : RegexMatcher → Option Matcher → Type 0
IsKept r slot = (m : Matcher) → slot ≡ Some m → Searches r m

-- the search that is kept for a number is for the pattern of this number
abbrev pub AreKept : PatternTable RegexMatcher → List (Option Matcher) → Type 0
AreKept table slots = (number : ℕ) (slot : Option Matcher) → slice_get slots number ≡ Some slot
    → (r : RegexMatcher) → compiled_at table number ≡ Some (Made r) → IsKept r slot
