-- The patterns of a table.
use Rattle.std.specs.Prelude.{◌≡◌, ℕ, List, [], ◌∷◌, ◌++◌, Bool, Option, Some, map, string_bytes}
use Rattle.std.specs.HashMap.{get_by_text}
use Rattle.json_values.specs.Patterns.{known}
use Rattle.schema_patterns.specs.Compiled.{found_by}
use Rattle.schema_patterns.specs.declared.compiled.CompiledPattern.{CompiledPattern}
use Rattle.schema_patterns.specs.declared.table.PatternTable.{PatternTable}

-- the texts and their patterns, by numbers
abbrev pub entries_of : {M : Type 0} → PatternTable M → List (List ℕ × CompiledPattern M)
entries_of table = map (λ e. (string_bytes e.0, e.1)) table.patterns.entries

-- the texts, by numbers
abbrev pub texts_of_table : {M : Type 0} → PatternTable M → List (List ℕ)
texts_of_table table = map (λ e. e.0) (entries_of table)

-- the pattern of a text
abbrev pub pattern_for : {M : Type 0} → PatternTable M → List ℕ → Option (CompiledPattern M)
pattern_for table text = get_by_text table.patterns text

-- each pattern finds what is known of the matches of its text, where a matcher that finishes has this relation of pattern and text
pub record AreMadeBy {M : Type 0} (finds : M → List ℕ → Option Bool) (finished : List ℕ → List ℕ → Option Bool) (table : PatternTable M) : Type 0 where
  pub each : (pattern : List ℕ) (c : CompiledPattern M) → pattern_for table pattern ≡ Some c → (text : List ℕ) → found_by finds c text ≡ known finished pattern text

-- a pattern of that text stands at the end
abbrev pub GrowsBy : {M : Type 0} → List ℕ → List (List ℕ × CompiledPattern M) → List (List ℕ × CompiledPattern M) → Type 0
GrowsBy {M = M} text old new = (c : CompiledPattern M) × (new ≡ old ++ (text, c) ∷ [])
