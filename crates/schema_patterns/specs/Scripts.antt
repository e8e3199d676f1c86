-- Scripted makers of matchers.
use Rattle.std.specs.Prelude.{ℕ, List, Bool, Option, Some, None, if◌then◌else◌, map, not, bytes_eq, string_bytes}
use Rattle.std.specs.List.{list_any}
use Rattle.json_values.specs.Patterns.{reads_as}
use Rattle.schema_patterns.specs.Makers.{Patterns}
use Rattle.schema_patterns.specs.declared.bench.ScriptedMaker.{ScriptedMaker}
use Rattle.schema_patterns.specs.declared.bench.ScriptedMatcher.{ScriptedMatcher}

-- the patterns that are refused, those given up whatever the text, and the pairs that match
abbrev pub refused_by : ScriptedMaker → List (List ℕ)
refused_by m = map string_bytes m.refused.items

abbrev pub unfinished_by : ScriptedMaker → List (List ℕ)
unfinished_by m = map string_bytes m.unfinished.items

abbrev pub matches_of : ScriptedMaker → List (List ℕ × List ℕ)
matches_of m = map (λ p. (string_bytes p.0, string_bytes p.1)) m.matches.items

abbrev pub is_refused : ScriptedMaker → List ℕ → Bool
is_refused m pattern = list_any (λ p. bytes_eq p pattern) (refused_by m)

-- every pair that is not listed is no match
abbrev pub scripted : ScriptedMaker → List ℕ → List ℕ → Option Bool
scripted m pattern text = if list_any (λ p. bytes_eq p pattern) (unfinished_by m) then None else Some (reads_as (matches_of m) pattern text)

-- a matcher of a script keeps the texts that match its pattern
abbrev pub finds_by_script : ScriptedMatcher → List ℕ → Option Bool
finds_by_script m text = if m.is_unfinished then None else Some (list_any (λ t. bytes_eq (string_bytes t) text) m.texts.items)

-- what the maker of a script makes
abbrev pub scripted_patterns : ScriptedMaker → Patterns
scripted_patterns m = record { makes = λ pattern. not (is_refused m pattern); finished = scripted m }
