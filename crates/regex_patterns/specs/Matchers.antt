-- Matchers over `regex`.
use Rattle.std.specs.Prelude.{◌≡◌, ℕ, ◌<◌, get_or, List, Bool, Option, Some, is_some}
use Rattle.regex.specs.Patterns.{find_str}
use Rattle.regex.specs.Strings.{regex_source, matcher_pattern}
use Rattle.regex.specs.declared.string.matcher.Matcher.{Matcher}
use Rattle.regex_patterns.specs.Searches.{searched}
use Rattle.regex_patterns.specs.declared.RegexMatcher.{RegexMatcher}

abbrev pub finds_by_regex : RegexMatcher → List ℕ → Option Bool
finds_by_regex m text = searched (regex_source m.regex) text

-- what searches finds in a text, all of which is bytes, what the pattern finds
abbrev pub Searches : RegexMatcher → Matcher → Type 0
Searches r m = (text : List ℕ) → ((k : ℕ) → get_or text k 0 < 256) → Some (is_some (find_str (matcher_pattern m) text 0)) ≡ finds_by_regex r text
