-- Patterns as the grammar of `regex` reads them, searched for anywhere in a text (Validation 6.3.3).
use Rattle.std.specs.Prelude.{◌≡◌, ℕ, ◌<◌, get_or, List, Bool, false, Option, Some, is_some, nat_le, chars}
use Rattle.std.specs.Option.{option_map_or}
use Rattle.regex_syntax.specs.Grammar.{read}
use Rattle.regex.specs.Patterns.{default_config, find_str}
use Rattle.regex.specs.Strings.{regex_pattern, regex_source}
use Rattle.regex.specs.declared.string.regex.Regex.{Regex}

-- the grammar reads the text, nested no deeper than its limit
abbrev pub is_regex : List ℕ → Bool
is_regex pattern = option_map_or (λ r. nat_le r.0.depth default_config.nest_limit) (read default_config (chars pattern)) false

-- whether what the grammar reads matches somewhere in the text: each match is finished
abbrev pub searched : List ℕ → List ℕ → Option Bool
searched pattern text = Some (option_map_or (λ r. is_some (find_str r.0.value text 0)) (read default_config (chars pattern)) false)

-- what was compiled matches just those texts, all of which are bytes
abbrev pub MeansItsText : Regex → Type 0
MeansItsText r = (text : List ℕ) → ((k : ℕ) → get_or text k 0 < 256) → Some (is_some (find_str (regex_pattern r) text 0)) ≡ searched (regex_source r) text
