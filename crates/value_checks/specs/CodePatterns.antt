-- What the code's patterns stand for.
use Rattle.std.specs.Prelude.{map, string_bytes}
use Rattle.json_values.specs.Patterns.{Literal, prefix, exact, one_of, no_white_space}
use Rattle.value_checks.specs.declared.patterns.PatternOptimization.{PatternOptimization}
use Rattle.value_checks.specs.declared.patterns.PatternOptimization.TheVariants.{Prefix, Exact, Alternation, NoWhitespace}

abbrev pub form_of : PatternOptimization → Literal
form_of (Prefix s) = prefix (string_bytes s)
form_of (Exact s) = exact (string_bytes s)
form_of (Alternation v) = one_of (map string_bytes v.items)
form_of NoWhitespace = no_white_space
