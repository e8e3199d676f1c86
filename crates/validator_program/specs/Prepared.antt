-- The validator that the words name.
use Rattle.std.specs.Prelude.{ℕ, List}
use Rattle.line_runs.specs.Passed.{Root, Validator, IsMadeBy}
use Rattle.program_inputs.specs.Held.{Held}
use Rattle.regex_patterns.specs.declared.RegexMatcher.{RegexMatcher}
use Rattle.schema_patterns.specs.declared.matcher.PatternMatcher.{Ghosts}
use Rattle.validator_program.specs.Built.{patterns_of_regex, IsBuiltOf}
use Rattle.validator_program.specs.Given.{Words}

-- it is made of a root that is built of the files that the words name
pub record IsValidatorOf {G : Ghosts RegexMatcher} (held : List ℕ → Held) (words : Words) (v : Validator RegexMatcher G) : Type 0 where
  pub root : Root
  pub built : IsBuiltOf held words root
  pub made : IsMadeBy patterns_of_regex root v
