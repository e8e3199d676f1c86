-- What the answer of a matcher tells.
use Rattle.std.specs.Prelude.{◌≡◌, Bool, true, false, Option, Some, None}
use Rattle.schema_patterns.specs.declared.matcher.MatchAnswer.{MatchAnswer}
use Rattle.schema_patterns.specs.declared.matcher.MatchAnswer.TheVariants.{Yes, No, Unfinished, NoMemory}

-- it is what the matcher finds in the text, none where it gives up; where memory was refused it tells nothing
abbrev pub Tells : Option Bool → MatchAnswer → Type 0
Tells found Yes = found ≡ Some true
Tells found No = found ≡ Some false
Tells found Unfinished = found ≡ None
Tells found NoMemory = Unit {0}
