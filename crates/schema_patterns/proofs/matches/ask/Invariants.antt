use Rattle.std.proofs.Common.{take}
use Rattle.schema_patterns.specs.Compiled.{found_by}
use Rattle.schema_patterns.specs.Read.{TellsTexts}
use Rattle.schema_patterns.proofs.matches.ask.Given as goal

abbrev pub invariant-loop-text : goal.invariant-loop-text
invariant-loop-text g l = TellsTexts (found_by g.M.PatternMatcher.finds l.pattern) (take l.text-index l.texts) l.found
