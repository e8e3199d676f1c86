use Rattle.regex_patterns.specs.Kept.{AreKept}
use Rattle.regex_patterns.proofs.kept.Kept.new.Given as goal

abbrev pub invariant-loop : goal.invariant-loop
invariant-loop l = AreKept l.table l.searches.items
