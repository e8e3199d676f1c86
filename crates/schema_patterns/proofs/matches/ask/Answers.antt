use Rattle.std.proofs.Common.{arith}
use Rattle.schema_patterns.specs.Compiled.{found_by}
use Rattle.schema_patterns.proofs.Found.{texts_step}
use Rattle.schema_patterns.proofs.matches.ask.Goals as goal

pub loop-text-preserved : goal.loop-text-preserved
loop-text-preserved g c =
    texts_step (found_by g.M.PatternMatcher.finds c.args.pattern.now) c.args.texts.now c.loop-text.text-index _ c.loop-text.found c.note.new.found (omega arith) c.loop-text.invariant
    (c.in_ok-note.ensures _ c.is_match-answer.ensures.told)
