use Rattle.std.proofs.Common.{take}
use Rattle.reached_sites.specs.Patterns.{IsFilled}
use Rattle.compiled_graphs.specs.Told.{TellsVisits}
use Rattle.compiled_graphs.proofs.causes.causes_at.Given as goal

abbrev pub invariant-loop-position : goal.invariant-loop-position
invariant-loop-position g l =
    let finds = g.P.Matcher.PatternMatcher.finds in
    let finished = (g.P.PatternMaker.patterns l.maker).finished in
    let makes = (g.P.PatternMaker.patterns l.maker).makes in
    record {
      filled : IsFilled finds finished makes l.fn.table → IsFilled finds finished makes l.table;
      told : IsFilled finds finished makes l.fn.table → TellsVisits makes l.visits.list.items (take l.position-index l.wrong) l.causes.items;
    }
