use Rattle.std.proofs.Common.{take}
use Rattle.schema_patterns.specs.Tables.{texts_of_table}
use Rattle.reached_sites.specs.Patterns.{texts_of, Holds, IsFilled, IsFront}
use Rattle.reached_sites.proofs.making.add_patterns.Given as goal

abbrev pub invariant-loop-pattern : goal.invariant-loop-pattern
invariant-loop-pattern g l =
    let finds = g.P.Matcher.PatternMatcher.finds in
    let finished = (g.P.PatternMaker.patterns l.maker).finished in
    let makes = (g.P.PatternMaker.patterns l.maker).makes in
    record {
      filled : IsFilled finds finished makes l.fn.table → IsFilled finds finished makes l.table;
      kept : Holds l.table (texts_of_table l.fn.table);
      grows : IsFront (texts_of_table l.fn.table) (texts_of_table l.table);
      held : Holds l.table (texts_of (take l.pattern-index l.patterns));
    }
