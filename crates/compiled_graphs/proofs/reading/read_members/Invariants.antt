use Rattle.serde_json.specs.View.{members_view}
use Rattle.schema_patterns.specs.Tables.{texts_of_table}
use Rattle.reached_sites.specs.Patterns.{Holds, IsFilled, IsFront}
use Rattle.compiled_graphs.specs.Read.{IsCounted}
use Rattle.compiled_graphs.proofs.Found.{Going, AreWritten}
use Rattle.compiled_graphs.proofs.reading.read_members.Given as goal

abbrev pub invariant-loop-name : goal.invariant-loop-name
invariant-loop-name g l =
    let finds = g.P.Matcher.PatternMatcher.finds in
    let finished = (g.P.PatternMaker.patterns l.maker).finished in
    let makes = (g.P.PatternMaker.patterns l.maker).makes in
    let all = members_view l.members.entries in
    let rest = members_view l.name-iterator in
    record {
      going : IsFilled finds finished makes l.fn.table → Going l.visit makes all rest l.fn.found l.found l.cause;
      filled : IsFilled finds finished makes l.fn.table → IsFilled finds finished makes l.table;
      kept : Holds l.table (texts_of_table l.fn.table);
      grows : IsFront (texts_of_table l.fn.table) (texts_of_table l.table);
      written : AreWritten l.visit all rest l.cause l.table;
      counts : IsCounted l.fn.found → IsCounted l.found;
    }
