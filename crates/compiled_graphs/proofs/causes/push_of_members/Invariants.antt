use Rattle.std.proofs.Common.{List, map}
use Rattle.serde_json.specs.View.{members_view}
use Rattle.schema_definitions.specs.Rows.{Row, rows_of}
use Rattle.reached_sites.specs.Patterns.{IsFilled}
use Rattle.reached_sites.specs.declared.cause.BuildCause.{BuildCause}
use Rattle.reached_sites.proofs.Walking.{context_of}
use Rattle.compiled_graphs.specs.Told.{TellsEach}
use Rattle.compiled_graphs.proofs.causes.push_of_members.Given as goal

abbrev pub invariant-loop-name : goal.invariant-loop-name
invariant-loop-name g l =
    let finds = g.P.Matcher.PatternMatcher.finds in
    let finished = (g.P.PatternMaker.patterns l.maker).finished in
    let makes = (g.P.PatternMaker.patterns l.maker).makes in
    let all = members_view l.members.entries in
    let rest = members_view l.name-iterator in
    record {
      filled : IsFilled finds finished makes l.fn.table → IsFilled finds finished makes l.table;
      tells : IsFilled finds finished makes l.fn.table → (new : List BuildCause)
          → TellsEach (map (λ (r : Row). r.causes) (rows_of (context_of l.visit makes all) rest)) l.causes.items new
          → TellsEach (map (λ (r : Row). r.causes) (rows_of (context_of l.visit makes all) all)) l.fn.causes.items new;
    }
