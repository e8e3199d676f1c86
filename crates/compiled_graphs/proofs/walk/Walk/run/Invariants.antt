use Rattle.std.proofs.Common.{◌≤◌, ◌-◌, List, length}
use Rattle.schema_definitions.specs.Bearers.{Document}
use Rattle.schema_definitions.specs.Sites.{Site}
use Rattle.reached_sites.specs.Patterns.{IsFront}
use Rattle.compiled_graphs.specs.First.{IsInOrder}
use Rattle.compiled_graphs.specs.Walked.{ArePlaced, Walks, NoneWrong}
use Rattle.compiled_graphs.proofs.Running.{FewOrMore}
use Rattle.compiled_graphs.proofs.walk.Walk.run.Given as goal

abbrev pub decreases-loop-alloc : goal.decreases-loop-alloc
decreases-loop-alloc g l = l.limit - length l.self.nodes.items

abbrev pub invariant-loop-alloc : goal.invariant-loop-alloc
invariant-loop-alloc g l =
    let finds = g.M.PatternMatcher.finds in
    let p = g.P.PatternMaker.patterns l.maker in
    record {
      further : IsFront l.initial.self.visits.list.items l.self.visits.list.items;
      walks : (own : List Document) (roots : List Site) → ArePlaced own roots → Walks finds p own roots l.initial.self → Walks finds p own roots l.self × NoneWrong l.at_cause l.self.wrong.items;
      ordered : (own : List Document) (roots : List Site) → ArePlaced own roots → Walks finds p own roots l.initial.self → IsInOrder own p.makes roots l.initial.self → IsInOrder own p.makes roots l.self;
      few : FewOrMore (length l.self.visits.list.items) (length l.self.nodes.items) l.limit;
      within : length l.self.nodes.items ≤ length l.self.visits.list.items;
    }
