use Rattle.std.proofs.Common.{◌≡◌, ◌≤◌, drop}
use Rattle.schema_engine.specs.Matches.{InEach}
use Rattle.schema_engine.specs.Progress.{numbers_in}
use Rattle.schema_engine.proofs.Left.{CountLeft}
use Rattle.schema_engine.proofs.counting.count_accepted.Given as goal

abbrev pub invariant-loop-index : goal.invariant-loop-index
invariant-loop-index g l =
    let entry = g.T.Matching.matches l.fn.matching in
    record {
      matches : g.T.Matching.matches l.matching ≡ entry;
      questions : l.questions.items ≡ l.fn.questions.items;
      few : l.count ≤ l.index;
      left : InEach entry (λ m. CountLeft g.K.Validate.shape m l.here.graph.now.nodes.items l.here.node l.here.place (numbers_in l.here.progress.now) (drop l.start l.fn.questions.items) (drop l.index l.fn.questions.items) l.count);
    }
