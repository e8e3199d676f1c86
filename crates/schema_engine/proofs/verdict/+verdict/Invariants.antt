use Rattle.std.proofs.Common.{◌≡◌, ◌≤◌, ◌+◌, ◌*◌, drop}
use Rattle.serde_json.specs.View.{items_view}
use Rattle.schema_engine.specs.Places.{value_at}
use Rattle.schema_engine.specs.Progress.{numbers_in}
use Rattle.schema_engine.specs.Asking.{item_calls}
use Rattle.schema_engine.specs.Matches.{InEach}
use Rattle.schema_engine.specs.Graphs.{rank_at, reading_of}
use Rattle.schema_engine.specs.Verdicts.{size, EachMayAsk}
use Rattle.schema_engine.proofs.Items.{ItemsLeft}
use Rattle.schema_engine.proofs.Branches.{BranchesLeft, BranchesCounted}
use Rattle.schema_engine.proofs.Left.{KeywordsLeft, EachLeft, CountLeft}
use Rattle.schema_engine.proofs.verdict.+verdict.Given as goal

abbrev pub decreases-accepts_node : goal.decreases-accepts_node
decreases-accepts_node g l = 9 * size l.graph.now.nodes.items (value_at l.place) (numbers_in l.progress.now) (rank_at l.graph.now.nodes.items l.node) + 8

abbrev pub decreases-accepts_paired : goal.decreases-accepts_paired
decreases-accepts_paired g l = 9 * size l.here.now.graph.now.nodes.items (value_at l.here.now.place) (numbers_in l.here.now.progress.now) (rank_at l.here.now.graph.now.nodes.items l.here.now.node) + 7

abbrev pub decreases-accepts_both : goal.decreases-accepts_both
decreases-accepts_both g l = 9 * size l.here.now.graph.now.nodes.items (value_at l.here.now.place) (numbers_in l.here.now.progress.now) (rank_at l.here.now.graph.now.nodes.items l.here.now.node) + 6

abbrev pub decreases-accepts_keyword : goal.decreases-accepts_keyword
decreases-accepts_keyword g l = 9 * size l.here.now.graph.now.nodes.items (value_at l.here.now.place) (numbers_in l.here.now.progress.now) (rank_at l.here.now.graph.now.nodes.items l.here.now.node) + 6

abbrev pub decreases-accepts_listed : goal.decreases-accepts_listed
decreases-accepts_listed g l = 9 * size l.here.now.graph.now.nodes.items (value_at l.here.now.place) (numbers_in l.here.now.progress.now) (rank_at l.here.now.graph.now.nodes.items l.here.now.node) + 5

abbrev pub decreases-accepts_items : goal.decreases-accepts_items
decreases-accepts_items g l = 9 * size l.here.now.graph.now.nodes.items (value_at l.here.now.place) (numbers_in l.here.now.progress.now) (rank_at l.here.now.graph.now.nodes.items l.here.now.node) + 2

abbrev pub decreases-accepts_each_branch : goal.decreases-accepts_each_branch
decreases-accepts_each_branch g l = 9 * size l.here.now.graph.now.nodes.items (value_at l.here.now.place) (numbers_in l.here.now.progress.now) (rank_at l.here.now.graph.now.nodes.items l.here.now.node) + 2

abbrev pub decreases-accepts_counted_branches : goal.decreases-accepts_counted_branches
decreases-accepts_counted_branches g l = 9 * size l.here.now.graph.now.nodes.items (value_at l.here.now.place) (numbers_in l.here.now.progress.now) (rank_at l.here.now.graph.now.nodes.items l.here.now.node) + 2

abbrev pub decreases-accepts_branch : goal.decreases-accepts_branch
decreases-accepts_branch g l = 9 * size l.here.now.graph.now.nodes.items (value_at l.here.now.place) (numbers_in l.here.now.progress.now) (rank_at l.here.now.graph.now.nodes.items l.here.now.node) + 1

abbrev pub decreases-accepts_combined : goal.decreases-accepts_combined
decreases-accepts_combined g l = 9 * size l.here.now.graph.now.nodes.items (value_at l.here.now.place) (numbers_in l.here.now.progress.now) (rank_at l.here.now.graph.now.nodes.items l.here.now.node) + 4

abbrev pub decreases-accepts_conditional : goal.decreases-accepts_conditional
decreases-accepts_conditional g l = 9 * size l.here.now.graph.now.nodes.items (value_at l.here.now.place) (numbers_in l.here.now.progress.now) (rank_at l.here.now.graph.now.nodes.items l.here.now.node) + 3

abbrev pub decreases-accepts_each : goal.decreases-accepts_each
decreases-accepts_each g l = 9 * size l.here.now.graph.now.nodes.items (value_at l.here.now.place) (numbers_in l.here.now.progress.now) (rank_at l.here.now.graph.now.nodes.items l.here.now.node) + 2

abbrev pub decreases-accepts_counted : goal.decreases-accepts_counted
decreases-accepts_counted g l = 9 * size l.here.now.graph.now.nodes.items (value_at l.here.now.place) (numbers_in l.here.now.progress.now) (rank_at l.here.now.graph.now.nodes.items l.here.now.node) + 2

abbrev pub decreases-accepts_question : goal.decreases-accepts_question
decreases-accepts_question g l = 9 * size l.here.now.graph.now.nodes.items (value_at l.here.now.place) (numbers_in l.here.now.progress.now) (rank_at l.here.now.graph.now.nodes.items l.here.now.node) + 1

abbrev pub decreases-accepts_target : goal.decreases-accepts_target
decreases-accepts_target g l = 9 * size l.here.now.graph.now.nodes.items (value_at l.here.now.place) (numbers_in l.here.now.progress.now) (rank_at l.here.now.graph.now.nodes.items l.here.now.node) + 0

abbrev pub invariant-accepts_node-loop-keyword : goal.invariant-accepts_node-loop-keyword
invariant-accepts_node-loop-keyword g l =
    let entry = g.T.Matching.matches l.fn.matching in
    record {
      matches : g.T.Matching.matches l.matching ≡ entry;
      questions : l.questions.items ≡ l.fn.questions.items;
      left : InEach entry (λ m. KeywordsLeft g.K.Validate.shape m l.graph.nodes.items l.node l.place (numbers_in l.progress) l.keywords (drop l.keyword-index l.keywords));
    }

abbrev pub invariant-accepts_paired-loop-position : goal.invariant-accepts_paired-loop-position
invariant-accepts_paired-loop-position g l =
    let entry = g.T.Matching.matches l.fn.matching in
    record {
      matches : g.T.Matching.matches l.matching ≡ entry;
      questions : l.questions.items ≡ l.fn.questions.items;
      left : InEach entry (λ m. KeywordsLeft g.K.Validate.shape m l.here.graph.now.nodes.items l.here.node l.here.place (numbers_in l.here.progress.now) l.keywords (drop l.position l.keywords));
    }

abbrev pub invariant-accepts_each-loop-index : goal.invariant-accepts_each-loop-index
invariant-accepts_each-loop-index g l =
    let entry = g.T.Matching.matches l.fn.matching in
    record {
      matches : g.T.Matching.matches l.matching ≡ entry;
      questions : l.questions.items ≡ l.fn.questions.items;
      left : InEach entry (λ m. EachLeft g.K.Validate.shape m l.here.graph.now.nodes.items l.here.node l.here.place (numbers_in l.here.progress.now) l.beside (drop l.start l.fn.questions.items) (drop l.index l.fn.questions.items));
    }

abbrev pub invariant-accepts_counted-loop-index : goal.invariant-accepts_counted-loop-index
invariant-accepts_counted-loop-index g l =
    let entry = g.T.Matching.matches l.fn.matching in
    record {
      matches : g.T.Matching.matches l.matching ≡ entry;
      questions : l.questions.items ≡ l.fn.questions.items;
      few : l.count ≤ l.index;
      left : InEach entry (λ m. CountLeft g.K.Validate.shape m l.here.graph.now.nodes.items l.here.node l.here.place (numbers_in l.here.progress.now) (drop l.start l.fn.questions.items) (drop l.index l.fn.questions.items) l.count);
    }

abbrev pub invariant-accepts_items-loop-index : goal.invariant-accepts_items-loop-index
invariant-accepts_items-loop-index g l =
    let entry = g.T.Matching.matches l.fn.matching in
    let nodes = l.here.graph.now.nodes.items in
    let progress = numbers_in l.here.progress.now in
    record {
      matches : g.T.Matching.matches l.matching ≡ entry;
      questions : l.questions.items ≡ l.fn.questions.items;
      asked : EachMayAsk entry nodes (rank_at nodes l.here.node) (value_at l.here.place) (item_calls l.node l.index (items_view (drop l.index l.items)));
      left : InEach entry (λ m. ItemsLeft (reading_of g.K.Validate.shape m nodes) l.here.place progress (size nodes (value_at l.here.place) progress (rank_at nodes l.here.node)) l.node l.start l.items l.index);
    }

abbrev pub invariant-accepts_each_branch-loop-branch : goal.invariant-accepts_each_branch-loop-branch
invariant-accepts_each_branch-loop-branch g l =
    let entry = g.T.Matching.matches l.fn.matching in
    let nodes = l.here.graph.now.nodes.items in
    let progress = numbers_in l.here.progress.now in
    record {
      matches : g.T.Matching.matches l.matching ≡ entry;
      questions : l.questions.items ≡ l.fn.questions.items;
      left : InEach entry (λ m. BranchesLeft (reading_of g.K.Validate.shape m nodes) l.here.place progress (size nodes (value_at l.here.place) progress (rank_at nodes l.here.node)) l.branches l.branch-index);
    }

abbrev pub invariant-accepts_counted_branches-loop-branch : goal.invariant-accepts_counted_branches-loop-branch
invariant-accepts_counted_branches-loop-branch g l =
    let entry = g.T.Matching.matches l.fn.matching in
    let nodes = l.here.graph.now.nodes.items in
    let progress = numbers_in l.here.progress.now in
    record {
      matches : g.T.Matching.matches l.matching ≡ entry;
      questions : l.questions.items ≡ l.fn.questions.items;
      few : l.count ≤ l.branch-index;
      left : InEach entry (λ m. BranchesCounted (reading_of g.K.Validate.shape m nodes) l.here.place progress (size nodes (value_at l.here.place) progress (rank_at nodes l.here.node)) l.branches l.branch-index l.count);
    }
