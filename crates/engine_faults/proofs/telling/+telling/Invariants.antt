use Rattle.std.proofs.Common.{◌≡◌, ◌+◌, ◌*◌, drop}
use Rattle.schema_engine.specs.Matches.{InEach}
use Rattle.schema_engine.specs.Graphs.{reading_of}
use Rattle.engine_faults.specs.Faults.{keywords_faults, question_faults, faults_beside, faults_of_object}
use Rattle.schema_engine.specs.Standing.{size_of}
use Rattle.engine_faults.specs.Telling.{size_at, stand_in, stand_of, stand_of_name}
use Rattle.engine_faults.proofs.QuestionFaults.{BranchesLeft}
use Rattle.engine_faults.proofs.ToTell.{ToTell}
use Rattle.engine_faults.proofs.telling.+telling.Given as goal

abbrev pub decreases-tell_value : goal.decreases-tell_value
decreases-tell_value g l = 17 * size_at l.graph.now.nodes.items (stand_in l.situation) l.node + 16

abbrev pub decreases-tell_name : goal.decreases-tell_name
decreases-tell_name g l = 17 * size_at l.graph.now.nodes.items (stand_of_name l.name l.object) l.node + 16

abbrev pub decreases-tell_node : goal.decreases-tell_node
decreases-tell_node g l = 17 * size_of l.there.now.here + 15

abbrev pub decreases-tell_paired : goal.decreases-tell_paired
decreases-tell_paired g l = 17 * size_of l.there.now.here + 14

abbrev pub decreases-tell_together : goal.decreases-tell_together
decreases-tell_together g l = 17 * size_of l.there.now.here + 13

abbrev pub decreases-tell_keywords : goal.decreases-tell_keywords
decreases-tell_keywords g l = 17 * size_of l.there.now.here + 12

abbrev pub decreases-tell_unless_settled : goal.decreases-tell_unless_settled
decreases-tell_unless_settled g l = 17 * size_of l.there.now.here + 11

abbrev pub decreases-tell_keyword : goal.decreases-tell_keyword
decreases-tell_keyword g l = 17 * size_of l.there.now.here + 11

abbrev pub decreases-tell_by_rule : goal.decreases-tell_by_rule
decreases-tell_by_rule g l = 17 * size_of l.there.now.here + 10

abbrev pub decreases-tell_combined : goal.decreases-tell_combined
decreases-tell_combined g l = 17 * size_of l.there.now.here + 9

abbrev pub decreases-tell_refusal : goal.decreases-tell_refusal
decreases-tell_refusal g l = 17 * size_of l.there.now.here + 8

abbrev pub decreases-tell_conditional : goal.decreases-tell_conditional
decreases-tell_conditional g l = 17 * size_of l.there.now.here + 8

abbrev pub decreases-tell_branches : goal.decreases-tell_branches
decreases-tell_branches g l = 17 * size_of l.there.now.here + 7

abbrev pub decreases-tell_each : goal.decreases-tell_each
decreases-tell_each g l = 17 * size_of l.there.now.here + 7

abbrev pub decreases-tell_named : goal.decreases-tell_named
decreases-tell_named g l = 17 * size_of l.there.now.here + 7

abbrev pub decreases-tell_question : goal.decreases-tell_question
decreases-tell_question g l = 17 * size_of l.there.now.here + 6

abbrev pub decreases-tell_step : goal.decreases-tell_step
decreases-tell_step g l = 17 * size_of l.there.now.here + 5

abbrev pub decreases-tell_inside : goal.decreases-tell_inside
decreases-tell_inside g l = 17 * size_of l.there.now.here + 4

abbrev pub decreases-tell_target : goal.decreases-tell_target
decreases-tell_target g l = 17 * size_of l.there.now.here + 4

abbrev pub invariant-tell_keywords-loop-keyword : goal.invariant-tell_keywords-loop-keyword
invariant-tell_keywords-loop-keyword g l =
    let entry = g.T.Matching.matches l.fn.matching in
    let nodes = l.there.here.graph.now.nodes.items in
    record {
      matches : g.T.Matching.matches l.matching ≡ entry;
      questions : l.questions.items ≡ l.fn.questions.items;
      left : InEach entry (λ m. let told = keywords_faults g.K.Validate.shape m nodes l.there.here.node (stand_of l.there) in ToTell (stand_of l.there) (size_of l.there.here) (told l.keywords) (told (drop l.keyword-index l.keywords)) l.fn.observer l.observer);
    }

abbrev pub invariant-tell_each-loop-index : goal.invariant-tell_each-loop-index
invariant-tell_each-loop-index g l =
    let entry = g.T.Matching.matches l.fn.matching in
    record {
      matches : g.T.Matching.matches l.matching ≡ entry;
      questions : l.questions.items ≡ l.fn.questions.items;
      left : InEach entry (λ m. let ask = question_faults (reading_of g.K.Validate.shape m l.there.here.graph.now.nodes.items) (g.K.Validate.added l.keyword) in ToTell (stand_of l.there) (size_of l.there.here) (λ x. faults_beside (ask x) l.beside (drop l.start l.fn.questions.items)) (λ x. faults_beside (ask x) l.beside (drop l.index l.fn.questions.items)) l.fn.observer l.observer);
    }

abbrev pub invariant-tell_named-loop-index : goal.invariant-tell_named-loop-index
invariant-tell_named-loop-index g l =
    let entry = g.T.Matching.matches l.fn.matching in
    record {
      matches : g.T.Matching.matches l.matching ≡ entry;
      questions : l.questions.items ≡ l.fn.questions.items;
      left : InEach entry (λ m. let ask = question_faults (reading_of g.K.Validate.shape m l.there.here.graph.now.nodes.items) (g.K.Validate.added l.keyword) in ToTell (stand_of l.there) (size_of l.there.here) (λ x. faults_of_object (ask x) x (drop l.start l.fn.questions.items)) (λ x. faults_of_object (ask x) x (drop l.index l.fn.questions.items)) l.fn.observer l.observer);
    }

abbrev pub invariant-tell_branches-loop-index : goal.invariant-tell_branches-loop-index
invariant-tell_branches-loop-index g l =
    let entry = g.T.Matching.matches l.fn.matching in
    record {
      matches : g.T.Matching.matches l.matching ≡ entry;
      questions : l.questions.items ≡ l.fn.questions.items;
      left : InEach entry (λ m. let ask = question_faults (reading_of g.K.Validate.shape m l.there.here.graph.now.nodes.items) (g.K.Validate.added l.keyword) in BranchesLeft (stand_of l.there) (size_of l.there.here) ask (drop l.start l.fn.questions.items) (drop l.index l.fn.questions.items) l.context.items);
    }
