use Rattle.std.proofs.Common.{◌≡◌, ◌<◌, ◌+◌, ◌∙◌, List, map, drop, length, get_or, sym, ap, subst, arith}
use Rattle.schema_engine.specs.declared.place.Question.{Question}
use Rattle.schema_engine.specs.Matches.{Answers, Matches, completed}
use Rattle.schema_engine.specs.Progress.{numbers_in}
use Rattle.schema_engine.specs.Places.{value_at}
use Rattle.schema_engine.specs.Questions.{call_of}
use Rattle.schema_engine.specs.Graphs.{rank_at, reading_of}
use Rattle.schema_engine.specs.Verdicts.{EachMayAsk, Tells, asked_in, size}
use Rattle.schema_engine.proofs.Left.{CountLeft}
use Rattle.schema_engine.proofs.Loops.{count_yes, count_no}
use Rattle.schema_engine.proofs.Steps.{may_ask_one}
use Rattle.schema_engine.proofs.counting.count_accepted.Goals.{then-branch, else-branch}
use Rattle.schema_engine.proofs.counting.count_accepted.Goals as goal

pub accepts_question-requires-clause-asked : goal.accepts_question-requires-clause-asked
accepts_question-requires-clause-asked g c =
    let h = c.args.here.now in
    let nodes = h.graph.now.nodes.items in
    let l = c.loop-index in
    let asked = subst (λ m. EachMayAsk m nodes (rank_at nodes h.node) (value_at h.place) (map call_of (drop c.args.start l.questions.items))) (sym l.invariant.matches)
    (subst (λ qs. EachMayAsk (g.T.Matching.matches c.args.matching.now) nodes (rank_at nodes h.node) (value_at h.place) (map call_of (drop c.args.start qs))) (sym l.invariant.questions) c.requires.asked) in
    let short : l.index < length l.questions.items = (let e = ap length l.invariant.questions in omega arith) in
    may_ask_one nodes _ _ c.args.start l.index l.questions.items c.index-question.result.now asked (omega arith) short c.index-question.ensures

pub loop-index-preserved : goal.loop-index-preserved
loop-index-preserved g c =
    let h = c.args.here.now in
    let nodes = h.graph.now.nodes.items in
    let l = c.loop-index in
    let q = c.index-question.result.now in
    let qs = c.args.questions.now.items in
    let progress = numbers_in h.progress.now in
    let enough = size nodes (value_at h.place) progress (rank_at nodes h.node) in
    let short : l.index < length qs = (let e = ap length l.invariant.questions in omega arith) in
    let is : q ≡ get_or qs l.index q = subst (λ (xs : List Question). q ≡ get_or xs l.index q) l.invariant.questions c.index-question.ensures in
    let told = λ (rest : Answers). subst (λ (m : Matches). Tells h.place progress enough (λ x. asked_in (reading_of g.K.Validate.shape (completed m rest) nodes) x (call_of q)) c.in_ok-accepts_question.field-0)
    l.invariant.matches (c.in_ok-accepts_question.ensures.verdict rest) in
    let matches = c.in_ok-accepts_question.ensures.matches ∙ l.invariant.matches in
    let questions = c.in_ok-accepts_question.ensures.questions ∙ l.invariant.questions in
    elim c.if-branch.branch [
      | then-branch w ↦ record {
        matches = matches;
        questions = questions;
        few = (let e = w.count-is in let low = l.invariant.few in omega arith);
        left = λ rest. subst (CountLeft g.K.Validate.shape (completed (g.T.Matching.matches c.args.matching.now) rest) nodes h.node h.place progress (drop c.args.start qs) (drop (l.index + 1) qs)) (sym w.count-is)
            (count_yes g.K.Validate.shape _ nodes h.node h.place progress (drop c.args.start qs) qs l.index q short is l.count (l.invariant.left rest) (subst (Tells h.place progress enough _) w.if-branch.true (told rest)));
      }
      | else-branch w ↦ record {
        matches = matches;
        questions = questions;
        few = (let e = w.count-is in let low = l.invariant.few in omega arith);
        left = λ rest. subst (CountLeft g.K.Validate.shape (completed (g.T.Matching.matches c.args.matching.now) rest) nodes h.node h.place progress (drop c.args.start qs) (drop (l.index + 1) qs)) (sym w.count-is)
            (count_no g.K.Validate.shape _ nodes h.node h.place progress (drop c.args.start qs) qs l.index q short is l.count (l.invariant.left rest) (subst (Tells h.place progress enough _) w.if-branch.false (told rest)));
      }
    ]
