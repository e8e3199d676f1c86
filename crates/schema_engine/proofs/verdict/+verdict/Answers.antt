use Rattle.std.proofs.Common.{rules, IfSome, ◌≡◌, ◌<◌, ◌≤◌, ◌+◌, ◌∙◌, suc, List, get_or, Bool, true, false, map, drop, length, [], ◌∷◌, refl, sym, ap, subst, arith}
use Rattle.std.proofs.lemmas.Result.{IfOk-weaker}
use Rattle.serde_json.specs.View.{view}
use Rattle.serde_json.specs.View.{items_view}
use Rattle.schema_meaning.specs.Members.{In, first, all_true}
use Rattle.schema_meaning.specs.Places.{Step, stay, value_after}
use Rattle.schema_meaning.specs.Keywords.{rule}
use Rattle.schema_engine.specs.declared.combination.Combination.TheVariants as combination
use Rattle.schema_engine.specs.declared.place.Asked.{Asked}
use Rattle.schema_engine.specs.declared.place.Question.{Question}
use Rattle.schema_engine.specs.declared.place.Place.TheVariants as place
use Rattle.schema_engine.specs.declared.itself.Itself.{Itself}
use Rattle.schema_engine.specs.Itself.{is_fine, SettlesSo}
use Rattle.schema_engine.specs.Matches.{Answers, Matches, completed, none_matched}
use Rattle.schema_engine.specs.Pairs.{ArePaired}
use Rattle.schema_engine.specs.Places.{value_at, step_of}
use Rattle.schema_engine.specs.Progress.{numbers_in, is_among}
use Rattle.schema_engine.specs.Questions.{Call, call_of}
use Rattle.schema_engine.specs.Asking.{AsksEach, AsksCounted, AsksSo, target_call, item_call, item_calls, branch_call}
use Rattle.schema_engine.specs.Rules.{all_beside, combined, is_right}
use Rattle.schema_engine.specs.Graphs.{rank_at, reading_of}
use Rattle.schema_engine.specs.Led.{LedTo, AreReady}
use Rattle.schema_engine.specs.Verdicts.{Setting, Fits, node_in, asked_in, rule_in, size, Tells, MayAsk, EachMayAsk, GoesDown}
use Rattle.schema_engine.proofs.Items.{items_begin, items_yes, items_no, items_end, may_ask_item, may_ask_items}
use Rattle.schema_engine.proofs.Branches.{BranchesCounted, branches_begin, branches_yes, branches_no, branches_end, counted_begin, counted_yes, counted_no, may_ask_branch}
use Rattle.schema_engine.proofs.Left.{CountLeft}
use Rattle.schema_engine.proofs.Loops.{each_yes, each_skipped, each_no, count_yes, count_no, chosen_by, combined_by}
use Rattle.schema_engine.proofs.Sizes.{size_inside, size_down, size_target}
use Rattle.schema_engine.proofs.Settings.{stepped, stay_fits, item_fits, member_fits, name_fits}
use Rattle.schema_engine.proofs.Keywords.{keywords_yes, keywords_no, keywords_end, one_yes, other_yes, both_no, both_told, same_at}
use Rattle.schema_engine.proofs.Steps.{may_ask_one, may_ask_rest, may_ask_for, each_may_ask, both_may_ask, keywords_here, keyword_stands, node_by_keywords, node_wrong, node_settled, each_right, keyword_told, keyword_each, keyword_counted, keyword_alone, keyword_targeted, question_told, follows_told, back_told, entered_told}
use Rattle.schema_engine.proofs.verdict.+verdict.Goals.{accepts_paired-else-position-pair-via-then-position-pair+else-position-pair-2, accepts_paired-else-position-pair-via-else-position-pair, accepts_paired-then-position-pair+then-position-pair-2+in_ok-accepts_keyword+else-not-branch-2, accepts_paired-else-position-pair, accepts_each-then-question-beside+in_ok-accepts_question+else-not-branch, accepts_each-else-question-beside, accepts_counted-then-branch, accepts_counted-else-branch, accepts_counted_branches-then-branch, accepts_counted_branches-else-branch}
use Rattle.schema_engine.proofs.verdict.+verdict.Goals as goal

-- ---- the target of a reference

pub accepts_target-returns-then-is_in_progress-clause-verdict :
    goal.accepts_target-returns-then-is_in_progress-clause-verdict
accepts_target-returns-then-is_in_progress-clause-verdict g t c =
    λ rest. back_told g.K.Validate.shape _ c.args.here.now.graph.now.nodes.items c.args.target c.args.here.now.place _ _ (sym c.is_in_progress.ensures ∙ c.if-is_in_progress.true)

pub accepts_target-accepts_node-requires : goal.accepts_target-accepts_node-requires
accepts_target-accepts_node-requires g t c κs within =
    let new : is_among c.args.target (numbers_in c.args.here.now.progress.now) ≡ false = sym c.is_in_progress.ensures ∙ c.if-is_in_progress.false in
    let nodes = c.args.here.now.graph.now.nodes.items in
    let d = value_at c.args.here.now.place in
    let progress = numbers_in c.args.here.now.progress.now in
    let enough = size nodes d progress (rank_at nodes c.args.here.now.node) in
    let falls = subst (λ ms. size nodes d ms (rank_at nodes c.args.target) < enough) (sym c.enter-entered.ensures)
    (size_target nodes d progress (rank_at nodes c.args.here.now.node) c.args.target c.requires.there new) in
    (omega arith, (within.0, (within.1, (c.requires.known, (c.requires.there, c.requires.led)))))

pub accepts_target-returns-clause-verdict : goal.accepts_target-returns-clause-verdict
accepts_target-returns-clause-verdict g t c =
    let new : is_among c.args.target (numbers_in c.args.here.now.progress.now) ≡ false = sym c.is_in_progress.ensures ∙ c.if-is_in_progress.false in
    let nodes = c.args.here.now.graph.now.nodes.items in
    let place = c.args.here.now.place in
    let falls = size_target nodes (value_at place) (numbers_in c.args.here.now.progress.now) (rank_at nodes c.args.here.now.node) c.args.target c.requires.there new in
    IfOk-weaker c.accepts_node.result _ _
    (λ b told rest. entered_told g.K.Validate.shape _ nodes c.args.target place _ _ _ b falls new
    (subst (λ ms. Tells place ms (suc (size nodes (value_at place) ms (rank_at nodes c.args.target))) (node_in (reading_of g.K.Validate.shape (completed (g.T.Matching.matches c.args.matching.now) rest) nodes) c.args.target) b) c.enter-entered.ensures (told rest)))
    c.accepts_node.ensures.verdict

-- ---- a question

pub accepts_question-returns-then-question-clause-verdict :
    goal.accepts_question-returns-then-question-clause-verdict
accepts_question-returns-then-question-clause-verdict g t c =
    IfOk-weaker c.accepts_target.result _ _ (λ b told rest. follows_told _ c.args.here.now.place _ _ (call_of c.args.question) b c.if-question.true (ap step_of c.in-Here.is) (told rest)) c.accepts_target.ensures.verdict

pub accepts_question-returns-else-question-clause-verdict :
    goal.accepts_question-returns-else-question-clause-verdict
accepts_question-returns-else-question-clause-verdict g t c =
    let nodes = c.args.here.now.graph.now.nodes.items in
    let here : step_of c.args.question.asked ≡ stay = ap step_of c.in-Here.is in
    let P : Step → Type 0 = λ s. (x : Setting) → Fits c.args.here.now.place (numbers_in c.args.here.now.progress.now) x → Fits c.args.here.now.place (numbers_in c.args.here.now.progress.now) (stepped x s) in
    IfOk-weaker c.accepts_node.result _ _
    (λ b told rest. question_told _ c.args.here.now.place c.args.here.now.place _ _ _ _ (call_of c.args.question) b
    (size_inside nodes (value_at c.args.here.now.place) (numbers_in c.args.here.now.progress.now) (rank_at nodes c.args.here.now.node) (rank_at nodes c.args.question.node) (c.requires.asked.falls c.if-question.false))
    c.if-question.false
    (subst P (sym here) (λ x fits. stay_fits c.args.here.now.place _ x fits))
    (told rest))
    c.accepts_node.ensures.verdict

pub accepts_question-accepts_node-requires-in-Item :
    goal.accepts_question-accepts_node-requires-in-Item
accepts_question-accepts_node-requires-in-Item g t c κs within =
    let nodes = c.args.here.now.graph.now.nodes.items in
    let P : Asked → Type 0 = λ a. GoesDown (value_at c.args.here.now.place) (step_of a) in
    let falls = size_down nodes (value_at c.args.here.now.place) (view c.in-Item.item.now) (numbers_in c.args.here.now.progress.now) [] (rank_at nodes c.args.here.now.node) c.args.question.node (subst P c.in-Item.is c.requires.asked.down) in
    let L : Asked → Type 0 = λ a. LedTo (g.T.Matching.matches c.args.matching.now) c.args.question.node (value_after (value_at c.args.here.now.place) (step_of a)) in
    (omega arith, (within.0, (within.1, (c.requires.known, (c.requires.asked.below, subst L c.in-Item.is c.requires.asked.led)))))

pub accepts_question-accepts_node-requires-in-Member :
    goal.accepts_question-accepts_node-requires-in-Member
accepts_question-accepts_node-requires-in-Member g t c κs within =
    let nodes = c.args.here.now.graph.now.nodes.items in
    let P : Asked → Type 0 = λ a. GoesDown (value_at c.args.here.now.place) (step_of a) in
    let falls = size_down nodes (value_at c.args.here.now.place) (view c.in-Member.member.now) (numbers_in c.args.here.now.progress.now) [] (rank_at nodes c.args.here.now.node) c.args.question.node (subst P c.in-Member.is c.requires.asked.down) in
    let L : Asked → Type 0 = λ a. LedTo (g.T.Matching.matches c.args.matching.now) c.args.question.node (value_after (value_at c.args.here.now.place) (step_of a)) in
    (omega arith, (within.0, (within.1, (c.requires.known, (c.requires.asked.below, subst L c.in-Member.is c.requires.asked.led)))))

pub accepts_question-accepts_node-requires-in-Name :
    goal.accepts_question-accepts_node-requires-in-Name
accepts_question-accepts_node-requires-in-Name g t c κs within =
    let nodes = c.args.here.now.graph.now.nodes.items in
    let P : Asked → Type 0 = λ a. GoesDown (value_at c.args.here.now.place) (step_of a) in
    let falls = size_down nodes (value_at c.args.here.now.place) (value_at (place.Name c.in-Name.name)) (numbers_in c.args.here.now.progress.now) [] (rank_at nodes c.args.here.now.node) c.args.question.node (subst P c.in-Name.is c.requires.asked.down) in
    let L : Asked → Type 0 = λ a. LedTo (g.T.Matching.matches c.args.matching.now) c.args.question.node (value_after (value_at c.args.here.now.place) (step_of a)) in
    (omega arith, (within.0, (within.1, (c.requires.known, (c.requires.asked.below, subst L c.in-Name.is c.requires.asked.led)))))

-- what is asked a step down follows no reference
no_reference : (c : Call) → (c.follows ≡ true → c.step ≡ stay) → (c.step ≡ stay → ⊥) → c.follows ≡ false
no_reference c stays down = by_test c.follows refl
  where
    by_test : (b : Bool) → c.follows ≡ b → b ≡ false
    by_test true e = absurd (down (stays e))
    by_test false e = refl

pub accepts_question-returns-in-Item-clause-verdict :
    goal.accepts_question-returns-in-Item-clause-verdict
accepts_question-returns-in-Item-clause-verdict g t c =
    let nodes = c.args.here.now.graph.now.nodes.items in
    let progress = numbers_in c.args.here.now.progress.now in
    let to = place.Value c.in-Item.item in
    let P : Asked → Type 0 = λ a. GoesDown (value_at c.args.here.now.place) (step_of a) in
    let down = subst P c.in-Item.is c.requires.asked.down in
    let Q : Asked → Type 0 = λ a. (x : Setting) → Fits c.args.here.now.place progress x → Fits to [] (stepped x (step_of a)) in
    IfOk-weaker c.accepts_node-in-Item.result _ _
    (λ b told rest. question_told _ c.args.here.now.place to _ _ _ _ (call_of c.args.question) b
    (size_down nodes (value_at c.args.here.now.place) (value_at to) progress [] (rank_at nodes c.args.here.now.node) c.args.question.node down)
    (no_reference (call_of c.args.question) c.requires.asked.stays (λ e. (let f = sym (ap step_of c.in-Item.is) ∙ e in cc)))
    (subst Q (sym c.in-Item.is) (λ x fits. item_fits c.args.here.now.place progress x fits c.in-Item.item c.in-Item.index))
    (told rest))
    c.accepts_node-in-Item.ensures.verdict

pub accepts_question-returns-in-Member-clause-verdict :
    goal.accepts_question-returns-in-Member-clause-verdict
accepts_question-returns-in-Member-clause-verdict g t c =
    let nodes = c.args.here.now.graph.now.nodes.items in
    let progress = numbers_in c.args.here.now.progress.now in
    let to = place.Value c.in-Member.member in
    let P : Asked → Type 0 = λ a. GoesDown (value_at c.args.here.now.place) (step_of a) in
    let down = subst P c.in-Member.is c.requires.asked.down in
    let Q : Asked → Type 0 = λ a. (x : Setting) → Fits c.args.here.now.place progress x → Fits to [] (stepped x (step_of a)) in
    IfOk-weaker c.accepts_node-in-Member.result _ _
    (λ b told rest. question_told _ c.args.here.now.place to _ _ _ _ (call_of c.args.question) b
    (size_down nodes (value_at c.args.here.now.place) (value_at to) progress [] (rank_at nodes c.args.here.now.node) c.args.question.node down)
    (no_reference (call_of c.args.question) c.requires.asked.stays (λ e. (let f = sym (ap step_of c.in-Member.is) ∙ e in cc)))
    (subst Q (sym c.in-Member.is) (λ x fits. member_fits c.args.here.now.place progress x fits c.in-Member.member c.in-Member.name.now))
    (told rest))
    c.accepts_node-in-Member.ensures.verdict

pub accepts_question-returns-in-Name-clause-verdict :
    goal.accepts_question-returns-in-Name-clause-verdict
accepts_question-returns-in-Name-clause-verdict g t c =
    let nodes = c.args.here.now.graph.now.nodes.items in
    let progress = numbers_in c.args.here.now.progress.now in
    let to = place.Name c.in-Name.name in
    let P : Asked → Type 0 = λ a. GoesDown (value_at c.args.here.now.place) (step_of a) in
    let down = subst P c.in-Name.is c.requires.asked.down in
    let Q : Asked → Type 0 = λ a. (x : Setting) → Fits c.args.here.now.place progress x → Fits to [] (stepped x (step_of a)) in
    IfOk-weaker c.accepts_node-in-Name.result _ _
    (λ b told rest. question_told _ c.args.here.now.place to _ _ _ _ (call_of c.args.question) b
    (size_down nodes (value_at c.args.here.now.place) (value_at to) progress [] (rank_at nodes c.args.here.now.node) c.args.question.node down)
    (no_reference (call_of c.args.question) c.requires.asked.stays (λ e. (let f = sym (ap step_of c.in-Name.is) ∙ e in cc)))
    (subst Q (sym c.in-Name.is) (λ x fits. name_fits c.args.here.now.place progress x fits c.in-Name.name down))
    (told rest))
    c.accepts_node-in-Name.ensures.verdict

-- ---- a condition

pub accepts_conditional-accepts_question-requires :
    goal.accepts_conditional-accepts_question-requires
accepts_conditional-accepts_question-requires g t c κs within = (
  omega arith,
  (
    within.0,
    (
      within.1,
      (
        c.requires.known,
        may_ask_one c.args.here.now.graph.now.nodes.items _ _ c.args.start c.args.start c.args.questions.now.items c.index-condition.result.now c.requires.asked (omega arith) (omega arith) c.index-condition.ensures,
      ),
    ),
  ),
)

pub accepts_conditional-accepts_each-requires : goal.accepts_conditional-accepts_each-requires
accepts_conditional-accepts_each-requires g t c κs within =
    let same : c.accepts_question.new.questions.items ≡ c.args.questions.now.items = c.in_ok-answer.ensures.questions in
    let matches : g.T.Matching.matches c.accepts_question.new.matching ≡ g.T.Matching.matches c.args.matching.now = c.in_ok-answer.ensures.matches in
    let nodes = c.args.here.now.graph.now.nodes.items in (
      omega arith,
      (
        within.0,
        (
          within.1,
          (
            subst (λ m. AreReady g.K.Validate.knows g.K.Validate.shape m nodes) (sym matches) c.requires.known,
            subst (λ qs. EachMayAsk (g.T.Matching.matches c.accepts_question.new.matching) nodes (rank_at nodes c.args.here.now.node) (value_at c.args.here.now.place) (map call_of (drop (c.args.start + 1) qs))) (sym same)
                (may_ask_rest nodes (rank_at nodes c.args.here.now.node) (value_at c.args.here.now.place) c.args.start c.args.questions.now.items
                (subst (λ m. EachMayAsk m nodes (rank_at nodes c.args.here.now.node) (value_at c.args.here.now.place) (map call_of (drop c.args.start c.args.questions.now.items))) (sym matches) c.requires.asked)),
          ),
        ),
      ),
    )

-- ---- the loops over questions

pub accepts_counted-accepts_question-requires : goal.accepts_counted-accepts_question-requires
accepts_counted-accepts_question-requires g t c κs within =
    let nodes = c.args.here.now.graph.now.nodes.items in
    let l = c.loop-index in
    let asked = subst (λ m. EachMayAsk m nodes (rank_at nodes c.args.here.now.node) (value_at c.args.here.now.place) (map call_of (drop c.args.start l.questions.items))) (sym l.invariant.matches)
    (subst (λ qs. EachMayAsk (g.T.Matching.matches c.args.matching.now) nodes (rank_at nodes c.args.here.now.node) (value_at c.args.here.now.place) (map call_of (drop c.args.start qs))) (sym l.invariant.questions) c.requires.asked) in
    let short : l.index < length l.questions.items = (let e = ap length l.invariant.questions in omega arith) in (
      omega arith,
      (
        within.0,
        (
          within.1,
          (
            subst (λ m. AreReady g.K.Validate.knows g.K.Validate.shape m nodes) (sym l.invariant.matches) c.requires.known,
            may_ask_one nodes _ _ c.args.start l.index l.questions.items c.index-question.result.now asked (omega arith) short c.index-question.ensures,
          ),
        ),
      ),
    )

pub accepts_each-accepts_question-requires : goal.accepts_each-accepts_question-requires
accepts_each-accepts_question-requires g t c κs within =
    let nodes = c.args.here.now.graph.now.nodes.items in
    let l = c.loop-index in
    let asked = subst (λ m. EachMayAsk m nodes (rank_at nodes c.args.here.now.node) (value_at c.args.here.now.place) (map call_of (drop c.args.start l.questions.items))) (sym l.invariant.matches)
    (subst (λ qs. EachMayAsk (g.T.Matching.matches c.args.matching.now) nodes (rank_at nodes c.args.here.now.node) (value_at c.args.here.now.place) (map call_of (drop c.args.start qs))) (sym l.invariant.questions) c.requires.asked) in
    let short : l.index < length l.questions.items = (let e = ap length l.invariant.questions in omega arith) in (
      omega arith,
      (
        within.0,
        (
          within.1,
          (
            subst (λ m. AreReady g.K.Validate.knows g.K.Validate.shape m nodes) (sym l.invariant.matches) c.requires.known,
            may_ask_one nodes _ _ c.args.start l.index l.questions.items c.index-question.result.now asked (omega arith) short c.index-question.ensures,
          ),
        ),
      ),
    )

-- ---- a keyword

pub accepts_keyword-accepts_target-requires : goal.accepts_keyword-accepts_target-requires
accepts_keyword-accepts_target-requires g t c κs within =
    let nodes = c.args.here.now.graph.now.nodes.items in
    let d = value_at c.args.here.now.place in
    let m = g.T.Matching.matches c.args.matching.now in
    let k = λ (rest : Answers). rule (completed m rest) d (g.K.Validate.shape c.args.keyword.now) in
    let asks = λ (rest : Answers). AsksEach.questions (subst (λ a. AsksSo a (k rest)) c.in-Target.is (c.asking.ensures _)) in
    let may = (each_may_ask g.K.Validate.knows g.K.Validate.shape nodes c.args.here.now.node c.args.keyword.now m d c.requires.known c.requires.led c.requires.stands c.args.here.now.graph.now.sound
    (target_call c.in-Target.node ∷ []) (λ rest. sym (asks rest))).each (target_call c.in-Target.node) first in
    (omega arith, (within.0, (within.1, (c.requires.known, (may.below, may.led)))))

pub accepts_keyword-accepts_items-requires : goal.accepts_keyword-accepts_items-requires
accepts_keyword-accepts_items-requires g t c κs within =
    let nodes = c.args.here.now.graph.now.nodes.items in
    let d = value_at c.args.here.now.place in
    let m = g.T.Matching.matches c.args.matching.now in
    let k = λ (rest : Answers). rule (completed m rest) d (g.K.Validate.shape c.args.keyword.now) in
    let calls = item_calls c.in-Items.node c.in-Items.start (items_view (drop c.in-Items.start c.in-Items.items.now)) in
    let asks = λ (rest : Answers). AsksEach.questions (subst (λ a. AsksSo a (k rest)) c.in-Items.is (c.asking.ensures _)) in
    let may = each_may_ask g.K.Validate.knows g.K.Validate.shape nodes c.args.here.now.node c.args.keyword.now m d c.requires.known c.requires.led c.requires.stands c.args.here.now.graph.now.sound
    calls (λ rest. sym (asks rest)) in
    (omega arith, (within.0, (within.1, (c.requires.known, may))))

pub accepts_keyword-accepts_each_branch-requires : goal.accepts_keyword-accepts_each_branch-requires
accepts_keyword-accepts_each_branch-requires g t c κs within =
    let nodes = c.args.here.now.graph.now.nodes.items in
    let d = value_at c.args.here.now.place in
    let m = g.T.Matching.matches c.args.matching.now in
    let k = λ (rest : Answers). rule (completed m rest) d (g.K.Validate.shape c.args.keyword.now) in
    let asks = λ (rest : Answers). AsksEach.questions (subst (λ a. AsksSo a (k rest)) c.in-Each.is (c.asking.ensures _)) in
    let may = each_may_ask g.K.Validate.knows g.K.Validate.shape nodes c.args.here.now.node c.args.keyword.now m d c.requires.known c.requires.led c.requires.stands c.args.here.now.graph.now.sound
    (map branch_call c.in-Each.branches.now) (λ rest. sym (asks rest)) in
    (omega arith, (within.0, (within.1, (c.requires.known, may))))

pub accepts_keyword-accepts_counted_branches-requires : goal.accepts_keyword-accepts_counted_branches-requires
accepts_keyword-accepts_counted_branches-requires g t c κs within =
    let nodes = c.args.here.now.graph.now.nodes.items in
    let d = value_at c.args.here.now.place in
    let m = g.T.Matching.matches c.args.matching.now in
    let k = λ (rest : Answers). rule (completed m rest) d (g.K.Validate.shape c.args.keyword.now) in
    let asks = λ (rest : Answers). AsksCounted.questions (subst (λ a. AsksSo a (k rest)) c.in-Counted.is (c.asking.ensures _)) in
    let may = each_may_ask g.K.Validate.knows g.K.Validate.shape nodes c.args.here.now.node c.args.keyword.now m d c.requires.known c.requires.led c.requires.stands c.args.here.now.graph.now.sound
    (map branch_call c.in-Counted.branches.now) (λ rest. sym (asks rest)) in
    (omega arith, (within.0, (within.1, (c.requires.known, may))))

pub accepts_keyword-returns-in-Nothing-clause-verdict :
    goal.accepts_keyword-returns-in-Nothing-clause-verdict
accepts_keyword-returns-in-Nothing-clause-verdict g t c rest =
    let k = rule (completed (g.T.Matching.matches c.args.matching.now) rest) (value_at c.args.here.now.place) (g.K.Validate.shape c.args.keyword.now) in
    keyword_alone _ c.args.here.now.place _ _ k true (sym (c.requires.right rest)) refl
    (subst (λ a. AsksSo a k) c.in-Nothing.is (c.asking.ensures _))

pub accepts_keyword-returns-in-Target-clause-verdict :
    goal.accepts_keyword-returns-in-Target-clause-verdict
accepts_keyword-returns-in-Target-clause-verdict g t c =
    let nodes = c.args.here.now.graph.now.nodes.items in
    let place = c.args.here.now.place in
    let progress = numbers_in c.args.here.now.progress.now in
    let enough = size nodes (value_at place) progress (rank_at nodes c.args.here.now.node) in
    let k = λ (rest : Answers). rule (completed (g.T.Matching.matches c.args.matching.now) rest) (value_at place) (g.K.Validate.shape c.args.keyword.now) in
    IfOk-weaker c.accepts_target.result _ _
    (λ b tells rest. keyword_targeted _ place progress enough (k rest) b true c.in-Target.node (sym (c.requires.right rest)) refl
    (subst (λ a. AsksSo a (k rest)) c.in-Target.is (c.asking.ensures _)) (tells rest)) c.accepts_target.ensures.verdict

pub accepts_keyword-returns-in-Items-clause-verdict :
    goal.accepts_keyword-returns-in-Items-clause-verdict
accepts_keyword-returns-in-Items-clause-verdict g t c =
    let nodes = c.args.here.now.graph.now.nodes.items in
    let place = c.args.here.now.place in
    let progress = numbers_in c.args.here.now.progress.now in
    let enough = size nodes (value_at place) progress (rank_at nodes c.args.here.now.node) in
    let k = λ (rest : Answers). rule (completed (g.T.Matching.matches c.args.matching.now) rest) (value_at place) (g.K.Validate.shape c.args.keyword.now) in
    let calls = item_calls c.in-Items.node c.in-Items.start (items_view (drop c.in-Items.start c.in-Items.items.now)) in
    IfOk-weaker c.accepts_items.result _ _
    (λ b tells rest. keyword_each _ place progress enough (k rest) b true calls (sym (c.requires.right rest)) refl
    (subst (λ a. AsksSo a (k rest)) c.in-Items.is (c.asking.ensures _)) (tells rest)) c.accepts_items.ensures.verdict

pub accepts_keyword-returns-in-Each-clause-verdict :
    goal.accepts_keyword-returns-in-Each-clause-verdict
accepts_keyword-returns-in-Each-clause-verdict g t c =
    let nodes = c.args.here.now.graph.now.nodes.items in
    let place = c.args.here.now.place in
    let progress = numbers_in c.args.here.now.progress.now in
    let enough = size nodes (value_at place) progress (rank_at nodes c.args.here.now.node) in
    let k = λ (rest : Answers). rule (completed (g.T.Matching.matches c.args.matching.now) rest) (value_at place) (g.K.Validate.shape c.args.keyword.now) in
    IfOk-weaker c.accepts_each_branch.result _ _
    (λ b tells rest. keyword_each _ place progress enough (k rest) b true (map branch_call c.in-Each.branches.now) (sym (c.requires.right rest)) refl
    (subst (λ a. AsksSo a (k rest)) c.in-Each.is (c.asking.ensures _)) (tells rest)) c.accepts_each_branch.ensures.verdict

pub accepts_keyword-returns-in-Counted-clause-verdict :
    goal.accepts_keyword-returns-in-Counted-clause-verdict
accepts_keyword-returns-in-Counted-clause-verdict g t c =
    let nodes = c.args.here.now.graph.now.nodes.items in
    let place = c.args.here.now.place in
    let progress = numbers_in c.args.here.now.progress.now in
    let enough = size nodes (value_at place) progress (rank_at nodes c.args.here.now.node) in
    let k = λ (rest : Answers). rule (completed (g.T.Matching.matches c.args.matching.now) rest) (value_at place) (g.K.Validate.shape c.args.keyword.now) in
    IfOk-weaker c.accepts_counted_branches.result _ _
    (λ b tells rest. keyword_counted _ place progress enough (k rest) b true c.in-Counted.least c.in-Counted.most (map branch_call c.in-Counted.branches.now) (sym (c.requires.right rest)) refl
    (subst (λ a. AsksSo a (k rest)) c.in-Counted.is (c.asking.ensures _)) (tells rest)) c.accepts_counted_branches.ensures.verdict

-- ---- one whose questions are listed

pub accepts_listed-questions-requires : goal.accepts_listed-questions-requires
accepts_listed-questions-requires g t c =
    let nodes = c.args.here.now.graph.now.nodes.items in
    let k = c.args.keyword.now in
    record {
      known = c.requires.known.known.each c.args.here.now.node k c.requires.stands;
      asked = may_ask_for g.K.Validate.knows g.K.Validate.shape nodes c.args.here.now.node k _ (value_at c.args.here.now.place) c.requires.known c.requires.led c.requires.stands;
    }

pub accepts_listed-accepts_combined-requires : goal.accepts_listed-accepts_combined-requires
accepts_listed-accepts_combined-requires g t c κs within =
    let nodes = c.args.here.now.graph.now.nodes.items in
    let d = value_at c.args.here.now.place in
    let same = c.in_ok-questions.ensures.same in
    let start : c.len-start.result ≡ length c.args.questions.now.items = omega arith in
    let now = c.questions.new.into.items in
    let asked = λ (rest : Answers). ap (λ n. map call_of (drop n now)) start ∙ (c.in_ok-questions.ensures.pushed rest).pushed in
    let may = each_may_ask g.K.Validate.knows g.K.Validate.shape nodes c.args.here.now.node c.args.keyword.now (g.T.Matching.matches c.args.matching.now) d c.requires.known c.requires.led c.requires.stands c.args.here.now.graph.now.sound
    (map call_of (drop c.len-start.result now)) asked in (
      omega arith,
      (
        within.0,
        (
          within.1,
          (
            subst (λ m. AreReady g.K.Validate.knows g.K.Validate.shape m nodes) (sym same) c.requires.known,
            subst (λ m. EachMayAsk m nodes (rank_at nodes c.args.here.now.node) d (map call_of (drop c.len-start.result now))) (sym same) may,
          ),
        ),
      ),
    )

pub accepts_listed-returns-clause-verdict : goal.accepts_listed-returns-clause-verdict
accepts_listed-returns-clause-verdict g t c rest =
    let nodes = c.args.here.now.graph.now.nodes.items in
    let place = c.args.here.now.place in
    let same = c.in_ok-questions.ensures.same in
    let start : c.len-start.result ≡ length c.args.questions.now.items = omega arith in
    let asked = ap (λ n. map call_of (drop n c.questions.new.into.items)) start ∙ (c.in_ok-questions.ensures.pushed rest).pushed in
    let told = subst (λ m. Tells place (numbers_in c.args.here.now.progress.now)
    (size nodes (value_at place) (numbers_in c.args.here.now.progress.now) (rank_at nodes c.args.here.now.node))
    (λ x. combined c.combination-combination.result (asked_in (reading_of g.K.Validate.shape (completed m rest) nodes) x) (map call_of (drop c.len-start.result c.questions.new.into.items)))
    c.in_ok-accepts.accepts) same (c.in_ok-accepts.ensures.verdict rest) in
    keyword_told _ place _ _ _ c.in_ok-accepts.accepts true c.combination-combination.result (map call_of (drop c.len-start.result c.questions.new.into.items))
    (sym (c.requires.right rest)) refl (c.combination-combination.ensures _) asked told

-- ---- the items of a list

pub accepts_items-loop-index-init : goal.accepts_items-loop-index-init
accepts_items-loop-index-init g t c = record { matches = refl; questions = refl; asked = c.requires.asked; left = λ rest. items_begin _ _ _ _ _ _ _ }

pub accepts_items-accepts_question-requires : goal.accepts_items-accepts_question-requires
accepts_items-accepts_question-requires g t c κs within =
    let nodes = c.args.here.now.graph.now.nodes.items in
    let l = c.loop-index in (
      omega arith,
      (
        within.0,
        (
          within.1,
          (
            subst (λ m. AreReady g.K.Validate.knows g.K.Validate.shape m nodes) (sym l.invariant.matches) c.requires.known,
            subst (λ m. MayAsk m nodes (rank_at nodes c.args.here.now.node) (value_at c.args.here.now.place) (item_call c.args.node l.index (view c.index-items-index.result))) (sym l.invariant.matches)
                (may_ask_item nodes _ _ c.args.node l.index c.args.items.now c.index-items-index.result (omega arith) c.index-items-index.is l.invariant.asked),
          ),
        ),
      ),
    )

pub accepts_items-loop-index-preserved : goal.accepts_items-loop-index-preserved
accepts_items-loop-index-preserved g t c =
    let nodes = c.args.here.now.graph.now.nodes.items in
    let l = c.loop-index in
    let place = c.args.here.now.place in
    let progress = numbers_in c.args.here.now.progress.now in
    let enough = size nodes (value_at place) progress (rank_at nodes c.args.here.now.node) in
    let v = c.index-items-index.result in
    let taken : c.in_ok-accepts_question.field-0 ≡ true = search rules in
    let short : l.index < length c.args.items.now = omega arith in
    let verdict = λ (rest : Answers). subst (λ (m : Matches). Tells place progress enough (λ x. asked_in (reading_of g.K.Validate.shape (completed m rest) nodes) x (item_call c.args.node l.index (view v))) c.in_ok-accepts_question.field-0)
    l.invariant.matches (c.in_ok-accepts_question.ensures.verdict rest) in
    record {
      matches = c.in_ok-accepts_question.ensures.matches ∙ l.invariant.matches;
      questions = c.in_ok-accepts_question.ensures.questions ∙ l.invariant.questions;
      asked = may_ask_items nodes _ _ c.args.node l.index c.args.items.now v (omega arith) c.index-items-index.is l.invariant.asked;
      left = λ rest. items_yes _ place progress enough c.args.node c.args.start c.args.items.now l.index v short c.index-items-index.is (l.invariant.left rest) (subst (Tells place progress enough _) taken (verdict rest));
    }

pub accepts_items-returns-then-not-branch-clause-verdict :
    goal.accepts_items-returns-then-not-branch-clause-verdict
accepts_items-returns-then-not-branch-clause-verdict g t c =
    let nodes = c.args.here.now.graph.now.nodes.items in
    let l = c.loop-index in
    let place = c.args.here.now.place in
    let progress = numbers_in c.args.here.now.progress.now in
    let enough = size nodes (value_at place) progress (rank_at nodes c.args.here.now.node) in
    let v = c.index-items-index.result in
    let refused : c.in_ok-accepts_question.field-0 ≡ false = search rules in
    let short : l.index < length c.args.items.now = omega arith in
    let verdict = λ (rest : Answers). subst (λ (m : Matches). Tells place progress enough (λ x. asked_in (reading_of g.K.Validate.shape (completed m rest) nodes) x (item_call c.args.node l.index (view v))) c.in_ok-accepts_question.field-0)
    l.invariant.matches (c.in_ok-accepts_question.ensures.verdict rest) in
    λ rest. items_no _ place progress enough c.args.node c.args.start c.args.items.now l.index v short c.index-items-index.is (l.invariant.left rest) (subst (Tells place progress enough _) refused (verdict rest))

pub accepts_items-returns-clause-verdict : goal.accepts_items-returns-clause-verdict
accepts_items-returns-clause-verdict g t c =
    let l = c.loop-index in
    let past : length c.args.items.now ≤ l.index = omega arith in
    λ rest. items_end _ c.args.here.now.place _ _ c.args.node c.args.start c.args.items.now l.index past (l.invariant.left rest)

-- ---- branches

pub accepts_branch-returns-clause-verdict : goal.accepts_branch-returns-clause-verdict
accepts_branch-returns-clause-verdict g t c =
    let h = c.args.here.now in
    let nodes = h.graph.now.nodes.items in
    let progress = numbers_in h.progress.now in
    IfOk-weaker c.accepts_node.result _ _
    (λ b told rest. question_told _ h.place h.place _ _ _ _ (branch_call c.args.branch) b
    (size_inside nodes (value_at h.place) progress (rank_at nodes h.node) (rank_at nodes c.args.branch) (c.requires.asked.falls refl))
    refl (λ x fits. stay_fits h.place _ x fits) (told rest))
    c.accepts_node.ensures.verdict

pub accepts_each_branch-loop-branch-init : goal.accepts_each_branch-loop-branch-init
accepts_each_branch-loop-branch-init g t c = record { matches = refl; questions = refl; left = λ rest. branches_begin _ _ _ _ _ }

pub accepts_each_branch-accepts_branch-requires : goal.accepts_each_branch-accepts_branch-requires
accepts_each_branch-accepts_branch-requires g t c κs within =
    let nodes = c.args.here.now.graph.now.nodes.items in
    let l = c.loop-branch in
    let may = may_ask_branch nodes (rank_at nodes c.args.here.now.node) (value_at c.args.here.now.place) c.args.branches.now l.branch-index c.loop-branch-test.true c.requires.asked in (
      omega arith,
      (
        within.0,
        (
          within.1,
          (
            subst (λ m. AreReady g.K.Validate.knows g.K.Validate.shape m nodes) (sym l.invariant.matches) c.requires.known,
            subst (λ m. MayAsk m nodes (rank_at nodes c.args.here.now.node) (value_at c.args.here.now.place) (branch_call (get_or c.args.branches.now l.branch-index 0))) (sym l.invariant.matches) may,
          ),
        ),
      ),
    )

pub accepts_each_branch-loop-branch-preserved : goal.accepts_each_branch-loop-branch-preserved
accepts_each_branch-loop-branch-preserved g t c =
    let nodes = c.args.here.now.graph.now.nodes.items in
    let l = c.loop-branch in
    let place = c.args.here.now.place in
    let progress = numbers_in c.args.here.now.progress.now in
    let enough = size nodes (value_at place) progress (rank_at nodes c.args.here.now.node) in
    let ns = c.args.branches.now in
    let n = get_or ns l.branch-index 0 in
    let taken : c.in_ok-accepts_branch.field-0 ≡ true = search rules in
    let verdict = λ (rest : Answers). subst (λ (m : Matches). Tells place progress enough (λ x. asked_in (reading_of g.K.Validate.shape (completed m rest) nodes) x (branch_call n)) c.in_ok-accepts_branch.field-0)
    l.invariant.matches (c.in_ok-accepts_branch.ensures.verdict rest) in
    record {
      matches = c.in_ok-accepts_branch.ensures.matches ∙ l.invariant.matches;
      questions = c.in_ok-accepts_branch.ensures.questions ∙ l.invariant.questions;
      left = λ rest. branches_yes _ place progress enough ns l.branch-index c.loop-branch-test.true (l.invariant.left rest) (subst (Tells place progress enough _) taken (verdict rest));
    }

pub accepts_each_branch-returns-then-not-branch-clause-verdict :
    goal.accepts_each_branch-returns-then-not-branch-clause-verdict
accepts_each_branch-returns-then-not-branch-clause-verdict g t c =
    let nodes = c.args.here.now.graph.now.nodes.items in
    let l = c.loop-branch in
    let place = c.args.here.now.place in
    let progress = numbers_in c.args.here.now.progress.now in
    let enough = size nodes (value_at place) progress (rank_at nodes c.args.here.now.node) in
    let ns = c.args.branches.now in
    let n = get_or ns l.branch-index 0 in
    let refused : c.in_ok-accepts_branch.field-0 ≡ false = search rules in
    let verdict = λ (rest : Answers). subst (λ (m : Matches). Tells place progress enough (λ x. asked_in (reading_of g.K.Validate.shape (completed m rest) nodes) x (branch_call n)) c.in_ok-accepts_branch.field-0)
    l.invariant.matches (c.in_ok-accepts_branch.ensures.verdict rest) in
    λ rest. branches_no _ place progress enough ns l.branch-index c.loop-branch-test.true (l.invariant.left rest) (subst (Tells place progress enough _) refused (verdict rest))

pub accepts_each_branch-returns-clause-verdict : goal.accepts_each_branch-returns-clause-verdict
accepts_each_branch-returns-clause-verdict g t c =
    let l = c.loop-branch in
    let past : length c.args.branches.now ≤ l.branch-index = omega arith in
    λ rest. branches_end _ c.args.here.now.place _ _ c.args.branches.now l.branch-index past (l.invariant.left rest)

pub accepts_counted_branches-loop-branch-init : goal.accepts_counted_branches-loop-branch-init
accepts_counted_branches-loop-branch-init g t c = record { matches = refl; questions = refl; few = omega arith; left = λ rest. counted_begin _ _ _ _ _ }

pub accepts_counted_branches-accepts_branch-requires : goal.accepts_counted_branches-accepts_branch-requires
accepts_counted_branches-accepts_branch-requires g t c κs within =
    let nodes = c.args.here.now.graph.now.nodes.items in
    let l = c.loop-branch in
    let may = may_ask_branch nodes (rank_at nodes c.args.here.now.node) (value_at c.args.here.now.place) c.args.branches.now l.branch-index c.loop-branch-test.true c.requires.asked in (
      omega arith,
      (
        within.0,
        (
          within.1,
          (
            subst (λ m. AreReady g.K.Validate.knows g.K.Validate.shape m nodes) (sym l.invariant.matches) c.requires.known,
            subst (λ m. MayAsk m nodes (rank_at nodes c.args.here.now.node) (value_at c.args.here.now.place) (branch_call (get_or c.args.branches.now l.branch-index 0))) (sym l.invariant.matches) may,
          ),
        ),
      ),
    )

pub accepts_counted_branches-loop-branch-preserved : goal.accepts_counted_branches-loop-branch-preserved
accepts_counted_branches-loop-branch-preserved g t c =
    let nodes = c.args.here.now.graph.now.nodes.items in
    let l = c.loop-branch in
    let place = c.args.here.now.place in
    let progress = numbers_in c.args.here.now.progress.now in
    let enough = size nodes (value_at place) progress (rank_at nodes c.args.here.now.node) in
    let ns = c.args.branches.now in
    let n = get_or ns l.branch-index 0 in
    let verdict = λ (rest : Answers). subst (λ (m : Matches). Tells place progress enough (λ x. asked_in (reading_of g.K.Validate.shape (completed m rest) nodes) x (branch_call n)) c.in_ok-accepts_branch.field-0)
    l.invariant.matches (c.in_ok-accepts_branch.ensures.verdict rest) in
    let matches = c.in_ok-accepts_branch.ensures.matches ∙ l.invariant.matches in
    let questions = c.in_ok-accepts_branch.ensures.questions ∙ l.invariant.questions in
    elim c.if-branch.branch [
      | accepts_counted_branches-then-branch w ↦ record {
        matches = matches;
        questions = questions;
        few = (let e = w.count-is in let low = l.invariant.few in omega arith);
        left = λ rest. subst (BranchesCounted (reading_of g.K.Validate.shape (completed (g.T.Matching.matches c.args.matching.now) rest) nodes) place progress enough ns (l.branch-index + 1)) (sym w.count-is)
            (counted_yes _ place progress enough ns l.branch-index c.loop-branch-test.true l.count (l.invariant.left rest) (subst (Tells place progress enough _) w.if-branch.true (verdict rest)));
      }
      | accepts_counted_branches-else-branch w ↦ record {
        matches = matches;
        questions = questions;
        few = (let e = w.count-is in let low = l.invariant.few in omega arith);
        left = λ rest. subst (BranchesCounted (reading_of g.K.Validate.shape (completed (g.T.Matching.matches c.args.matching.now) rest) nodes) place progress enough ns (l.branch-index + 1)) (sym w.count-is)
            (counted_no _ place progress enough ns l.branch-index c.loop-branch-test.true l.count (l.invariant.left rest) (subst (Tells place progress enough _) w.if-branch.false (verdict rest)));
      }
    ]

-- ---- a node

pub accepts_node-accept_itself-requires : goal.accepts_node-accept_itself-requires
accepts_node-accept_itself-requires g t c =
    let nodes = c.args.graph.now.nodes.items in
    let here = keywords_here nodes c.args.node c.index-compiled.result.now c.requires.there c.index-compiled.ensures ∙ sym c.as_slice-keywords.ensures.value in
    record {
      known = λ k i. c.requires.known.known.each c.args.node k (subst (In k) (sym here) i);
      asked = λ k i. may_ask_for g.K.Validate.knows g.K.Validate.shape nodes c.args.node k _ (value_at c.args.place) c.requires.known c.requires.led (subst (In k) (sym here) i);
    }

pub accepts_node-returns-in-Wrong-clause-verdict : goal.accepts_node-returns-in-Wrong-clause-verdict
accepts_node-returns-in-Wrong-clause-verdict g t c =
    let nodes = c.args.graph.now.nodes.items in
    let here = keywords_here nodes c.args.node c.index-compiled.result.now c.requires.there c.index-compiled.ensures ∙ sym c.as_slice-keywords.ensures.value in
    let said = c.in_ok-accept_itself.field-0 in
    λ rest. node_wrong g.K.Validate.shape _ nodes c.args.node c.args.place (numbers_in c.args.progress.now) (is_fine said)
    (subst (λ ks. is_fine said ≡ all_true (map (λ k. is_right (rule (completed (g.T.Matching.matches c.args.matching.now) rest) (value_at c.args.place) (g.K.Validate.shape k))) ks)) (sym here) (c.in_ok-accept_itself.ensures.right rest))
    (ap is_fine c.in-Wrong.is)

pub accepts_node-returns-in-Settled-clause-verdict : goal.accepts_node-returns-in-Settled-clause-verdict
accepts_node-returns-in-Settled-clause-verdict g t c =
    let nodes = c.args.graph.now.nodes.items in
    let here = keywords_here nodes c.args.node c.index-compiled.result.now c.requires.there c.index-compiled.ensures ∙ sym c.as_slice-keywords.ensures.value in
    let said = c.in_ok-accept_itself.field-0 in
    λ rest. node_settled g.K.Validate.shape _ nodes c.args.node c.args.place (numbers_in c.args.progress.now) c.as_slice-keywords.result.now (sym here)
    (sym (c.in_ok-accept_itself.ensures.right rest) ∙ ap is_fine c.in-Settled.is)
    (λ k i. subst (λ (s : Itself). SettlesSo s (rule (completed (g.T.Matching.matches c.args.matching.now) rest) (value_at c.args.place) (g.K.Validate.shape k))) c.in-Settled.is (c.in_ok-accept_itself.ensures.settled rest k i))

pub accepts_node-accepts_paired-requires : goal.accepts_node-accepts_paired-requires
accepts_node-accepts_paired-requires g t c κs within =
    let nodes = c.args.graph.now.nodes.items in
    let here = keywords_here nodes c.args.node c.index-compiled.result.now c.requires.there c.index-compiled.ensures ∙ sym c.as_slice-keywords.ensures.value in
    let same = c.in_ok-accept_itself.ensures.matches in
    let accepted : is_fine c.in_ok-accept_itself.field-0 ≡ true = ap is_fine c.in-Asks.is in
    let right = λ (rest : Answers). sym (c.in_ok-accept_itself.ensures.right rest) ∙ accepted in (
      omega arith,
      (
        within.0,
        (
          within.1,
          (
            subst (λ m. AreReady g.K.Validate.knows g.K.Validate.shape m nodes) (sym same) c.requires.known,
            (
              sym here,
              (
                subst (λ m. LedTo m c.args.node (value_at c.args.place)) (sym same) c.requires.led,
                (λ rest. subst (λ (m : Matches). all_true (map (λ k. is_right (rule (completed m rest) (value_at c.args.place) (g.K.Validate.shape k))) c.as_slice-keywords.result.now) ≡ true) (sym same) (right rest), subst (λ o. IfSome o (ArePaired g.K.Validate.pairs c.as_slice-keywords.result.now)) c.in-Some-paired.is c.paired.ensures),
              ),
            ),
          ),
        ),
      ),
    )

pub accepts_node-returns-in-Some-paired-clause-verdict : goal.accepts_node-returns-in-Some-paired-clause-verdict
accepts_node-returns-in-Some-paired-clause-verdict g t c =
    let nodes = c.args.graph.now.nodes.items in
    let here = keywords_here nodes c.args.node c.index-compiled.result.now c.requires.there c.index-compiled.ensures ∙ sym c.as_slice-keywords.ensures.value in
    let place = c.args.place in
    let progress = numbers_in c.args.progress.now in
    IfOk-weaker c.accepts_paired.result _ _
    (λ b told rest. node_by_keywords g.K.Validate.shape _ nodes c.args.node place progress b
    (subst (λ ks. Tells place progress (size nodes (value_at place) progress (rank_at nodes c.args.node))
    (λ x. all_true (map (λ k. rule_in (reading_of g.K.Validate.shape (completed (g.T.Matching.matches c.args.matching.now) rest) nodes) (rule (completed (g.T.Matching.matches c.args.matching.now) rest) (value_at place) (g.K.Validate.shape k)) x) ks)) b) (sym here)
    (subst (λ m. Tells place progress (size nodes (value_at place) progress (rank_at nodes c.args.node))
    (λ x. all_true (map (λ k. rule_in (reading_of g.K.Validate.shape (completed m rest) nodes) (rule (completed m rest) (value_at place) (g.K.Validate.shape k)) x) c.as_slice-keywords.result.now)) b) c.in_ok-accept_itself.ensures.matches (told rest))))
    c.accepts_paired.ensures.verdict

-- ---- the keywords of a node

pub accepts_node-loop-keyword-init : goal.accepts_node-loop-keyword-init
accepts_node-loop-keyword-init g t c = record {
  matches = c.in_ok-accept_itself.ensures.matches;
  questions = refl;
  left = λ rest. record { left = λ x fits deep. refl };
}

pub accepts_node-accepts_keyword-requires : goal.accepts_node-accepts_keyword-requires
accepts_node-accepts_keyword-requires g t c κs within =
    let nodes = c.args.graph.now.nodes.items in
    let here = keywords_here nodes c.args.node c.index-compiled.result.now c.requires.there c.index-compiled.ensures ∙ sym c.as_slice-keywords.ensures.value in
    let l = c.loop-keyword in
    let k = c.keyword-item.result in
    let accepted : is_fine c.in_ok-accept_itself.field-0 ≡ true = ap is_fine c.in-Asks.is in
    let right = λ (rest : Answers). sym (c.in_ok-accept_itself.ensures.right rest) ∙ accepted in
    let stands = keyword_stands l.keyword-index c.as_slice-keywords.result.now k c.loop-keyword-test.true c.keyword-item.is in (
      omega arith,
      (
        within.0,
        (
          within.1,
          (
            subst (λ m. AreReady g.K.Validate.knows g.K.Validate.shape m nodes) (sym l.invariant.matches) c.requires.known,
            (
              subst (In k) (sym here) stands,
              (
                subst (λ m. LedTo m c.args.node (value_at c.args.place)) (sym l.invariant.matches) c.requires.led,
                λ rest. subst (λ (m : Matches). is_right (rule (completed m rest) (value_at c.args.place) (g.K.Validate.shape k)) ≡ true) (sym l.invariant.matches)
                    (each_right g.K.Validate.shape _ nodes c.args.node c.args.place (numbers_in c.args.progress.now) c.as_slice-keywords.result.now k stands (right rest)),
              ),
            ),
          ),
        ),
      ),
    )

pub accepts_node-returns-then-not-branch-clause-verdict : goal.accepts_node-returns-then-not-branch-clause-verdict
accepts_node-returns-then-not-branch-clause-verdict g t c =
    let nodes = c.args.graph.now.nodes.items in
    let here = keywords_here nodes c.args.node c.index-compiled.result.now c.requires.there c.index-compiled.ensures ∙ sym c.as_slice-keywords.ensures.value in
    let place = c.args.place in
    let progress = numbers_in c.args.progress.now in
    let l = c.loop-keyword in
    let k = c.keyword-item.result in
    let refused : c.in_ok-accepts_keyword.field-0 ≡ false = search rules in
    let verdict = λ (rest : Answers). subst (λ m. Tells place progress (size nodes (value_at place) progress (rank_at nodes c.args.node))
    (rule_in (reading_of g.K.Validate.shape (completed m rest) nodes) (rule (completed m rest) (value_at place) (g.K.Validate.shape k))) c.in_ok-accepts_keyword.field-0) l.invariant.matches (c.in_ok-accepts_keyword.ensures.verdict rest) in
    λ rest. node_by_keywords g.K.Validate.shape _ nodes c.args.node place progress false
    (subst (λ ks. Tells place progress (size nodes (value_at place) progress (rank_at nodes c.args.node))
    (λ x. all_true (map (λ k. rule_in (reading_of g.K.Validate.shape (completed (g.T.Matching.matches c.args.matching.now) rest) nodes) (rule (completed (g.T.Matching.matches c.args.matching.now) rest) (value_at place) (g.K.Validate.shape k)) x) ks)) false) (sym here)
    (keywords_no g.K.Validate.shape _ nodes c.args.node place progress l.keyword-index _ c.as_slice-keywords.result.now k c.loop-keyword-test.true c.keyword-item.is (l.invariant.left rest)
    (subst (Tells place progress _ _) refused (verdict rest))))

pub accepts_node-loop-keyword-preserved : goal.accepts_node-loop-keyword-preserved
accepts_node-loop-keyword-preserved g t c =
    let nodes = c.args.graph.now.nodes.items in
    let place = c.args.place in
    let progress = numbers_in c.args.progress.now in
    let l = c.loop-keyword in
    let k = c.keyword-item.result in
    let taken : c.in_ok-accepts_keyword.field-0 ≡ true = search rules in
    let verdict = λ (rest : Answers). subst (λ m. Tells place progress (size nodes (value_at place) progress (rank_at nodes c.args.node))
    (rule_in (reading_of g.K.Validate.shape (completed m rest) nodes) (rule (completed m rest) (value_at place) (g.K.Validate.shape k))) c.in_ok-accepts_keyword.field-0) l.invariant.matches (c.in_ok-accepts_keyword.ensures.verdict rest) in
    record {
      matches = c.in_ok-accepts_keyword.ensures.matches ∙ l.invariant.matches;
      questions = c.in_ok-accepts_keyword.ensures.questions ∙ l.invariant.questions;
      left = λ rest. keywords_yes g.K.Validate.shape _ nodes c.args.node place progress l.keyword-index _ c.as_slice-keywords.result.now k c.loop-keyword-test.true c.keyword-item.is (l.invariant.left rest) (subst (Tells place progress _ _) taken (verdict rest));
    }

pub accepts_node-returns-clause-verdict : goal.accepts_node-returns-clause-verdict
accepts_node-returns-clause-verdict g t c =
    let nodes = c.args.graph.now.nodes.items in
    let here = keywords_here nodes c.args.node c.index-compiled.result.now c.requires.there c.index-compiled.ensures ∙ sym c.as_slice-keywords.ensures.value in
    let place = c.args.place in
    let progress = numbers_in c.args.progress.now in
    let l = c.loop-keyword in
    let past : length c.as_slice-keywords.result.now ≤ l.keyword-index = omega arith in
    λ rest. node_by_keywords g.K.Validate.shape _ nodes c.args.node place progress true
    (subst (λ ks. Tells place progress (size nodes (value_at place) progress (rank_at nodes c.args.node))
    (λ x. all_true (map (λ k. rule_in (reading_of g.K.Validate.shape (completed (g.T.Matching.matches c.args.matching.now) rest) nodes) (rule (completed (g.T.Matching.matches c.args.matching.now) rest) (value_at place) (g.K.Validate.shape k)) x) ks)) true) (sym here)
    (keywords_end g.K.Validate.shape _ nodes c.args.node place _ l.keyword-index _ c.as_slice-keywords.result.now past (l.invariant.left rest)))

-- ---- two of them together

pub accepts_both-questions_with-requires : goal.accepts_both-questions_with-requires
accepts_both-questions_with-requires g t c =
    let h = c.args.here.now in
    let nodes = h.graph.now.nodes.items in
    let one = c.args.first.now in
    let other = c.args.second.now in
    record {
      pairs = c.requires.pairs;
      known = c.requires.known.known.each h.node one c.requires.stands;
      known_beside = c.requires.known.known.each h.node other c.requires.stands_beside;
      asked = may_ask_for g.K.Validate.knows g.K.Validate.shape nodes h.node one _ (value_at h.place) c.requires.known c.requires.led c.requires.stands;
      asked_beside = may_ask_for g.K.Validate.knows g.K.Validate.shape nodes h.node other _ (value_at h.place) c.requires.known c.requires.led c.requires.stands_beside;
    }

pub accepts_both-accepts_each-requires : goal.accepts_both-accepts_each-requires
accepts_both-accepts_each-requires g t c κs within =
    let h = c.args.here.now in
    let nodes = h.graph.now.nodes.items in
    let d = value_at h.place in
    let same = c.in_ok-questions_with.ensures.same in
    let start : c.len-start.result ≡ length c.args.questions.now.items = omega arith in
    let now = c.questions_with.new.into.items in
    let calls = map call_of (drop c.len-start.result now) in
    let of_either = λ (rest : Answers) (call : Call) (i : In call calls). (c.in_ok-questions_with.ensures.pushed rest).each call (subst (λ n. In call (map call_of (drop n now))) start i) in
    let may = both_may_ask g.K.Validate.knows g.K.Validate.shape nodes h.node c.args.first.now c.args.second.now (g.T.Matching.matches c.args.matching.now) d c.requires.known c.requires.led c.requires.stands c.requires.stands_beside h.graph.now.sound
    calls of_either in (
      omega arith,
      (
        within.0,
        (
          within.1,
          (
            subst (λ m. AreReady g.K.Validate.knows g.K.Validate.shape m nodes) (sym same) c.requires.known,
            subst (λ m. EachMayAsk m nodes (rank_at nodes h.node) d calls) (sym same) may,
          ),
        ),
      ),
    )

pub accepts_both-returns-clause-questions : goal.accepts_both-returns-clause-questions
accepts_both-returns-clause-questions g t c =
    let kept = (c.in_ok-questions_with.ensures.pushed none_matched).kept in
    let same = c.in_ok-accepts.ensures.questions in
    search rules

pub accepts_both-returns-clause-verdict : goal.accepts_both-returns-clause-verdict
accepts_both-returns-clause-verdict g t c rest =
    let h = c.args.here.now in
    let nodes = h.graph.now.nodes.items in
    let progress = numbers_in h.progress.now in
    let same = c.in_ok-questions_with.ensures.same in
    let start : c.len-start.result ≡ length c.args.questions.now.items = omega arith in
    let told = subst (λ m. Tells h.place progress (size nodes (value_at h.place) progress (rank_at nodes h.node))
    (λ x. all_beside (asked_in (reading_of g.K.Validate.shape (completed m rest) nodes) x) true (map call_of (drop c.len-start.result c.questions_with.new.into.items)))
    c.in_ok-accepts.accepts) same (c.in_ok-accepts.ensures.verdict rest) in
    both_told _ h.place progress _ _ _ _ _ c.len-start.result c.in_ok-accepts.accepts start (c.requires.right rest) (c.requires.right_beside rest) (c.in_ok-questions_with.ensures.pushed rest) told

-- ---- the keywords of a node, two of them together

pub accepts_paired-accepts_both-requires : goal.accepts_paired-accepts_both-requires
accepts_paired-accepts_both-requires g t c κs within =
    let h = c.args.here.now in
    let nodes = h.graph.now.nodes.items in
    let ks = c.args.keywords.now in
    let one = c.index-keywords-pair.result in
    let other = c.index-keywords-pair-2.result in
    let stands = keyword_stands c.args.pair.first ks one c.requires.pair.first c.index-keywords-pair.is in
    let beside = keyword_stands c.args.pair.second ks other c.requires.pair.second c.index-keywords-pair-2.is in
    let right = λ (k : _) (i : In k ks) (rest : Answers). each_right g.K.Validate.shape _ nodes h.node h.place (numbers_in h.progress.now) ks k i (c.requires.right rest) in (
      omega arith,
      (
        within.0,
        (
          within.1,
          (
            c.requires.known,
            (
              c.requires.pair.pairs one other c.index-keywords-pair.is c.index-keywords-pair-2.is,
              (
                subst (In one) c.requires.keywords stands,
                (subst (In other) c.requires.keywords beside, (c.requires.led, (right one stands, right other beside))),
              ),
            ),
          ),
        ),
      ),
    )

pub accepts_paired-returns-then-not-branch-clause-verdict :
    goal.accepts_paired-returns-then-not-branch-clause-verdict
accepts_paired-returns-then-not-branch-clause-verdict g t c =
    let h = c.args.here.now in
    let ks = c.args.keywords.now in
    let one = c.index-keywords-pair.result in
    let other = c.index-keywords-pair-2.result in
    let stands = keyword_stands c.args.pair.first ks one c.requires.pair.first c.index-keywords-pair.is in
    let beside = keyword_stands c.args.pair.second ks other c.requires.pair.second c.index-keywords-pair-2.is in
    let refused : c.in_ok-accepts_both.field-0 ≡ false = search rules in
    λ rest. both_no g.K.Validate.shape _ h.graph.now.nodes.items h.node h.place (numbers_in h.progress.now) one other ks stands beside
    (subst (Tells h.place (numbers_in h.progress.now) _ _) refused (c.in_ok-accepts_both.ensures.verdict rest))

pub accepts_paired-accepts_keyword-requires : goal.accepts_paired-accepts_keyword-requires
accepts_paired-accepts_keyword-requires g t c κs within =
    let h = c.args.here.now in
    let nodes = h.graph.now.nodes.items in
    let l = c.loop-position in
    let k = c.index-keywords-position.result in
    let stands = keyword_stands l.position c.args.keywords.now k c.loop-position-test.true c.index-keywords-position.is in (
      omega arith,
      (
        within.0,
        (
          within.1,
          (
            subst (λ m. AreReady g.K.Validate.knows g.K.Validate.shape m nodes) (sym l.invariant.matches) c.requires.known,
            (
              subst (In k) c.requires.keywords stands,
              (
                subst (λ m. LedTo m h.node (value_at h.place)) (sym l.invariant.matches) c.requires.led,
                λ rest. subst (λ (m : Matches). is_right (rule (completed m rest) (value_at h.place) (g.K.Validate.shape k)) ≡ true) (sym l.invariant.matches)
                    (each_right g.K.Validate.shape _ nodes h.node h.place (numbers_in h.progress.now) c.args.keywords.now k stands (c.requires.right rest)),
              ),
            ),
          ),
        ),
      ),
    )

pub accepts_paired-returns-then-not-branch-2-clause-verdict : goal.accepts_paired-returns-then-not-branch-2-clause-verdict
accepts_paired-returns-then-not-branch-2-clause-verdict g t c =
    let h = c.args.here.now in
    let nodes = h.graph.now.nodes.items in
    let progress = numbers_in h.progress.now in
    let l = c.loop-position in
    let k = c.index-keywords-position.result in
    let refused : c.in_ok-accepts_keyword.field-0 ≡ false = search rules in
    let verdict = λ (rest : Answers). subst (λ m. Tells h.place progress (size nodes (value_at h.place) progress (rank_at nodes h.node))
    (rule_in (reading_of g.K.Validate.shape (completed m rest) nodes) (rule (completed m rest) (value_at h.place) (g.K.Validate.shape k))) c.in_ok-accepts_keyword.field-0) l.invariant.matches (c.in_ok-accepts_keyword.ensures.verdict rest) in
    λ rest. keywords_no g.K.Validate.shape _ nodes h.node h.place progress l.position _ c.args.keywords.now k c.loop-position-test.true c.index-keywords-position.is (l.invariant.left rest)
    (subst (Tells h.place progress _ _) refused (verdict rest))

pub accepts_paired-loop-position-preserved : goal.accepts_paired-loop-position-preserved
accepts_paired-loop-position-preserved g t c =
    let h = c.args.here.now in
    let nodes = h.graph.now.nodes.items in
    let progress = numbers_in h.progress.now in
    let l = c.loop-position in
    let k = c.index-keywords-position.result in
    let one = c.index-keywords-pair.result in
    let other = c.index-keywords-pair-2.result in
    let accepted : c.in_ok-accepts_both.field-0 ≡ true = search rules in
    let both = λ (rest : Answers). subst (Tells h.place progress (size nodes (value_at h.place) progress (rank_at nodes h.node)) _) accepted (c.in_ok-accepts_both.ensures.verdict rest) in
    let taken = λ (rest : Answers) (i : _) (same : i ≡ k). subst (λ i. Tells h.place progress (size nodes (value_at h.place) progress (rank_at nodes h.node))
    (rule_in (reading_of g.K.Validate.shape (completed (g.T.Matching.matches c.args.matching.now) rest) nodes) (rule (completed (g.T.Matching.matches c.args.matching.now) rest) (value_at h.place) (g.K.Validate.shape i))) true) same in
    elim c.if-position-pair.branch [
      | accepts_paired-then-position-pair+then-position-pair-2+in_ok-accepts_keyword+else-not-branch-2 w ↦
          (let verdict = λ (rest : Answers). subst (λ m. Tells h.place progress (size nodes (value_at h.place) progress (rank_at nodes h.node))
          (rule_in (reading_of g.K.Validate.shape (completed m rest) nodes) (rule (completed m rest) (value_at h.place) (g.K.Validate.shape k))) w.in_ok-accepts_keyword.field-0) l.invariant.matches (w.in_ok-accepts_keyword.ensures.verdict rest) in
          record {
            matches = ap g.T.Matching.matches w.matching-is ∙ w.in_ok-accepts_keyword.ensures.matches ∙ l.invariant.matches;
            questions = ap (λ v. v.items) w.questions-is ∙ w.in_ok-accepts_keyword.ensures.questions ∙ l.invariant.questions;
            left = λ rest. keywords_yes g.K.Validate.shape _ nodes h.node h.place progress l.position _ c.args.keywords.now k c.loop-position-test.true c.index-keywords-position.is (l.invariant.left rest) (subst (Tells h.place progress _ _) w.if-not-branch-2.false (verdict rest));
          })
      | accepts_paired-else-position-pair w ↦ record {
        matches = ap g.T.Matching.matches w.matching-is ∙ l.invariant.matches;
        questions = ap (λ v. v.items) w.questions-is ∙ l.invariant.questions;
        left = λ rest.
            keywords_yes g.K.Validate.shape _ nodes h.node h.place progress l.position _ c.args.keywords.now k c.loop-position-test.true c.index-keywords-position.is (l.invariant.left rest)
            (elim w.else-position-pair.branch [
              | accepts_paired-else-position-pair-via-then-position-pair+else-position-pair-2 v ↦
                  (let at : l.position ≡ c.args.pair.second = (let e = v.if-position-pair-2.false in omega arith) in
                  let same = same_at l.position c.args.pair.second c.args.keywords.now k other at c.loop-position-test.true c.index-keywords-position.is c.index-keywords-pair-2.is in
                  taken rest other (sym same) (other_yes g.K.Validate.shape _ nodes h.node h.place progress one other (both rest)))
              | accepts_paired-else-position-pair-via-else-position-pair v ↦
                  (let at : l.position ≡ c.args.pair.first = (let e = v.if-position-pair.false in omega arith) in
                  let same = same_at l.position c.args.pair.first c.args.keywords.now k one at c.loop-position-test.true c.index-keywords-position.is c.index-keywords-pair.is in
                  taken rest one (sym same) (one_yes g.K.Validate.shape _ nodes h.node h.place progress one other (both rest)))
            ]);
      }
    ]

pub accepts_paired-returns-clause-verdict : goal.accepts_paired-returns-clause-verdict
accepts_paired-returns-clause-verdict g t c =
    let h = c.args.here.now in
    let l = c.loop-position in
    let past : length c.args.keywords.now ≤ l.position = omega arith in
    λ rest. keywords_end g.K.Validate.shape _ h.graph.now.nodes.items h.node h.place _ l.position _ c.args.keywords.now past (l.invariant.left rest)

-- ---- what is left of the questions

pub accepts_each-loop-index-preserved : goal.accepts_each-loop-index-preserved
accepts_each-loop-index-preserved g t c =
    let h = c.args.here.now in
    let nodes = h.graph.now.nodes.items in
    let l = c.loop-index in
    let q = c.index-question.result.now in
    let qs = c.args.questions.now.items in
    let progress = numbers_in h.progress.now in
    let enough = size nodes (value_at h.place) progress (rank_at nodes h.node) in
    let short : l.index < length qs = (let e = ap length l.invariant.questions in omega arith) in
    let is : q ≡ get_or qs l.index q = subst (λ (xs : List Question). q ≡ get_or xs l.index q) l.invariant.questions c.index-question.ensures in
    elim c.if-question-beside.branch [
      | accepts_each-then-question-beside+in_ok-accepts_question+else-not-branch w ↦
          (let told = λ (rest : Answers). subst (λ (m : Matches). Tells h.place progress enough (λ x. asked_in (reading_of g.K.Validate.shape (completed m rest) nodes) x (call_of q)) w.in_ok-accepts_question.field-0)
          l.invariant.matches (w.in_ok-accepts_question.ensures.verdict rest) in
          let same : q.beside ≡ c.args.beside = (let e = w.if-question-beside.true in search rules) in
          record {
            matches = ap g.T.Matching.matches w.matching-is ∙ w.in_ok-accepts_question.ensures.matches ∙ l.invariant.matches;
            questions = ap (λ v. v.items) w.questions-is ∙ w.in_ok-accepts_question.ensures.questions ∙ l.invariant.questions;
            left = λ rest. each_yes g.K.Validate.shape _ nodes h.node h.place progress (drop c.args.start qs) qs l.index q short is c.args.beside (l.invariant.left rest) same (subst (Tells h.place progress enough _) w.if-not-branch.false (told rest));
          })
      | accepts_each-else-question-beside w ↦ record {
        matches = ap g.T.Matching.matches w.matching-is ∙ l.invariant.matches;
        questions = ap (λ v. v.items) w.questions-is ∙ l.invariant.questions;
        left = λ rest. each_skipped g.K.Validate.shape _ nodes h.node h.place progress (drop c.args.start qs) qs l.index q short is c.args.beside (l.invariant.left rest) (let e = w.if-question-beside.false in search rules);
      }
    ]

pub accepts_each-returns-then-not-branch-clause-verdict :
    goal.accepts_each-returns-then-not-branch-clause-verdict
accepts_each-returns-then-not-branch-clause-verdict g t c =
    let h = c.args.here.now in
    let nodes = h.graph.now.nodes.items in
    let l = c.loop-index in
    let q = c.index-question.result.now in
    let qs = c.args.questions.now.items in
    let progress = numbers_in h.progress.now in
    let enough = size nodes (value_at h.place) progress (rank_at nodes h.node) in
    let short : l.index < length qs = (let e = ap length l.invariant.questions in omega arith) in
    let is : q ≡ get_or qs l.index q = subst (λ (xs : List Question). q ≡ get_or xs l.index q) l.invariant.questions c.index-question.ensures in
    let told = λ (rest : Answers). subst (λ (m : Matches). Tells h.place progress enough (λ x. asked_in (reading_of g.K.Validate.shape (completed m rest) nodes) x (call_of q)) c.in_ok-accepts_question.field-0)
    l.invariant.matches (c.in_ok-accepts_question.ensures.verdict rest) in
    let same : q.beside ≡ c.args.beside = search rules in
    λ rest. each_no g.K.Validate.shape _ nodes h.node h.place progress (drop c.args.start qs) qs l.index q short is c.args.beside (l.invariant.left rest) same (subst (Tells h.place progress enough _) c.if-not-branch.true (told rest))

pub accepts_counted-loop-index-preserved : goal.accepts_counted-loop-index-preserved
accepts_counted-loop-index-preserved g t c =
    let h = c.args.here.now in
    let nodes = h.graph.now.nodes.items in
    let l = c.loop-index in
    let q = c.index-question.result.now in
    let qs = c.args.questions.now.items in
    let progress = numbers_in h.progress.now in
    let enough = size nodes (value_at h.place) progress (rank_at nodes h.node) in
    let short : l.index < length qs = (let e = ap length l.invariant.questions in omega arith) in
    let is : q ≡ get_or qs l.index q = subst (λ (xs : List Question). q ≡ get_or xs l.index q) l.invariant.questions c.index-question.ensures in
    let told = λ (rest : Answers). subst (λ (m : Matches). Tells h.place progress enough (λ x. asked_in (reading_of g.K.Validate.shape (completed m rest) nodes) x (call_of q)) c.in_ok-accepts_question.field-0)
    l.invariant.matches (c.in_ok-accepts_question.ensures.verdict rest) in
    let matches = c.in_ok-accepts_question.ensures.matches ∙ l.invariant.matches in
    let questions = c.in_ok-accepts_question.ensures.questions ∙ l.invariant.questions in
    elim c.if-branch.branch [
      | accepts_counted-then-branch w ↦ record {
        matches = matches;
        questions = questions;
        few = (let e = w.count-is in let low = l.invariant.few in omega arith);
        left = λ rest. subst (CountLeft g.K.Validate.shape (completed (g.T.Matching.matches c.args.matching.now) rest) nodes h.node h.place progress (drop c.args.start qs) (drop (l.index + 1) qs)) (sym w.count-is)
            (count_yes g.K.Validate.shape _ nodes h.node h.place progress (drop c.args.start qs) qs l.index q short is l.count (l.invariant.left rest) (subst (Tells h.place progress enough _) w.if-branch.true (told rest)));
      }
      | accepts_counted-else-branch w ↦ record {
        matches = matches;
        questions = questions;
        few = (let e = w.count-is in let low = l.invariant.few in omega arith);
        left = λ rest. subst (CountLeft g.K.Validate.shape (completed (g.T.Matching.matches c.args.matching.now) rest) nodes h.node h.place progress (drop c.args.start qs) (drop (l.index + 1) qs)) (sym w.count-is)
            (count_no g.K.Validate.shape _ nodes h.node h.place progress (drop c.args.start qs) qs l.index q short is l.count (l.invariant.left rest) (subst (Tells h.place progress enough _) w.if-branch.false (told rest)));
      }
    ]

pub accepts_conditional-returns-clause-verdict : goal.accepts_conditional-returns-clause-verdict
accepts_conditional-returns-clause-verdict g t c =
    let h = c.args.here.now in
    let nodes = h.graph.now.nodes.items in
    let qs = c.args.questions.now.items in
    let progress = numbers_in h.progress.now in
    let enough = size nodes (value_at h.place) progress (rank_at nodes h.node) in
    let a = c.in_ok-answer.answer in
    let short : c.args.start < length qs = omega arith in
    IfOk-weaker c.accepts_each.result _ _
    (λ b told rest. chosen_by g.K.Validate.shape _ nodes h.node h.place progress qs qs c.args.start c.index-condition.result.now short c.index-condition.ensures b a (c.in_ok-answer.ensures.verdict rest)
    (subst (λ (m : Matches). Tells h.place progress enough (λ x. all_beside (asked_in (reading_of g.K.Validate.shape (completed m rest) nodes) x) a (map call_of (drop (c.args.start + 1) qs))) b) c.in_ok-answer.ensures.matches
    (subst (λ (xs : List Question). Tells h.place progress enough (λ x. all_beside (asked_in (reading_of g.K.Validate.shape (completed (g.T.Matching.matches c.accepts_question.new.matching) rest) nodes) x) a (map call_of (drop (c.args.start + 1) xs))) b)
    c.in_ok-answer.ensures.questions (told rest))))
    c.accepts_each.ensures.verdict

pub accepts_listed-returns-clause-questions : goal.accepts_listed-returns-clause-questions
accepts_listed-returns-clause-questions g t c =
    let kept = (c.in_ok-questions.ensures.pushed none_matched).kept in
    let same = c.in_ok-accepts.ensures.questions in
    search rules

-- ---- by the combination

pub accepts_combined-returns-in-Every-clause-verdict :
    goal.accepts_combined-returns-in-Every-clause-verdict
accepts_combined-returns-in-Every-clause-verdict g t c =
    let h = c.args.here.now in
    IfOk-weaker c.accepts_each.result _ _
    (λ b told rest. combined_by g.K.Validate.shape _ h.graph.now.nodes.items h.node h.place _ (map call_of (drop c.args.start c.args.questions.now.items)) c.args.combination combination.Every b c.in-Every.is (told rest))
    c.accepts_each.ensures.verdict

pub accepts_combined-returns-in-Together-clause-verdict :
    goal.accepts_combined-returns-in-Together-clause-verdict
accepts_combined-returns-in-Together-clause-verdict g t c =
    let h = c.args.here.now in
    IfOk-weaker c.accepts_each-in-Together.result _ _
    (λ b told rest. combined_by g.K.Validate.shape _ h.graph.now.nodes.items h.node h.place _ (map call_of (drop c.args.start c.args.questions.now.items)) c.args.combination combination.Together b c.in-Together.is (told rest))
    c.accepts_each-in-Together.ensures.verdict

pub accepts_combined-returns-in-EachNamed-clause-verdict :
    goal.accepts_combined-returns-in-EachNamed-clause-verdict
accepts_combined-returns-in-EachNamed-clause-verdict g t c =
    let h = c.args.here.now in
    IfOk-weaker c.accepts_each-in-EachNamed.result _ _
    (λ b told rest. combined_by g.K.Validate.shape _ h.graph.now.nodes.items h.node h.place _ (map call_of (drop c.args.start c.args.questions.now.items)) c.args.combination combination.EachNamed b c.in-EachNamed.is (told rest))
    c.accepts_each-in-EachNamed.ensures.verdict

pub accepts_combined-returns-in-SomeBranch-clause-verdict :
    goal.accepts_combined-returns-in-SomeBranch-clause-verdict
accepts_combined-returns-in-SomeBranch-clause-verdict g t c =
    let h = c.args.here.now in
    IfOk-weaker c.accepts_counted.result _ _
    (λ b told rest. combined_by g.K.Validate.shape _ h.graph.now.nodes.items h.node h.place _ (map call_of (drop c.args.start c.args.questions.now.items)) c.args.combination combination.SomeBranch b c.in-SomeBranch.is (told rest))
    c.accepts_counted.ensures.verdict

pub accepts_combined-returns-in-OneBranch-clause-verdict :
    goal.accepts_combined-returns-in-OneBranch-clause-verdict
accepts_combined-returns-in-OneBranch-clause-verdict g t c =
    let h = c.args.here.now in
    IfOk-weaker c.accepts_counted-in-OneBranch.result _ _
    (λ b told rest. combined_by g.K.Validate.shape _ h.graph.now.nodes.items h.node h.place _ (map call_of (drop c.args.start c.args.questions.now.items)) c.args.combination combination.OneBranch b c.in-OneBranch.is (told rest))
    c.accepts_counted-in-OneBranch.ensures.verdict

pub accepts_combined-returns-in-Refusal-clause-verdict :
    goal.accepts_combined-returns-in-Refusal-clause-verdict
accepts_combined-returns-in-Refusal-clause-verdict g t c =
    let h = c.args.here.now in
    IfOk-weaker c.accepts_counted-in-Refusal.result _ _
    (λ b told rest. combined_by g.K.Validate.shape _ h.graph.now.nodes.items h.node h.place _ (map call_of (drop c.args.start c.args.questions.now.items)) c.args.combination combination.Refusal b c.in-Refusal.is (told rest))
    c.accepts_counted-in-Refusal.ensures.verdict

pub accepts_combined-returns-in-Counted-clause-verdict :
    goal.accepts_combined-returns-in-Counted-clause-verdict
accepts_combined-returns-in-Counted-clause-verdict g t c =
    let h = c.args.here.now in
    IfOk-weaker c.accepts_counted-in-Counted.result _ _
    (λ b told rest. combined_by g.K.Validate.shape _ h.graph.now.nodes.items h.node h.place _ (map call_of (drop c.args.start c.args.questions.now.items)) c.args.combination (combination.Counted c.in-Counted.least c.in-Counted.most) b c.in-Counted.is (told rest))
    c.accepts_counted-in-Counted.ensures.verdict

pub accepts_combined-returns-in-Conditional-clause-verdict :
    goal.accepts_combined-returns-in-Conditional-clause-verdict
accepts_combined-returns-in-Conditional-clause-verdict g t c =
    let h = c.args.here.now in
    IfOk-weaker c.accepts_conditional.result _ _
    (λ b told rest. combined_by g.K.Validate.shape _ h.graph.now.nodes.items h.node h.place _ (map call_of (drop c.args.start c.args.questions.now.items)) c.args.combination combination.Conditional b c.in-Conditional.is (told rest))
    c.accepts_conditional.ensures.verdict
