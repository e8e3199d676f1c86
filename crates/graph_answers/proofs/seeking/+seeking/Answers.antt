use Rattle.std.proofs.Common.{rules, ◌≡◌, ◌<◌, ◌∙◌, false, map, drop, length, [], sym, ap, subst, arith}
use Rattle.serde_json.specs.View.{view}
use Rattle.schema_meaning.specs.Members.{In}
use Rattle.schema_meaning.specs.Places.{Step, value_after}
use Rattle.schema_meaning.specs.Keywords.{rule}
use Rattle.schema_engine.specs.declared.place.Asked.{Asked}
use Rattle.schema_engine.specs.declared.place.Place.TheVariants as place
use Rattle.schema_engine.specs.Graphs.{keywords_at, rank_at}
use Rattle.schema_engine.specs.Led.{LedTo, AreReady, MayAskFor}
use Rattle.schema_engine.specs.Matches.{Answers, Matches, completed, none_matched}
use Rattle.schema_engine.specs.Places.{value_at, step_of}
use Rattle.schema_engine.specs.Progress.{numbers_in, is_among}
use Rattle.schema_engine.specs.Questions.{call_of}
use Rattle.schema_engine.specs.Rules.{questions_of}
use Rattle.schema_engine.specs.Verdicts.{size, EachMayAsk, GoesDown}
use Rattle.schema_engine.proofs.Sizes.{size_inside, size_down, size_target}
use Rattle.schema_engine.proofs.Steps.{may_ask_one, may_ask_for, each_may_ask, keywords_here, keyword_stands}
use Rattle.graph_answers.specs.Seeking.{nodes_of}
use Rattle.graph_answers.proofs.seeking.+seeking.Goals as goal

-- ---- a value

pub seek_value-seek_node-requires : goal.seek_value-seek_node-requires
seek_value-seek_node-requires g t c κs within =
    (omega arith, (within.0, (within.1, (c.requires.known, (c.requires.there, c.requires.led)))))

-- ---- a node

pub seek_node-seek_keyword-requires : goal.seek_node-seek_keyword-requires
seek_node-seek_keyword-requires g t c κs within =
    let nodes = c.args.graph.now.nodes.items in
    let n = c.args.node in
    let l = c.loop-keyword in
    let items : c.deref-keyword-items.result.now ≡ c.index.result.now.keywords.items = c.deref-keyword-items.ensures.value in
    let here : keywords_at nodes n ≡ c.deref-keyword-items.result.now = keywords_here nodes n c.index.result.now c.requires.there c.index.ensures ∙ sym items in (
      omega arith,
      (
        within.0,
        (
          within.1,
          (
            subst (λ m. AreReady g.K.Validate.knows g.K.Validate.shape m nodes) (sym l.invariant.matches) c.requires.known,
            (
              subst (In c.keyword-item.result) (sym here) (keyword_stands l.keyword-index c.deref-keyword-items.result.now c.keyword-item.result c.loop-keyword-test.true c.keyword-item.is),
              subst (λ m. LedTo m n (value_at c.args.place)) (sym l.invariant.matches) c.requires.led,
            ),
          ),
        ),
      ),
    )

-- ---- a keyword

pub seek_keyword-accepts_itself-requires : goal.seek_keyword-accepts_itself-requires
seek_keyword-accepts_itself-requires g t c =
    let h = c.args.there.now in
    let k = c.args.keyword.now in
    record {
      known = c.requires.known.known.each h.node k c.requires.stands;
      asked = may_ask_for g.K.Validate.knows g.K.Validate.shape (nodes_of h) h.node k _ (value_at h.place) c.requires.known c.requires.led c.requires.stands;
    }

pub seek_keyword-questions-requires : goal.seek_keyword-questions-requires
seek_keyword-questions-requires g t c =
    let h = c.args.there.now in
    let k = c.args.keyword.now in
    let same = c.in-Ok.ensures.same in
    record {
      known = subst (λ (m : Matches). g.K.Validate.knows k m.pattern) (sym same) (c.requires.known.known.each h.node k c.requires.stands);
      asked = subst (λ (m : Matches). MayAskFor m (g.K.Validate.shape k) (value_at h.place)) (sym same)
          (may_ask_for g.K.Validate.knows g.K.Validate.shape (nodes_of h) h.node k _ (value_at h.place) c.requires.known c.requires.led c.requires.stands);
    }

pub seek_keyword-seek_each-requires : goal.seek_keyword-seek_each-requires
seek_keyword-seek_each-requires g t c κs within =
    let h = c.args.there.now in
    let nodes = nodes_of h in
    let k = c.args.keyword.now in
    let same = c.in-Ok-questions.ensures.same ∙ c.in-Ok.ensures.same in
    let start : c.len-start.result ≡ length c.args.questions.now.items = omega arith in
    let now = c.questions.new.into.items in
    let calls : (rest : Answers) → map call_of (drop c.len-start.result now) ≡ questions_of (rule (completed (g.T.Matching.matches c.args.matching.now) rest) (value_at h.place) (g.K.Validate.shape k)) =
    λ rest. ap (λ n. map call_of (drop n now)) start ∙ subst (λ (m : Matches). map call_of (drop (length c.args.questions.now.items) now) ≡ questions_of (rule (completed m rest) (value_at h.place) (g.K.Validate.shape k))) c.in-Ok.ensures.same (c.in-Ok-questions.ensures.pushed rest).pushed in (
      omega arith,
      (
        within.0,
        (
          within.1,
          (
            subst (λ m. AreReady g.K.Validate.knows g.K.Validate.shape m nodes) (sym same) c.requires.known,
            subst (λ m. EachMayAsk m nodes (rank_at nodes h.node) (value_at h.place) (map call_of (drop c.len-start.result now))) (sym same)
                (each_may_ask g.K.Validate.knows g.K.Validate.shape nodes h.node k (g.T.Matching.matches c.args.matching.now) (value_at h.place) c.requires.known c.requires.led c.requires.stands h.graph.now.sound
                (map call_of (drop c.len-start.result now)) calls),
          ),
        ),
      ),
    )

pub seek_keyword-returns-clause-questions : goal.seek_keyword-returns-clause-questions
seek_keyword-returns-clause-questions g t c =
    let kept = (c.in-Ok-questions.ensures.pushed none_matched).kept in
    let same : c.seek_each.new.questions.items ≡ c.questions.new.into.items = search rules in
    search rules

-- ---- questions

pub seek_each-seek_question-requires : goal.seek_each-seek_question-requires
seek_each-seek_question-requires g t c κs within =
    let h = c.args.there.now in
    let nodes = nodes_of h in
    let l = c.loop-index in
    let asked = subst (λ m. EachMayAsk m nodes (rank_at nodes h.node) (value_at h.place) (map call_of (drop c.args.start l.questions.items))) (sym l.invariant.matches)
    (subst (λ qs. EachMayAsk (g.T.Matching.matches c.args.matching.now) nodes (rank_at nodes h.node) (value_at h.place) (map call_of (drop c.args.start qs))) (sym l.invariant.questions) c.requires.asked) in
    let short : l.index < length l.questions.items = (let e = ap length l.invariant.questions in omega arith) in (
      omega arith,
      (
        within.0,
        (
          within.1,
          (
            subst (λ m. AreReady g.K.Validate.knows g.K.Validate.shape m nodes) (sym l.invariant.matches) c.requires.known,
            may_ask_one nodes _ _ c.args.start l.index l.questions.items c.index-question.result.now asked (omega arith) short c.index-question.ensures,
          ),
        ),
      ),
    )

-- ---- a step

pub seek_step-seek_here-requires : goal.seek_step-seek_here-requires
seek_step-seek_here-requires g t c κs within =
    (omega arith, (within.0, (within.1, (c.requires.known, (c.requires.asked, ap step_of c.in-Here.is)))))

pub seek_step-seek_value-requires : goal.seek_step-seek_value-requires
seek_step-seek_value-requires g t c κs within =
    let h = c.args.there.now in
    let nodes = nodes_of h in
    let P : Asked → Type 0 = λ a. GoesDown (value_at h.place) (step_of a) in
    let falls = size_down nodes (value_at h.place) (view c.in-Item.item.now) (numbers_in h.progress.now) [] (rank_at nodes h.node) c.args.question.node (subst P c.in-Item.is c.requires.asked.down) in
    let L : Asked → Type 0 = λ a. LedTo (g.T.Matching.matches c.args.matching.now) c.args.question.node (value_after (value_at h.place) (step_of a)) in
    (omega arith, (within.0, (within.1, (c.requires.known, (c.requires.asked.below, subst L c.in-Item.is c.requires.asked.led)))))

pub seek_step-seek_value-requires-in-Member : goal.seek_step-seek_value-requires-in-Member
seek_step-seek_value-requires-in-Member g t c κs within =
    let h = c.args.there.now in
    let nodes = nodes_of h in
    let P : Asked → Type 0 = λ a. GoesDown (value_at h.place) (step_of a) in
    let falls = size_down nodes (value_at h.place) (view c.in-Member.member.now) (numbers_in h.progress.now) [] (rank_at nodes h.node) c.args.question.node (subst P c.in-Member.is c.requires.asked.down) in
    let L : Asked → Type 0 = λ a. LedTo (g.T.Matching.matches c.args.matching.now) c.args.question.node (value_after (value_at h.place) (step_of a)) in
    (omega arith, (within.0, (within.1, (c.requires.known, (c.requires.asked.below, subst L c.in-Member.is c.requires.asked.led)))))

pub seek_step-seek_node-requires : goal.seek_step-seek_node-requires
seek_step-seek_node-requires g t c κs within =
    let h = c.args.there.now in
    let nodes = nodes_of h in
    let P : Asked → Type 0 = λ a. GoesDown (value_at h.place) (step_of a) in
    let falls = size_down nodes (value_at h.place) (value_at (place.Name c.in-Name.name)) (numbers_in h.progress.now) [] (rank_at nodes h.node) c.args.question.node (subst P c.in-Name.is c.requires.asked.down) in
    let L : Asked → Type 0 = λ a. LedTo (g.T.Matching.matches c.args.matching.now) c.args.question.node (value_after (value_at h.place) (step_of a)) in
    (omega arith, (within.0, (within.1, (c.requires.known, (c.requires.asked.below, subst L c.in-Name.is c.requires.asked.led)))))

-- ---- the place itself

pub seek_here-seek_node-requires : goal.seek_here-seek_node-requires
seek_here-seek_node-requires g t c κs within =
    let h = c.args.there.now in
    let nodes = nodes_of h in
    let d = value_at h.place in
    let falls = size_inside nodes d (numbers_in h.progress.now) (rank_at nodes h.node) (rank_at nodes c.args.question.node) (c.requires.asked.falls c.if-not-question.true) in
    let L : Step → Type 0 = λ s. LedTo (g.T.Matching.matches c.args.matching.now) c.args.question.node (value_after d s) in
    (omega arith, (within.0, (within.1, (c.requires.known, (c.requires.asked.below, subst L c.requires.here c.requires.asked.led)))))

pub seek_here-seek_node-requires-2 : goal.seek_here-seek_node-requires-2
seek_here-seek_node-requires-2 g t c κs within =
    let h = c.args.there.now in
    let nodes = nodes_of h in
    let d = value_at h.place in
    let target = c.args.question.node in
    let fresh : is_among target (numbers_in h.progress.now) ≡ false = sym c.is_in_progress.ensures ∙ c.if-is_in_progress.false in
    let enough = size nodes d (numbers_in h.progress.now) (rank_at nodes h.node) in
    let falls = subst (λ ms. size nodes d ms (rank_at nodes target) < enough) (sym c.enter-entered.ensures)
    (size_target nodes d (numbers_in h.progress.now) (rank_at nodes h.node) target c.requires.asked.below fresh) in
    let L : Step → Type 0 = λ s. LedTo (g.T.Matching.matches c.args.matching.now) target (value_after d s) in
    (omega arith, (within.0, (within.1, (c.requires.known, (c.requires.asked.below, subst L c.requires.here c.requires.asked.led)))))
