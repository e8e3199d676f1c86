use Rattle.std.proofs.Common.{rules, IfSome, ◌≡◌, ◌<◌, ◌≤◌, ◌+◌, ◌-◌, ◌∙◌, ◌++◌, ◌∷◌, List, true, false, map, take, drop, length, get_or, [], refl, sym, ap, subst, arith, string_bytes, suc}
use Rattle.std.proofs.lemmas.List.{take-append-drop}
use Rattle.std.proofs.lemmas.Result.{on_ok_weaker}
use Rattle.serde_json.specs.Data.{string}
use Rattle.serde_json.specs.View.{view}
use Rattle.serde_json.specs.declared.value.Value.{the_lemmas}
use Rattle.serde_json.specs.declared.value.Value.TheVariants as json
use Rattle.json_values.specs.Parts.{name, index}
use Rattle.schema_meaning.specs.Members.{In}
use Rattle.schema_meaning.specs.Places.{stay, value_after}
use Rattle.schema_meaning.specs.Keywords.{rule}
use Rattle.schema_meaning.specs.Questions.{at}
use Rattle.location_texts.specs.Locations.{location_of}
use Rattle.schema_reports.specs.declared.kind.ValidationErrorKind.TheVariants as kind
use Rattle.schema_reports.specs.declared.observer.Observer.TheVariants as observer
use Rattle.schema_engine.specs.declared.place.Asked.{Asked}
use Rattle.schema_engine.specs.declared.place.Asked.TheVariants as asked
use Rattle.schema_engine.specs.declared.place.Question.{Question}
use Rattle.schema_engine.specs.declared.place.Place.TheVariants as place
use Rattle.schema_engine.specs.Matches.{Answers, Matches, completed, none_matched}
use Rattle.schema_engine.specs.Pairs.{ArePaired}
use Rattle.schema_engine.specs.Places.{value_at, step_of}
use Rattle.schema_engine.specs.Progress.{numbers_in, is_among}
use Rattle.schema_engine.specs.Entries.{parts_of}
use Rattle.schema_engine.specs.Hearing.{HearsMore}
use Rattle.schema_engine.specs.Questions.{call_of, question_by}
use Rattle.schema_engine.specs.Refusals.{own_notes, has_one_fault, IsReason}
use Rattle.schema_engine.specs.Situations.{spot_in}
use Rattle.schema_engine.specs.Rules.{combination_of, AreOf}
use Rattle.schema_engine.specs.Graphs.{keywords_at, path_at, rank_at, reading_of}
use Rattle.schema_engine.specs.Led.{LedTo, AreReady}
use Rattle.schema_engine.specs.Verdicts.{EachMayAsk, GoesDown, size}
use Rattle.engine_faults.specs.Faults.{AreAsked, AreErrorsOf, Hearing, node_faults, keywords_faults, rule_faults, one_told, question_faults, faults_beside}
use Rattle.schema_engine.specs.Standing.{size_of}
use Rattle.engine_faults.specs.Telling.{stand_of, HearsAt}
use Rattle.engine_faults.proofs.KeywordFaults.{one_of_others, every_told, named_told, conditional_told, no_condition, condition_told, combined_accepted, combined_unwanted, combined_told}
use Rattle.schema_engine.proofs.HearsLemmas.{hears_absorbed, tells_after}
use Rattle.engine_faults.proofs.NodeFaults.{path_here, node_heard, keyword_next, keywords_done, together_heard, paired_heard, settled_heard, parted, kept_long, rest_whole, in_take, in_drop}
use Rattle.engine_faults.proofs.QuestionFaults.{beside_next, beside_skipped, beside_done, named_next, named_done, branches_next, branches_done}
use Rattle.engine_faults.proofs.RefusalFaults.{some_told, one_branch_told, counted_told, reason_told, paths_told}
use Rattle.engine_faults.proofs.RuleFaults.{one_is_right}
use Rattle.schema_engine.proofs.Sizes.{size_inside, size_down, size_target}
use Rattle.engine_faults.proofs.StepFaults.{leads_inside, leads_to_item, leads_to_member, leads_to_name, follows_none, hears_as, step_heard, back_heard, target_heard}
use Rattle.schema_engine.proofs.Steps.{may_ask_one, may_ask_rest, may_ask_for, each_may_ask, keywords_here, keyword_stands, keyword_told}
use Rattle.engine_faults.proofs.ToTell.{all_to_tell, settled_to_tell}
use Rattle.engine_faults.proofs.telling.+telling.Goals as goal

-- ---- a value

pub tell_value-tell_node-requires : goal.tell_value-tell_node-requires
tell_value-tell_node-requires g t c κs within =
    (omega arith, (within.0, (within.1, (c.requires.known, (record { value = refl; path = c.requires.path }, (c.requires.there, c.requires.led))))))

-- ---- a node

pub tell_node-tell_paired-requires : goal.tell_node-tell_paired-requires
tell_node-tell_paired-requires g t c κs within =
    let h = c.args.there.now.here in
    let nodes = h.graph.now.nodes.items in
    let here : keywords_at nodes h.node ≡ c.as_slice-keywords.result.now = keywords_here nodes h.node c.index-compiled.result.now c.requires.there c.index-compiled.ensures ∙ sym c.as_slice-keywords.ensures.value in (
      omega arith,
      (
        within.0,
        (
          within.1,
          (
            c.requires.known,
            (
              c.requires.right,
              (λ k i. subst (In k) (sym here) i, (c.requires.led, subst (λ o. IfSome o (ArePaired g.K.Validate.pairs c.as_slice-keywords.result.now)) c.in-Some-paired.is c.paired.ensures)),
            ),
          ),
        ),
      ),
    )

pub tell_node-tell_keywords-requires : goal.tell_node-tell_keywords-requires
tell_node-tell_keywords-requires g t c κs within =
    let h = c.args.there.now.here in
    let nodes = h.graph.now.nodes.items in
    let here : keywords_at nodes h.node ≡ c.as_slice-keywords.result.now = keywords_here nodes h.node c.index-compiled.result.now c.requires.there c.index-compiled.ensures ∙ sym c.as_slice-keywords.ensures.value in
    (omega arith, (within.0, (within.1, (c.requires.known, (c.requires.right, (λ k i. subst (In k) (sym here) i, c.requires.led))))))

pub tell_node-returns-in-Some-paired-clause-heard : goal.tell_node-returns-in-Some-paired-clause-heard
tell_node-returns-in-Some-paired-clause-heard g t c =
    let h = c.args.there.now.here in
    let nodes = h.graph.now.nodes.items in
    let here : keywords_at nodes h.node ≡ c.as_slice-keywords.result.now = keywords_here nodes h.node c.index-compiled.result.now c.requires.there c.index-compiled.ensures ∙ sym c.as_slice-keywords.ensures.value in
    let s = stand_of c.args.there.now in
    let told = λ (rest : Answers). keywords_faults g.K.Validate.shape (completed (g.T.Matching.matches c.args.matching.now) rest) nodes h.node s in
    on_ok_weaker c.tell_paired.result
    (λ heard rest. node_heard g.K.Validate.shape _ nodes h.node s (size_of h) c.args.observer.now c.tell_paired.new.observer
    (subst (λ ks. Hearing s (size_of h) (told rest ks) c.args.observer.now c.tell_paired.new.observer) (sym here) (heard rest)))
    c.tell_paired.ensures.heard

pub tell_node-returns-clause-heard : goal.tell_node-returns-clause-heard
tell_node-returns-clause-heard g t c =
    let h = c.args.there.now.here in
    let nodes = h.graph.now.nodes.items in
    let here : keywords_at nodes h.node ≡ c.as_slice-keywords.result.now = keywords_here nodes h.node c.index-compiled.result.now c.requires.there c.index-compiled.ensures ∙ sym c.as_slice-keywords.ensures.value in
    let s = stand_of c.args.there.now in
    let told = λ (rest : Answers). keywords_faults g.K.Validate.shape (completed (g.T.Matching.matches c.args.matching.now) rest) nodes h.node s in
    on_ok_weaker c.tell_keywords.result
    (λ heard rest. node_heard g.K.Validate.shape _ nodes h.node s (size_of h) c.args.observer.now c.tell_keywords.new.observer
    (subst (λ ks. Hearing s (size_of h) (told rest ks) c.args.observer.now c.tell_keywords.new.observer) (sym here) (heard rest)))
    c.tell_keywords.ensures.heard

-- ---- some keywords

pub tell_keywords-loop-keyword-init : goal.tell_keywords-loop-keyword-init
tell_keywords-loop-keyword-init g t c = record { matches = refl; questions = refl; left = λ rest. all_to_tell _ _ _ c.args.observer.now }

pub tell_keywords-tell_keyword-requires : goal.tell_keywords-tell_keyword-requires
tell_keywords-tell_keyword-requires g t c κs within =
    let h = c.args.there.now.here in
    let l = c.loop-keyword in
    let k = c.keyword-item.result in (
      omega arith,
      (
        within.0,
        (
          within.1,
          (
            subst (λ m. AreReady g.K.Validate.knows g.K.Validate.shape m h.graph.now.nodes.items) (sym l.invariant.matches) c.requires.known,
            (
              c.requires.right,
              (
                c.requires.stand k (keyword_stands l.keyword-index c.args.keywords.now k c.loop-keyword-test.true c.keyword-item.is),
                subst (λ m. LedTo m h.node (value_at h.place)) (sym l.invariant.matches) c.requires.led,
              ),
            ),
          ),
        ),
      ),
    )

pub tell_keywords-returns-then-is_settled-clause-heard : goal.tell_keywords-returns-then-is_settled-clause-heard
tell_keywords-returns-then-is_settled-clause-heard g t c =
    let l = c.loop-keyword in
    λ rest. settled_to_tell _ _ _ _ c.args.observer.now l.observer (λ kept fs gs. c.is_settled.ensures c.if-is_settled.true kept fs gs) (l.invariant.left rest)

pub tell_keywords-loop-keyword-preserved : goal.tell_keywords-loop-keyword-preserved
tell_keywords-loop-keyword-preserved g t c =
    let h = c.args.there.now.here in
    let nodes = h.graph.now.nodes.items in
    let l = c.loop-keyword in
    let ks = c.args.keywords.now in
    let k = c.keyword-item.result in
    let s = stand_of c.args.there.now in
    let m = g.T.Matching.matches c.args.matching.now in
    let heard = λ (rest : Answers). subst (λ (m : Matches). Hearing s (size_of h) (rule_faults (reading_of g.K.Validate.shape (completed m rest) nodes) h.node (rule (completed m rest) (value_at h.place) (g.K.Validate.shape k))) l.observer c.tell_keyword.new.observer)
    l.invariant.matches (c.in_ok-tell_keyword.ensures.heard rest) in
    record {
      matches = c.in_ok-tell_keyword.ensures.matches ∙ l.invariant.matches;
      questions = c.in_ok-tell_keyword.ensures.questions ∙ l.invariant.questions;
      left = λ rest. keyword_next g.K.Validate.shape _ nodes h.node s (size_of h) (keywords_faults g.K.Validate.shape (completed m rest) nodes h.node s ks) l.keyword-index ks k c.args.observer.now l.observer c.tell_keyword.new.observer
          c.loop-keyword-test.true c.keyword-item.is (heard rest) (l.invariant.left rest);
    }

pub tell_keywords-returns-clause-heard : goal.tell_keywords-returns-clause-heard
tell_keywords-returns-clause-heard g t c =
    let h = c.args.there.now.here in
    let nodes = h.graph.now.nodes.items in
    let l = c.loop-keyword in
    let ks = c.args.keywords.now in
    let s = stand_of c.args.there.now in
    let m = g.T.Matching.matches c.args.matching.now in
    let past : length ks ≤ l.keyword-index = omega arith in
    λ rest. keywords_done g.K.Validate.shape _ nodes h.node s (size_of h) (keywords_faults g.K.Validate.shape (completed m rest) nodes h.node s ks) l.keyword-index ks c.args.observer.now l.observer past (l.invariant.left rest)

-- ---- all keywords, two of them together

pub tell_paired-tell_keywords-requires : goal.tell_paired-tell_keywords-requires
tell_paired-tell_keywords-requires g t c κs within =
    (omega arith, (within.0, (within.1, (c.requires.known, (c.requires.right, (λ k i. c.requires.stand k (in_take c.args.pair.second c.args.keywords.now k i), c.requires.led))))))

pub tell_paired-returns-then-is_settled-clause-heard : goal.tell_paired-returns-then-is_settled-clause-heard
tell_paired-returns-then-is_settled-clause-heard g t c =
    let h = c.args.there.now.here in
    let ks = c.args.keywords.now in
    let i = c.args.pair.second in
    λ rest. settled_heard g.K.Validate.shape _ h.graph.now.nodes.items h.node (stand_of c.args.there.now) (size_of h) ks (take i ks) (drop i ks) (sym (take-append-drop i ks)) c.args.observer.now c.tell_keywords.new.observer
    (λ kept fs gs. c.is_settled.ensures c.if-is_settled.true kept fs gs) (c.in_ok-tell_keywords.ensures.heard rest)

pub tell_paired-tell_together-requires : goal.tell_paired-tell_together-requires
tell_paired-tell_together-requires g t c κs within =
    let h = c.args.there.now.here in
    let ks = c.args.keywords.now in
    let i = c.args.pair.second in
    let one = c.index-keywords-pair.result in
    let other = c.index-keywords-pair-2.result in
    let same = c.in_ok-tell_keywords.ensures.matches in (
      omega arith,
      (
        within.0,
        (
          within.1,
          (
            subst (λ m. AreReady g.K.Validate.knows g.K.Validate.shape m h.graph.now.nodes.items) (sym same) c.requires.known,
            (
              c.requires.right,
              (
                c.requires.pair.pairs other one c.index-keywords-pair-2.is c.index-keywords-pair.is,
                (
                  c.requires.stand one (keyword_stands i ks one c.requires.pair.second c.index-keywords-pair.is),
                  (
                    λ k j. c.requires.stand k (in_drop (i + 1) ks k (in_take (c.args.pair.first - (i + 1)) (drop (i + 1) ks) k j)),
                    (
                      c.requires.stand other (keyword_stands c.args.pair.first ks other c.requires.pair.first c.index-keywords-pair-2.is),
                      subst (λ m. LedTo m h.node (value_at h.place)) (sym same) c.requires.led,
                    ),
                  ),
                ),
              ),
            ),
          ),
        ),
      ),
    )

pub tell_paired-tell_keywords-requires-2 : goal.tell_paired-tell_keywords-requires-2
tell_paired-tell_keywords-requires-2 g t c κs within =
    let h = c.args.there.now.here in
    let ks = c.args.keywords.now in
    let i = c.args.pair.first in
    let same = c.in_ok-tell_together.ensures.matches ∙ c.in_ok-tell_keywords.ensures.matches in (
      omega arith,
      (
        within.0,
        (
          within.1,
          (
            subst (λ m. AreReady g.K.Validate.knows g.K.Validate.shape m h.graph.now.nodes.items) (sym same) c.requires.known,
            (
              c.requires.right,
              (
                λ k j. c.requires.stand k (in_drop (i + 1) ks k (in_take (length ks - (i + 1)) (drop (i + 1) ks) k j)),
                subst (λ m. LedTo m h.node (value_at h.place)) (sym same) c.requires.led,
              ),
            ),
          ),
        ),
      ),
    )

pub tell_paired-returns-clause-heard : goal.tell_paired-returns-clause-heard
tell_paired-returns-clause-heard g t c =
    let h = c.args.there.now.here in
    let nodes = h.graph.now.nodes.items in
    let s = stand_of c.args.there.now in
    let m = g.T.Matching.matches c.args.matching.now in
    let ks = c.args.keywords.now in
    let i = c.args.pair.second in
    let j = c.args.pair.first in
    let one = c.index-keywords-pair.result in
    let other = c.index-keywords-pair-2.result in
    let middle = one ∷ (take (j - (i + 1)) (drop (i + 1) ks) ++ other ∷ []) in
    let last = take (length ks - (j + 1)) (drop (j + 1) ks) in
    let same = c.in_ok-tell_keywords.ensures.matches in
    let told = λ (m : Matches) (rest : Answers). keywords_faults g.K.Validate.shape (completed m rest) nodes h.node s in
    on_ok_weaker c.tell_keywords-2.result
    (λ heard rest. paired_heard g.K.Validate.shape _ nodes h.node s (size_of h) ks (take i ks) middle last
    (parted ks i j one other c.requires.pair.rises c.requires.pair.first c.index-keywords-pair.is c.index-keywords-pair-2.is)
    c.args.observer.now c.tell_keywords.new.observer c.tell_together.new.observer c.tell_keywords-2.new.observer
    (c.in_ok-tell_keywords.ensures.heard rest)
    (subst (λ (n : Matches). Hearing s (size_of h) (told n rest middle) c.tell_keywords.new.observer c.tell_together.new.observer) same (c.in_ok-tell_together.ensures.heard rest))
    (subst (λ (n : Matches). Hearing s (size_of h) (told n rest last) c.tell_together.new.observer c.tell_keywords-2.new.observer) (c.in_ok-tell_together.ensures.matches ∙ same) (heard rest)))
    c.tell_keywords-2.ensures.heard

-- ---- two of them together

pub tell_together-questions-requires : goal.tell_together-questions-requires
tell_together-questions-requires g t c =
    let h = c.args.there.now.here in
    let k = c.args.first.now in
    record {
      known = c.requires.known.known.each h.node k c.requires.first;
      asked = may_ask_for g.K.Validate.knows g.K.Validate.shape h.graph.now.nodes.items h.node k _ (value_at h.place) c.requires.known c.requires.led c.requires.first;
    }

pub tell_together-tell_by_rule-requires : goal.tell_together-tell_by_rule-requires
tell_together-tell_by_rule-requires g t c κs within =
    let h = c.args.there.now.here in
    let nodes = h.graph.now.nodes.items in
    let d = value_at h.place in
    let k = c.args.second.now in
    let m = g.T.Matching.matches c.args.matching.now in
    let same = c.in_ok-questions.ensures.same in
    let before = c.questions.new.into.items in
    let now = c.questions_beside.new.into.items in
    let start : c.len-start.result ≡ length c.args.questions.now.items = omega arith in
    let held : c.len-held.result ≡ length before = omega arith in
    let are : (rest : Answers) → AreOf (rule (completed m rest) d (g.K.Validate.shape c.args.first.now)) (drop c.len-start.result before) =
    λ rest. ap (λ n. map call_of (drop n before)) start ∙ (c.in_ok-questions.ensures.pushed rest).pushed in
    let asked : (rest : Answers) → AreAsked (g.K.Validate.added k) (rule (completed m rest) d (g.K.Validate.shape k)) (drop c.len-held.result now) = λ rest. record {
      calls = ap (λ n. map call_of (drop n now)) held ∙ (c.in_ok-questions_beside.ensures.pushed (completed m rest) (are rest)).pushed;
      asked = ap (λ n. map (question_by (g.K.Validate.added k)) (drop n now)) held ∙ (c.in_ok-questions_beside.ensures.asked (completed m rest) (are rest)).pushed;
    } in
    let long = kept_long before now (c.in_ok-questions_beside.ensures.pushed (completed m none_matched) (are none_matched)).kept in (
      omega arith,
      (
        within.0,
        (
          within.1,
          (
            subst (λ m. AreReady g.K.Validate.knows g.K.Validate.shape m nodes) (sym same) c.requires.known,
            (
              c.requires.right,
              (
                c.requires.second,
                (
                  subst (λ m. LedTo m h.node d) (sym same) c.requires.led,
                  (omega arith, λ rest. subst (λ (m : Matches). AreAsked (g.K.Validate.added k) (rule (completed m rest) d (g.K.Validate.shape k)) (drop c.len-held.result now)) (sym same) (asked rest)),
                ),
              ),
            ),
          ),
        ),
      ),
    )

pub tell_together-tell_unless_settled-requires : goal.tell_together-tell_unless_settled-requires
tell_together-tell_unless_settled-requires g t c κs within =
    let h = c.args.there.now.here in
    let nodes = h.graph.now.nodes.items in
    let d = value_at h.place in
    let k = c.args.first.now in
    let m = g.T.Matching.matches c.args.matching.now in
    let same = c.in_ok-tell_keywords.ensures.matches ∙ c.in_ok-tell_by_rule.ensures.matches ∙ c.in_ok-questions.ensures.same in
    let before = c.questions.new.into.items in
    let now = c.questions_beside.new.into.items in
    let start : c.len-start.result ≡ length c.args.questions.now.items = omega arith in
    let held : c.len-held.result ≡ length before = omega arith in
    let are : (rest : Answers) → AreOf (rule (completed m rest) d (g.K.Validate.shape c.args.first.now)) (drop c.len-start.result before) =
    λ rest. ap (λ n. map call_of (drop n before)) start ∙ (c.in_ok-questions.ensures.pushed rest).pushed in
    let again : c.tell_keywords.new.questions.items ≡ before = c.in_ok-tell_keywords.ensures.questions ∙ c.truncate.ensures.items ∙ ap (take c.len-held.result) c.in_ok-tell_by_rule.ensures.questions
    ∙ ap (λ n. take n now) held ∙ (c.in_ok-questions_beside.ensures.pushed (completed m none_matched) (are none_matched)).kept in
    let asked : (rest : Answers) → AreAsked (g.K.Validate.added k) (rule (completed m rest) d (g.K.Validate.shape k)) (drop c.len-start.result before) = λ rest. record {
      calls = are rest;
      asked = ap (λ n. map (question_by (g.K.Validate.added k)) (drop n before)) start ∙ (c.in_ok-questions.ensures.asked rest).pushed;
    } in
    let long = kept_long c.args.questions.now.items before (c.in_ok-questions.ensures.pushed none_matched).kept in
    let short : c.len-start.result ≤ length before = omega arith in (
      omega arith,
      (
        within.0,
        (
          within.1,
          (
            subst (λ m. AreReady g.K.Validate.knows g.K.Validate.shape m nodes) (sym same) c.requires.known,
            (
              c.requires.right,
              (
                c.requires.first,
                (
                  subst (λ m. LedTo m h.node d) (sym same) c.requires.led,
                  (
                    subst (λ qs. c.len-start.result ≤ length qs) (sym again) short,
                    λ rest. subst (λ qs. AreAsked (g.K.Validate.added k) (rule (completed (g.T.Matching.matches c.tell_keywords.new.matching) rest) d (g.K.Validate.shape k)) (drop c.len-start.result qs)) (sym again)
                        (subst (λ (m : Matches). AreAsked (g.K.Validate.added k) (rule (completed m rest) d (g.K.Validate.shape k)) (drop c.len-start.result before)) (sym same) (asked rest)),
                  ),
                ),
              ),
            ),
          ),
        ),
      ),
    )

pub tell_together-returns-clause-questions : goal.tell_together-returns-clause-questions
tell_together-returns-clause-questions g t c =
    let d = value_at c.args.there.now.here.place in
    let m = g.T.Matching.matches c.args.matching.now in
    let before = c.questions.new.into.items in
    let now = c.questions_beside.new.into.items in
    let start : c.len-start.result ≡ length c.args.questions.now.items = omega arith in
    let held : c.len-held.result ≡ length before = omega arith in
    let are : (rest : Answers) → AreOf (rule (completed m rest) d (g.K.Validate.shape c.args.first.now)) (drop c.len-start.result before) =
    λ rest. ap (λ n. map call_of (drop n before)) start ∙ (c.in_ok-questions.ensures.pushed rest).pushed in
    let again : c.tell_keywords.new.questions.items ≡ before = c.in_ok-tell_keywords.ensures.questions ∙ c.truncate.ensures.items ∙ ap (take c.len-held.result) c.in_ok-tell_by_rule.ensures.questions
    ∙ ap (λ n. take n now) held ∙ (c.in_ok-questions_beside.ensures.pushed (completed m none_matched) (are none_matched)).kept in
    c.truncate-2.ensures.items ∙ ap (take c.len-start.result) (c.in_ok-tell_unless_settled.ensures.questions ∙ again) ∙ ap (λ n. take n before) start ∙ (c.in_ok-questions.ensures.pushed none_matched).kept

pub tell_together-returns-clause-heard : goal.tell_together-returns-clause-heard
tell_together-returns-clause-heard g t c =
    let h = c.args.there.now.here in
    let nodes = h.graph.now.nodes.items in
    let s = stand_of c.args.there.now in
    let one = c.args.second.now in
    let other = c.args.first.now in
    let asked = c.in_ok-questions.ensures.same in
    let told = c.in_ok-tell_by_rule.ensures.matches ∙ asked in
    let heard = λ (k : _) (m : Matches) (rest : Answers). rule_faults (reading_of g.K.Validate.shape (completed m rest) nodes) h.node (rule (completed m rest) (value_at h.place) (g.K.Validate.shape k)) in
    λ rest. together_heard g.K.Validate.shape _ nodes h.node s (size_of h) one c.args.between.now other c.args.observer.now c.tell_by_rule.new.observer c.tell_keywords.new.observer c.tell_unless_settled.new.observer
    (subst (λ (m : Matches). Hearing s (size_of h) (heard one m rest) c.args.observer.now c.tell_by_rule.new.observer) asked (c.in_ok-tell_by_rule.ensures.heard rest))
    (subst (λ (m : Matches). Hearing s (size_of h) (keywords_faults g.K.Validate.shape (completed m rest) nodes h.node s c.args.between.now) c.tell_by_rule.new.observer c.tell_keywords.new.observer) told (c.in_ok-tell_keywords.ensures.heard rest))
    (subst (λ (m : Matches). Hearing s (size_of h) (heard other m rest) c.tell_keywords.new.observer c.tell_unless_settled.new.observer) (c.in_ok-tell_keywords.ensures.matches ∙ told) (c.in_ok-tell_unless_settled.ensures.heard rest))

-- ---- a keyword

pub tell_keyword-questions-requires : goal.tell_keyword-questions-requires
tell_keyword-questions-requires g t c =
    let h = c.args.there.now.here in
    let k = c.args.keyword.now in
    record {
      known = c.requires.known.known.each h.node k c.requires.stands;
      asked = may_ask_for g.K.Validate.knows g.K.Validate.shape h.graph.now.nodes.items h.node k _ (value_at h.place) c.requires.known c.requires.led c.requires.stands;
    }

pub tell_keyword-tell_by_rule-requires : goal.tell_keyword-tell_by_rule-requires
tell_keyword-tell_by_rule-requires g t c κs within =
    let h = c.args.there.now.here in
    let nodes = h.graph.now.nodes.items in
    let k = c.args.keyword.now in
    let same = c.in_ok-questions.ensures.same in
    let start : c.len-start.result ≡ length c.args.questions.now.items = omega arith in
    let now = c.questions.new.into.items in
    let asked : (rest : Answers) → AreAsked (g.K.Validate.added k) (rule (completed (g.T.Matching.matches c.args.matching.now) rest) (value_at h.place) (g.K.Validate.shape k)) (drop c.len-start.result now) = λ rest. record {
      calls = ap (λ n. map call_of (drop n now)) start ∙ (c.in_ok-questions.ensures.pushed rest).pushed;
      asked = ap (λ n. map (question_by (g.K.Validate.added k)) (drop n now)) start ∙ (c.in_ok-questions.ensures.asked rest).pushed;
    } in
    let long = kept_long c.args.questions.now.items now (c.in_ok-questions.ensures.pushed none_matched).kept in (
      omega arith,
      (
        within.0,
        (
          within.1,
          (
            subst (λ m. AreReady g.K.Validate.knows g.K.Validate.shape m nodes) (sym same) c.requires.known,
            (
              c.requires.right,
              (
                c.requires.stands,
                (
                  subst (λ m. LedTo m h.node (value_at h.place)) (sym same) c.requires.led,
                  (omega arith, λ rest. subst (λ (m : Matches). AreAsked (g.K.Validate.added k) (rule (completed m rest) (value_at h.place) (g.K.Validate.shape k)) (drop c.len-start.result now)) (sym same) (asked rest)),
                ),
              ),
            ),
          ),
        ),
      ),
    )

pub tell_keyword-returns-clause-heard : goal.tell_keyword-returns-clause-heard
tell_keyword-returns-clause-heard g t c =
    let h = c.args.there.now.here in
    let nodes = h.graph.now.nodes.items in
    let k = c.args.keyword.now in
    λ rest. subst
    (λ (m : Matches). HearsAt c.args.there.now (rule_faults (reading_of g.K.Validate.shape (completed m rest) nodes) h.node (rule (completed m rest) (value_at h.place) (g.K.Validate.shape k))) c.args.observer.now c.tell_by_rule.new.observer)
    c.in_ok-questions.ensures.same (c.in_ok-tell_by_rule.ensures.heard rest)

-- ---- by its rule

pub tell_by_rule-tell_each-requires : goal.tell_by_rule-tell_each-requires
tell_by_rule-tell_each-requires g t c κs within =
    let h = c.args.there.now.here in
    let nodes = h.graph.now.nodes.items in
    let k = c.args.keyword.now in
    let same = c.in_ok-tell_notes-in-Every.ensures.same in (
      omega arith,
      (
        within.0,
        (
          within.1,
          (
            subst (λ m. AreReady g.K.Validate.knows g.K.Validate.shape m nodes) (sym same) c.requires.known,
            (
              c.requires.right,
              subst (λ m. EachMayAsk m nodes (rank_at nodes h.node) (value_at h.place) (map call_of (drop c.args.start c.args.questions.now.items))) (sym same)
                  (each_may_ask g.K.Validate.knows g.K.Validate.shape nodes h.node k (g.T.Matching.matches c.args.matching.now) (value_at h.place) c.requires.known c.requires.led c.requires.stands h.graph.now.sound
                  (map call_of (drop c.args.start c.args.questions.now.items)) (λ rest. (c.requires.asked rest).calls)),
            ),
          ),
        ),
      ),
    )

pub tell_by_rule-tell_named-requires : goal.tell_by_rule-tell_named-requires
tell_by_rule-tell_named-requires g t c κs within =
    let h = c.args.there.now.here in
    let nodes = h.graph.now.nodes.items in
    let k = c.args.keyword.now in (
      omega arith,
      (
        within.0,
        (
          within.1,
          (
            c.requires.known,
            (
              c.requires.right,
              each_may_ask g.K.Validate.knows g.K.Validate.shape nodes h.node k (g.T.Matching.matches c.args.matching.now) (value_at h.place) c.requires.known c.requires.led c.requires.stands h.graph.now.sound
                  (map call_of (drop c.args.start c.args.questions.now.items)) (λ rest. (c.requires.asked rest).calls),
            ),
          ),
        ),
      ),
    )

pub tell_by_rule-tell_conditional-requires : goal.tell_by_rule-tell_conditional-requires
tell_by_rule-tell_conditional-requires g t c κs within =
    let h = c.args.there.now.here in
    let nodes = h.graph.now.nodes.items in
    let k = c.args.keyword.now in (
      omega arith,
      (
        within.0,
        (
          within.1,
          (
            c.requires.known,
            (
              c.requires.right,
              each_may_ask g.K.Validate.knows g.K.Validate.shape nodes h.node k (g.T.Matching.matches c.args.matching.now) (value_at h.place) c.requires.known c.requires.led c.requires.stands h.graph.now.sound
                  (map call_of (drop c.args.start c.args.questions.now.items)) (λ rest. (c.requires.asked rest).calls),
            ),
          ),
        ),
      ),
    )

pub tell_by_rule-tell_combined-requires : goal.tell_by_rule-tell_combined-requires
tell_by_rule-tell_combined-requires g t c κs within = (
  omega arith,
  (
    within.0,
    (
      within.1,
      (
        c.requires.known,
        (
          c.requires.right,
          (
            c.requires.stands,
            (
              c.requires.led,
              (
                (λ rest. c.combination-combination.ensures _),
                (one_of_others c.combination-combination.result c.in_default.not-Every c.in_default.not-EachNamed c.in_default.not-Conditional, (c.requires.start, c.requires.asked)),
              ),
            ),
          ),
        ),
      ),
    ),
  ),
)

pub tell_by_rule-returns-in_ok-tell_notes-in-Every-clause-heard : goal.tell_by_rule-returns-in_ok-tell_notes-in-Every-clause-heard
tell_by_rule-returns-in_ok-tell_notes-in-Every-clause-heard g t c =
    let t = c.args.there.now in
    let h = t.here in
    let nodes = h.graph.now.nodes.items in
    let k = c.args.keyword.now in
    let m = g.T.Matching.matches c.args.matching.now in
    let same = c.in_ok-tell_notes-in-Every.ensures.same in
    on_ok_weaker c.tell_each.result
    (λ told rest. every_told (reading_of g.K.Validate.shape (completed m rest) nodes) h.node (rule (completed m rest) (value_at h.place) (g.K.Validate.shape k)) (stand_of t) (size_of h) (g.K.Validate.added k) (drop c.args.start c.args.questions.now.items)
    (c.requires.asked rest) t.situation c.args.observer.now c.tell_notes.new.observer c.tell_each.new.observer (sym (c.combination-combination.ensures _) ∙ c.in-Every.is) refl refl c.requires.right.path
    (subst (λ d. HearsMore (own_notes (rule (completed m rest) d (g.K.Validate.shape k)) (spot_in t.situation) t.situation.schema.now) c.args.observer.now c.tell_notes.new.observer)
    c.requires.right.value (c.in_ok-tell_notes-in-Every.ensures.told rest))
    (subst (λ (m : Matches). Hearing (stand_of t) (size_of h) (λ x. faults_beside (question_faults (reading_of g.K.Validate.shape (completed m rest) nodes) (g.K.Validate.added k) x) true (drop c.args.start c.args.questions.now.items)) c.tell_notes.new.observer c.tell_each.new.observer)
    same (told rest)))
    c.tell_each.ensures.heard

pub tell_by_rule-returns-in-EachNamed-clause-heard : goal.tell_by_rule-returns-in-EachNamed-clause-heard
tell_by_rule-returns-in-EachNamed-clause-heard g t c =
    let t = c.args.there.now in
    let h = t.here in
    let nodes = h.graph.now.nodes.items in
    let k = c.args.keyword.now in
    let m = g.T.Matching.matches c.args.matching.now in
    on_ok_weaker c.tell_named.result
    (λ told rest. named_told (reading_of g.K.Validate.shape (completed m rest) nodes) h.node (rule (completed m rest) (value_at h.place) (g.K.Validate.shape k)) (stand_of t) (size_of h) (g.K.Validate.added k) (drop c.args.start c.args.questions.now.items)
    (c.requires.asked rest) c.args.observer.now c.tell_named.new.observer (sym (c.combination-combination.ensures _) ∙ c.in-EachNamed.is) (told rest))
    c.tell_named.ensures.heard

pub tell_by_rule-returns-in-Conditional-clause-heard : goal.tell_by_rule-returns-in-Conditional-clause-heard
tell_by_rule-returns-in-Conditional-clause-heard g t c =
    let t = c.args.there.now in
    let h = t.here in
    let nodes = h.graph.now.nodes.items in
    let k = c.args.keyword.now in
    let m = g.T.Matching.matches c.args.matching.now in
    on_ok_weaker c.tell_conditional.result
    (λ told rest. conditional_told (reading_of g.K.Validate.shape (completed m rest) nodes) h.node (rule (completed m rest) (value_at h.place) (g.K.Validate.shape k)) (stand_of t) (size_of h) (g.K.Validate.added k) (drop c.args.start c.args.questions.now.items)
    (c.requires.asked rest) c.args.observer.now c.tell_conditional.new.observer (sym (c.combination-combination.ensures _) ∙ c.in-Conditional.is) (told rest))
    c.tell_conditional.ensures.heard

-- ---- questions beside an answer

pub tell_each-loop-index-init : goal.tell_each-loop-index-init
tell_each-loop-index-init g t c = record { matches = refl; questions = refl; left = λ rest. all_to_tell _ _ _ c.args.observer.now }

pub tell_each-returns-then-is_settled-clause-heard : goal.tell_each-returns-then-is_settled-clause-heard
tell_each-returns-then-is_settled-clause-heard g t c =
    let l = c.loop-index in
    λ rest. settled_to_tell _ _ _ _ c.args.observer.now l.observer (λ kept fs gs. c.is_settled.ensures c.if-is_settled.true kept fs gs) (l.invariant.left rest)

pub tell_each-tell_question-requires : goal.tell_each-tell_question-requires
tell_each-tell_question-requires g t c κs within =
    let h = c.args.there.now.here in
    let nodes = h.graph.now.nodes.items in
    let l = c.loop-index in
    let asked = subst (λ m. EachMayAsk m nodes (rank_at nodes h.node) (value_at h.place) (map call_of (drop c.args.start l.questions.items))) (sym l.invariant.matches)
    (subst (λ qs. EachMayAsk (g.T.Matching.matches c.args.matching.now) nodes (rank_at nodes h.node) (value_at h.place) (map call_of (drop c.args.start qs))) (sym l.invariant.questions) c.requires.asked) in
    let short : l.index < length l.questions.items = (let e = ap length l.invariant.questions in omega arith) in (
      omega arith,
      (
        within.0,
        (
          within.1,
          (
            subst (λ m. AreReady g.K.Validate.knows g.K.Validate.shape m nodes) (sym l.invariant.matches) c.requires.known,
            (c.requires.right, may_ask_one nodes _ _ c.args.start l.index l.questions.items c.index-question.result.now asked (omega arith) short c.index-question.ensures),
          ),
        ),
      ),
    )

pub tell_each-returns-clause-heard : goal.tell_each-returns-clause-heard
tell_each-returns-clause-heard g t c =
    let h = c.args.there.now.here in
    let l = c.loop-index in
    let m = g.T.Matching.matches c.args.matching.now in
    let past : length c.args.questions.now.items ≤ l.index = omega arith in
    λ rest. beside_done (stand_of c.args.there.now) (size_of h) (question_faults (reading_of g.K.Validate.shape (completed m rest) h.graph.now.nodes.items) (g.K.Validate.added c.args.keyword.now))
    (drop c.args.start c.args.questions.now.items) c.args.questions.now.items l.index c.args.beside c.args.observer.now l.observer past (l.invariant.left rest)

-- ---- a condition

pub tell_conditional-returns-then-start-len-clause-heard : goal.tell_conditional-returns-then-start-len-clause-heard
tell_conditional-returns-then-start-len-clause-heard g t c =
    let past : length c.args.questions.now.items ≤ c.args.start = omega arith in
    λ rest. no_condition _ (stand_of c.args.there.now) (size_of c.args.there.now.here) _ c.args.questions.now.items c.args.start c.args.observer.now past

pub tell_conditional-accepts_question-requires : goal.tell_conditional-accepts_question-requires
tell_conditional-accepts_question-requires g t c =
    let h = c.args.there.now.here in
    record {
      known = c.requires.known;
      asked = may_ask_one h.graph.now.nodes.items _ _ c.args.start c.args.start c.args.questions.now.items c.index-condition.result.now c.requires.asked (omega arith) (omega arith) c.index-condition.ensures;
    }

pub tell_conditional-tell_each-requires : goal.tell_conditional-tell_each-requires
tell_conditional-tell_each-requires g t c κs within =
    let same : c.accepts_question.new.questions.items ≡ c.args.questions.now.items = c.in_ok-answer.ensures.questions in
    let h = c.args.there.now.here in
    let nodes = h.graph.now.nodes.items in (
      omega arith,
      (
        within.0,
        (
          within.1,
          (
            subst (λ m. AreReady g.K.Validate.knows g.K.Validate.shape m nodes) (sym c.in_ok-answer.ensures.matches) c.requires.known,
            (
              c.requires.right,
              subst (λ qs. EachMayAsk (g.T.Matching.matches c.accepts_question.new.matching) nodes (rank_at nodes h.node) (value_at h.place) (map call_of (drop (c.args.start + 1) qs))) (sym same)
                  (may_ask_rest nodes (rank_at nodes h.node) (value_at h.place) c.args.start c.args.questions.now.items
                  (subst (λ m. EachMayAsk m nodes (rank_at nodes h.node) (value_at h.place) (map call_of (drop c.args.start c.args.questions.now.items))) (sym c.in_ok-answer.ensures.matches) c.requires.asked)),
            ),
          ),
        ),
      ),
    )

pub tell_conditional-returns-clause-heard : goal.tell_conditional-returns-clause-heard
tell_conditional-returns-clause-heard g t c =
    let h = c.args.there.now.here in
    let nodes = h.graph.now.nodes.items in
    let s = stand_of c.args.there.now in
    let added = g.K.Validate.added c.args.keyword.now in
    let m = g.T.Matching.matches c.args.matching.now in
    let b = c.in_ok-answer.answer in
    let short : c.args.start < length c.args.questions.now.items = omega arith in
    on_ok_weaker c.tell_each.result
    (λ told rest. condition_told (reading_of g.K.Validate.shape (completed m rest) nodes) s (size_of h) added c.args.questions.now.items c.args.start c.index-condition.result.now b c.args.observer.now c.tell_each.new.observer
    short c.index-condition.ensures (c.in_ok-answer.ensures.verdict rest)
    (subst (λ (n : Matches). Hearing s (size_of h) (λ x. faults_beside (question_faults (reading_of g.K.Validate.shape (completed n rest) nodes) added x) b (drop (c.args.start + 1) c.args.questions.now.items)) c.args.observer.now c.tell_each.new.observer)
    c.in_ok-answer.ensures.matches
    (subst (λ qs. Hearing s (size_of h) (λ x. faults_beside (question_faults (reading_of g.K.Validate.shape (completed (g.T.Matching.matches c.accepts_question.new.matching) rest) nodes) added x) b (drop (c.args.start + 1) qs)) c.args.observer.now c.tell_each.new.observer)
    c.in_ok-answer.ensures.questions (told rest))))
    c.tell_each.ensures.heard

-- ---- names

pub tell_named-loop-index-init : goal.tell_named-loop-index-init
tell_named-loop-index-init g t c = record { matches = refl; questions = refl; left = λ rest. all_to_tell _ _ _ c.args.observer.now }

pub tell_named-returns-then-is_settled-clause-heard : goal.tell_named-returns-then-is_settled-clause-heard
tell_named-returns-then-is_settled-clause-heard g t c =
    let l = c.loop-index in
    λ rest. settled_to_tell _ _ _ _ c.args.observer.now l.observer (λ kept fs gs. c.is_settled.ensures c.if-is_settled.true kept fs gs) (l.invariant.left rest)

pub tell_named-tell_question-requires : goal.tell_named-tell_question-requires
tell_named-tell_question-requires g t c κs within =
    let h = c.args.there.now.here in
    let nodes = h.graph.now.nodes.items in
    let l = c.loop-index in
    let asked = subst (λ m. EachMayAsk m nodes (rank_at nodes h.node) (value_at h.place) (map call_of (drop c.args.start l.questions.items))) (sym l.invariant.matches)
    (subst (λ qs. EachMayAsk (g.T.Matching.matches c.args.matching.now) nodes (rank_at nodes h.node) (value_at h.place) (map call_of (drop c.args.start qs))) (sym l.invariant.questions) c.requires.asked) in
    let short : l.index < length l.questions.items = (let e = ap length l.invariant.questions in omega arith) in (
      omega arith,
      (
        within.0,
        (
          within.1,
          (
            subst (λ m. AreReady g.K.Validate.knows g.K.Validate.shape m nodes) (sym l.invariant.matches) c.requires.known,
            (c.requires.right, may_ask_one nodes _ _ c.args.start l.index l.questions.items c.index-question.result.now asked (omega arith) short c.index-question.ensures),
          ),
        ),
      ),
    )

pub tell_named-loop-index-preserved : goal.tell_named-loop-index-preserved
tell_named-loop-index-preserved g t c =
    let there = c.args.there.now in
    let h = there.here in
    let nodes = h.graph.now.nodes.items in
    let s = stand_of there in
    let l = c.loop-index in
    let m = g.T.Matching.matches c.args.matching.now in
    let added = g.K.Validate.added c.args.keyword.now in
    let q = c.index-question.result.now in
    let qs = c.args.questions.now.items in
    let short : l.index < length qs = (let e = ap length l.invariant.questions in omega arith) in
    let is : q ≡ get_or qs l.index q = subst (λ (xs : List Question). q ≡ get_or xs l.index q) l.invariant.questions c.index-question.ensures in
    let heard = λ (rest : Answers). subst (λ (m : Matches). Hearing s (size_of h) (λ x. question_faults (reading_of g.K.Validate.shape (completed m rest) nodes) added x q) c.fresh-heard.result c.tell_question.new.observer) l.invariant.matches (c.in_ok-tell_question.ensures.heard rest) in
    record {
      matches = c.in_ok-tell_question.ensures.matches ∙ l.invariant.matches;
      questions = c.in_ok-tell_question.ensures.questions ∙ l.invariant.questions;
      left = λ rest. named_next s (size_of h) (question_faults (reading_of g.K.Validate.shape (completed m rest) nodes) added) (drop c.args.start qs) qs l.index q (view there.situation.value.now) (location_of there.situation.instance.now)
          c.args.observer.now l.observer c.fresh-heard.result c.tell_question.new.observer c.absorb_names.new.self c.requires.right.value refl short is c.fresh-heard.ensures (heard rest) c.in_ok-absorb_names.ensures (l.invariant.left rest);
    }

pub tell_named-returns-clause-heard : goal.tell_named-returns-clause-heard
tell_named-returns-clause-heard g t c =
    let h = c.args.there.now.here in
    let l = c.loop-index in
    let m = g.T.Matching.matches c.args.matching.now in
    let past : length c.args.questions.now.items ≤ l.index = omega arith in
    λ rest. named_done (stand_of c.args.there.now) (size_of h) (question_faults (reading_of g.K.Validate.shape (completed m rest) h.graph.now.nodes.items) (g.K.Validate.added c.args.keyword.now))
    (drop c.args.start c.args.questions.now.items) c.args.questions.now.items l.index c.args.observer.now l.observer past (l.invariant.left rest)

-- ---- one fault for all questions

pub tell_combined-accepts_combined-requires : goal.tell_combined-accepts_combined-requires
tell_combined-accepts_combined-requires g t c =
    let h = c.args.there.now.here in
    let nodes = h.graph.now.nodes.items in
    let k = c.args.keyword.now in
    record {
      known = c.requires.known;
      asked = each_may_ask g.K.Validate.knows g.K.Validate.shape nodes h.node k (g.T.Matching.matches c.args.matching.now) (value_at h.place) c.requires.known c.requires.led c.requires.stands h.graph.now.sound
          (map call_of (drop c.args.start c.args.questions.now.items)) (λ rest. (c.requires.asked rest).calls);
    }

pub tell_combined-tell_refusal-requires : goal.tell_combined-tell_refusal-requires
tell_combined-tell_refusal-requires g t c κs within =
    let h = c.args.there.now.here in
    let nodes = h.graph.now.nodes.items in
    let k = c.args.keyword.now in
    let same = c.in_ok-accepts_combined.ensures.matches in (
      omega arith,
      (
        within.0,
        (
          within.1,
          (
            subst (λ m. AreReady g.K.Validate.knows g.K.Validate.shape m nodes) (sym same) c.requires.known,
            (
              c.requires.right,
              (
                c.requires.stands,
                (
                  subst (λ m. LedTo m h.node (value_at h.place)) (sym same) c.requires.led,
                  (
                    (λ rest. subst (λ (m : Matches). c.args.combination ≡ combination_of (rule (completed m rest) (value_at h.place) (g.K.Validate.shape k))) (sym same) (c.requires.combination rest)),
                    (
                      c.requires.once,
                      (
                        subst (λ qs. c.args.start ≤ length qs) (sym c.in_ok-accepts_combined.ensures.questions) c.requires.start,
                        λ rest. subst (λ qs. AreAsked (g.K.Validate.added k) (rule (completed (g.T.Matching.matches c.accepts_combined.new.matching) rest) (value_at h.place) (g.K.Validate.shape k)) (drop c.args.start qs)) (sym c.in_ok-accepts_combined.ensures.questions)
                            (subst (λ (m : Matches). AreAsked (g.K.Validate.added k) (rule (completed m rest) (value_at h.place) (g.K.Validate.shape k)) (drop c.args.start c.args.questions.now.items)) (sym same) (c.requires.asked rest)),
                      ),
                    ),
                  ),
                ),
              ),
            ),
          ),
        ),
      ),
    )

pub tell_combined-returns-then-branch-clause-heard : goal.tell_combined-returns-then-branch-clause-heard
tell_combined-returns-then-branch-clause-heard g t c rest =
    let h = c.args.there.now.here in
    let k = rule (completed (g.T.Matching.matches c.args.matching.now) rest) (value_at h.place) (g.K.Validate.shape c.args.keyword.now) in
    let once = ap has_one_fault (sym (c.requires.combination rest)) ∙ c.requires.once in
    combined_accepted (reading_of g.K.Validate.shape (completed (g.T.Matching.matches c.args.matching.now) rest) h.graph.now.nodes.items) h.node k (stand_of c.args.there.now) (size_of h) c.in_ok-accepts_combined.field-0 once
    (keyword_told _ h.place _ _ k c.in_ok-accepts_combined.field-0 true c.args.combination (map call_of (drop c.args.start c.args.questions.now.items)) (one_is_right k once) refl (c.requires.combination rest) (c.requires.asked rest).calls
    (c.in_ok-accepts_combined.ensures.verdict rest)) c.args.observer.now (search rules)

pub tell_combined-returns-then-not-hear-clause-heard : goal.tell_combined-returns-then-not-hear-clause-heard
tell_combined-returns-then-not-hear-clause-heard g t c rest =
    let h = c.args.there.now.here in
    let k = rule (completed (g.T.Matching.matches c.args.matching.now) rest) (value_at h.place) (g.K.Validate.shape c.args.keyword.now) in
    let once = ap has_one_fault (sym (c.requires.combination rest)) ∙ c.requires.once in
    combined_unwanted (reading_of g.K.Validate.shape (completed (g.T.Matching.matches c.args.matching.now) rest) h.graph.now.nodes.items) h.node k (stand_of c.args.there.now) (size_of h) c.in_ok-accepts_combined.field-0 once
    (keyword_told _ h.place _ _ k c.in_ok-accepts_combined.field-0 true c.args.combination (map call_of (drop c.args.start c.args.questions.now.items)) (one_is_right k once) refl (c.requires.combination rest) (c.requires.asked rest).calls
    (c.in_ok-accepts_combined.ensures.verdict rest)) c.args.observer.now c.hear.new.self (search rules) (c.hear.ensures.heard (search rules))

pub tell_combined-returns-clause-heard : goal.tell_combined-returns-clause-heard
tell_combined-returns-clause-heard g t c =
    let there = c.args.there.now in
    let h = there.here in
    let nodes = h.graph.now.nodes.items in
    let m = g.T.Matching.matches c.args.matching.now in
    let k = λ (rest : Answers). rule (completed m rest) (value_at h.place) (g.K.Validate.shape c.args.keyword.now) in
    let once = λ (rest : Answers). ap has_one_fault (sym (c.requires.combination rest)) ∙ c.requires.once in
    let refused : c.in_ok-accepts_combined.field-0 ≡ false = search rules in
    let unheard = c.hear.ensures.unheard (search rules) in
    on_ok_weaker c.tell_refusal.result
    (λ told rest. combined_told (reading_of g.K.Validate.shape (completed m rest) nodes) h.node (k rest) (stand_of there) (size_of h) c.in_ok-accepts_combined.field-0 (once rest)
    (keyword_told _ h.place _ _ (k rest) c.in_ok-accepts_combined.field-0 true c.args.combination (map call_of (drop c.args.start c.args.questions.now.items)) (one_is_right (k rest) (once rest)) refl (c.requires.combination rest) (c.requires.asked rest).calls
    (c.in_ok-accepts_combined.ensures.verdict rest)) c.args.observer.now c.hear.new.self c.tell_refusal.new.observer refused unheard
    (subst (λ (n : Matches). Hearing (stand_of there) (size_of h) (one_told (reading_of g.K.Validate.shape (completed n rest) nodes) h.node (rule (completed n rest) (value_at h.place) (g.K.Validate.shape c.args.keyword.now))) c.hear.new.self c.tell_refusal.new.observer)
    c.in_ok-accepts_combined.ensures.matches (told rest)))
    c.tell_refusal.ensures.heard

-- ---- the one fault

pub tell_refusal-tell_branches-requires : goal.tell_refusal-tell_branches-requires
tell_refusal-tell_branches-requires g t c κs within =
    let h = c.args.there.now.here in
    let nodes = h.graph.now.nodes.items in
    let k = c.args.keyword.now in (
      omega arith,
      (
        within.0,
        (
          within.1,
          (
            c.requires.known,
            (
              c.requires.right,
              each_may_ask g.K.Validate.knows g.K.Validate.shape nodes h.node k (g.T.Matching.matches c.args.matching.now) (value_at h.place) c.requires.known c.requires.led c.requires.stands h.graph.now.sound
                  (map call_of (drop c.args.start c.args.questions.now.items)) (λ rest. (c.requires.asked rest).calls),
            ),
          ),
        ),
      ),
    )

pub tell_refusal-tell_branches-requires-in-OneBranch : goal.tell_refusal-tell_branches-requires-in-OneBranch
tell_refusal-tell_branches-requires-in-OneBranch g t c κs within =
    let h = c.args.there.now.here in
    let nodes = h.graph.now.nodes.items in
    let k = c.args.keyword.now in (
      omega arith,
      (
        within.0,
        (
          within.1,
          (
            subst (λ m. AreReady g.K.Validate.knows g.K.Validate.shape m nodes) (sym c.in_ok-accepted-in-OneBranch.ensures.matches) c.requires.known,
            (
              c.requires.right,
              subst (λ qs. EachMayAsk (g.T.Matching.matches c.count_accepted-in-OneBranch.new.matching) nodes (rank_at nodes h.node) (value_at h.place) (map call_of (drop c.args.start qs))) (sym c.in_ok-accepted-in-OneBranch.ensures.questions)
                  (subst (λ m. EachMayAsk m nodes (rank_at nodes h.node) (value_at h.place) (map call_of (drop c.args.start c.args.questions.now.items))) (sym c.in_ok-accepted-in-OneBranch.ensures.matches)
                  (each_may_ask g.K.Validate.knows g.K.Validate.shape nodes h.node k (g.T.Matching.matches c.args.matching.now) (value_at h.place) c.requires.known c.requires.led c.requires.stands h.graph.now.sound
                  (map call_of (drop c.args.start c.args.questions.now.items)) (λ rest. (c.requires.asked rest).calls))),
            ),
          ),
        ),
      ),
    )

pub tell_refusal-count_accepted-requires-clause-asked : goal.tell_refusal-count_accepted-requires-clause-asked
tell_refusal-count_accepted-requires-clause-asked g t c =
    let h = c.args.there.now.here in
    let nodes = h.graph.now.nodes.items in
    let k = c.args.keyword.now in
    each_may_ask g.K.Validate.knows g.K.Validate.shape nodes h.node k (g.T.Matching.matches c.args.matching.now) (value_at h.place) c.requires.known c.requires.led c.requires.stands h.graph.now.sound
    (map call_of (drop c.args.start c.args.questions.now.items)) (λ rest. (c.requires.asked rest).calls)

pub tell_refusal-count_accepted-requires-in-OneBranch-clause-asked : goal.tell_refusal-count_accepted-requires-in-OneBranch-clause-asked
tell_refusal-count_accepted-requires-in-OneBranch-clause-asked g t c =
    let h = c.args.there.now.here in
    let nodes = h.graph.now.nodes.items in
    let k = c.args.keyword.now in
    each_may_ask g.K.Validate.knows g.K.Validate.shape nodes h.node k (g.T.Matching.matches c.args.matching.now) (value_at h.place) c.requires.known c.requires.led c.requires.stands h.graph.now.sound
    (map call_of (drop c.args.start c.args.questions.now.items)) (λ rest. (c.requires.asked rest).calls)

pub tell_refusal-returns-in-Counted-clause-heard : goal.tell_refusal-returns-in-Counted-clause-heard
tell_refusal-returns-in-Counted-clause-heard g t c =
    let there = c.args.there.now in
    let h = there.here in
    let nodes = h.graph.now.nodes.items in
    let m = g.T.Matching.matches c.args.matching.now in
    let added = g.K.Validate.added c.args.keyword.now in
    let xs = drop c.args.start c.args.questions.now.items in
    on_ok_weaker c.tell.result
    (λ told rest. counted_told (reading_of g.K.Validate.shape (completed m rest) nodes) h.node (rule (completed m rest) (value_at h.place) (g.K.Validate.shape c.args.keyword.now)) there.situation (stand_of there) (size_of h) refl refl c.requires.right.path c.requires.right.value
    added xs (c.requires.asked rest) c.refused_name-name.result.now c.args.observer.now c.tell.new.observer c.in_ok-accepted.accepted _ _ kind.Contains
    (sym (c.requires.combination rest) ∙ c.in-Counted.is) (c.refused_name-name.ensures (completed m rest) (value_at h.place)) (c.in_ok-accepted.ensures.counted rest) (record { kind = refl; proper = refl }) told)
    c.tell.ensures

pub tell_refusal-returns-then-branch-clause-heard : goal.tell_refusal-returns-then-branch-clause-heard
tell_refusal-returns-then-branch-clause-heard g t c rest =
    let there = c.args.there.now in
    let h = there.here in
    let m = g.T.Matching.matches c.args.matching.now in
    paths_told (reading_of g.K.Validate.shape (completed m rest) h.graph.now.nodes.items) h.node (rule (completed m rest) (value_at h.place) (g.K.Validate.shape c.args.keyword.now)) there.situation (stand_of there) (size_of h) refl refl c.requires.right.path c.requires.right.value
    (g.K.Validate.added c.args.keyword.now) (drop c.args.start c.args.questions.now.items) (c.requires.asked rest) c.refused_name-name-2.result.now c.args.observer.now c.tell_paths.new.observer c.args.combination
    (c.requires.combination rest) c.requires.once c.in_default.not-Counted (c.refused_name-name-2.ensures (completed m rest) (value_at h.place)) (c.in_ok-tell_paths.ensures.told c.if-branch.true)

pub tell_refusal-returns-in_ok-context-in-SomeBranch-clause-heard : goal.tell_refusal-returns-in_ok-context-in-SomeBranch-clause-heard
tell_refusal-returns-in_ok-context-in-SomeBranch-clause-heard g t c =
    let there = c.args.there.now in
    let h = there.here in
    let nodes = h.graph.now.nodes.items in
    let m = g.T.Matching.matches c.args.matching.now in
    let added = g.K.Validate.added c.args.keyword.now in
    let xs = drop c.args.start c.args.questions.now.items in
    let unheard = c.in_ok-tell_paths.ensures.untold c.if-branch.false in
    on_ok_weaker c.tell-in-SomeBranch.result
    (λ told rest. some_told (reading_of g.K.Validate.shape (completed m rest) nodes) h.node (rule (completed m rest) (value_at h.place) (g.K.Validate.shape c.args.keyword.now)) there.situation (stand_of there) (size_of h) refl refl c.requires.right.path c.requires.right.value
    added xs (c.requires.asked rest) c.refused_name-name-2.result.now c.args.observer.now c.tell-in-SomeBranch.new.observer c.in_ok-context-in-SomeBranch.context.items c.any_of.result
    (sym (c.requires.combination rest) ∙ c.in-SomeBranch.is) (c.refused_name-name-2.ensures (completed m rest) (value_at h.place)) c.any_of.ensures (c.in_ok-context-in-SomeBranch.ensures.branches rest)
    (tells_after there.situation (at c.refused_name-name-2.result.now) c.any_of.result (view there.situation.value.now) c.args.observer.now c.tell_paths.new.observer c.tell-in-SomeBranch.new.observer unheard told))
    c.tell-in-SomeBranch.ensures

pub tell_refusal-returns-in_ok-context-in-OneBranch-clause-heard : goal.tell_refusal-returns-in_ok-context-in-OneBranch-clause-heard
tell_refusal-returns-in_ok-context-in-OneBranch-clause-heard g t c =
    let there = c.args.there.now in
    let h = there.here in
    let nodes = h.graph.now.nodes.items in
    let m = g.T.Matching.matches c.args.matching.now in
    let added = g.K.Validate.added c.args.keyword.now in
    let xs = drop c.args.start c.args.questions.now.items in
    let errors = λ (rest : Answers). subst (λ (n : Matches). AreErrorsOf (stand_of there) (size_of h) (question_faults (reading_of g.K.Validate.shape (completed n rest) nodes) added) xs c.in_ok-context-in-OneBranch.context.items) c.in_ok-accepted-in-OneBranch.ensures.matches
    (subst (λ qs. AreErrorsOf (stand_of there) (size_of h) (question_faults (reading_of g.K.Validate.shape (completed (g.T.Matching.matches c.count_accepted-in-OneBranch.new.matching) rest) nodes) added) (drop c.args.start qs) c.in_ok-context-in-OneBranch.context.items)
    c.in_ok-accepted-in-OneBranch.ensures.questions (c.in_ok-context-in-OneBranch.ensures.branches rest)) in
    let unheard = c.in_ok-tell_paths.ensures.untold c.if-branch.false in
    on_ok_weaker c.tell-in-OneBranch.result
    (λ told rest. one_branch_told (reading_of g.K.Validate.shape (completed m rest) nodes) h.node (rule (completed m rest) (value_at h.place) (g.K.Validate.shape c.args.keyword.now)) there.situation (stand_of there) (size_of h) refl refl c.requires.right.path c.requires.right.value
    added xs (c.requires.asked rest) c.refused_name-name-2.result.now c.args.observer.now c.tell-in-OneBranch.new.observer c.in_ok-accepted-in-OneBranch.accepted c.in_ok-context-in-OneBranch.context.items c.one_of-kind.result
    (sym (c.requires.combination rest) ∙ c.in-OneBranch.is) (c.refused_name-name-2.ensures (completed m rest) (value_at h.place)) (c.in_ok-accepted-in-OneBranch.ensures.counted rest) c.one_of-kind.ensures (errors rest)
    (tells_after there.situation (at c.refused_name-name-2.result.now) c.one_of-kind.result (view there.situation.value.now) c.args.observer.now c.tell_paths.new.observer c.tell-in-OneBranch.new.observer unheard told))
    c.tell-in-OneBranch.ensures

pub tell_refusal-returns-in_ok-reason-in_default-combination-clause-heard : goal.tell_refusal-returns-in_ok-reason-in_default-combination-clause-heard
tell_refusal-returns-in_ok-reason-in_default-combination-clause-heard g t c =
    let there = c.args.there.now in
    let h = there.here in
    let nodes = h.graph.now.nodes.items in
    let m = g.T.Matching.matches c.args.matching.now in
    let shape = g.K.Validate.shape c.args.keyword.now in
    let xs = drop c.args.start c.args.questions.now.items in
    let own = ap (λ (ys : List Question). take (length ys - c.args.start) (drop c.args.start ys)) c.deref.ensures.value ∙ rest_whole c.args.start c.args.questions.now.items in
    let are = λ (rest : Answers). subst (λ d. AreOf (rule (completed m rest) d shape) (take (length c.deref.result.now - c.args.start) (drop c.args.start c.deref.result.now))) (sym c.requires.right.value)
    (ap (map call_of) own ∙ (c.requires.asked rest).calls) in
    let says = λ (rest : Answers). subst (λ d. IsReason (rule (completed m rest) d shape) (view there.situation.value.now) c.in_ok-reason-in_default-combination.reason) c.requires.right.value (c.in_ok-reason-in_default-combination.ensures (completed m rest) (are rest)) in
    let unheard = c.in_ok-tell_paths.ensures.untold c.if-branch.false in
    let reason = c.in_ok-reason-in_default-combination.reason in
    on_ok_weaker c.tell-in_default-combination.result
    (λ told rest. reason_told (reading_of g.K.Validate.shape (completed m rest) nodes) h.node (rule (completed m rest) (value_at h.place) shape) there.situation (stand_of there) (size_of h) refl refl c.requires.right.path c.requires.right.value
    (g.K.Validate.added c.args.keyword.now) xs (c.requires.asked rest) c.refused_name-name-2.result.now c.args.observer.now c.tell-in_default-combination.new.observer c.args.combination reason
    (c.requires.combination rest) c.requires.once c.in_default-combination.not-SomeBranch c.in_default-combination.not-OneBranch c.in_default.not-Counted (c.refused_name-name-2.ensures (completed m rest) (value_at h.place)) (says rest)
    (tells_after there.situation (at c.refused_name-name-2.result.now) reason.kind (view reason.value.now) c.args.observer.now c.tell_paths.new.observer c.tell-in_default-combination.new.observer unheard told))
    c.tell-in_default-combination.ensures

-- ---- the errors of branches

pub tell_branches-tell_question-requires : goal.tell_branches-tell_question-requires
tell_branches-tell_question-requires g t c κs within =
    let h = c.args.there.now.here in
    let nodes = h.graph.now.nodes.items in
    let l = c.loop-index in
    let asked = subst (λ m. EachMayAsk m nodes (rank_at nodes h.node) (value_at h.place) (map call_of (drop c.args.start l.questions.items))) (sym l.invariant.matches)
    (subst (λ qs. EachMayAsk (g.T.Matching.matches c.args.matching.now) nodes (rank_at nodes h.node) (value_at h.place) (map call_of (drop c.args.start qs))) (sym l.invariant.questions) c.requires.asked) in
    let short : l.index < length l.questions.items = (let e = ap length l.invariant.questions in omega arith) in (
      omega arith,
      (
        within.0,
        (
          within.1,
          (
            subst (λ m. AreReady g.K.Validate.knows g.K.Validate.shape m nodes) (sym l.invariant.matches) c.requires.known,
            (c.requires.right, may_ask_one nodes _ _ c.args.start l.index l.questions.items c.index-question.result.now asked (omega arith) short c.index-question.ensures),
          ),
        ),
      ),
    )

pub tell_branches-loop-index-preserved : goal.tell_branches-loop-index-preserved
tell_branches-loop-index-preserved g t c =
    let there = c.args.there.now in
    let h = there.here in
    let nodes = h.graph.now.nodes.items in
    let s = stand_of there in
    let l = c.loop-index in
    let m = g.T.Matching.matches c.args.matching.now in
    let added = g.K.Validate.added c.args.keyword.now in
    let q = c.index-question.result.now in
    let qs = c.args.questions.now.items in
    let short : l.index < length qs = (let e = ap length l.invariant.questions in omega arith) in
    let is : q ≡ get_or qs l.index q = subst (λ (xs : List Question). q ≡ get_or xs l.index q) l.invariant.questions c.index-question.ensures in
    let heard = λ (rest : Answers). subst (λ (m : Matches). Hearing s (size_of h) (λ x. question_faults (reading_of g.K.Validate.shape (completed m rest) nodes) added x q) (observer.All c.new.result) c.tell_question.new.observer) l.invariant.matches (c.in_ok-tell_question.ensures.heard rest) in
    record {
      matches = c.in_ok-tell_question.ensures.matches ∙ l.invariant.matches;
      questions = c.in_ok-tell_question.ensures.questions ∙ l.invariant.questions;
      left = λ rest. branches_next s (size_of h) (question_faults (reading_of g.K.Validate.shape (completed m rest) nodes) added) (drop c.args.start qs) qs l.index q l.context.items c.push.new.self.items c.all_heard.result
          (observer.All c.new.result) c.tell_question.new.observer short is c.new.ensures (heard rest) c.all_heard.ensures c.in_ok-push.ensures.items (l.invariant.left rest);
    }

pub tell_branches-returns-clause-branches : goal.tell_branches-returns-clause-branches
tell_branches-returns-clause-branches g t c =
    let h = c.args.there.now.here in
    let l = c.loop-index in
    let m = g.T.Matching.matches c.args.matching.now in
    let past : length c.args.questions.now.items ≤ l.index = omega arith in
    λ rest. branches_done (stand_of c.args.there.now) (size_of h) (question_faults (reading_of g.K.Validate.shape (completed m rest) h.graph.now.nodes.items) (g.K.Validate.added c.args.keyword.now))
    (drop c.args.start c.args.questions.now.items) c.args.questions.now.items l.index l.context.items past (l.invariant.left rest)

-- ---- a question

pub tell_question-returns-in-Whole-clause-heard : goal.tell_question-returns-in-Whole-clause-heard
tell_question-returns-in-Whole-clause-heard g t c =
    on_ok_weaker c.tell_step.result
    (λ told rest. (told rest).hears _ (c.push_name-evaluation.ensures ∙ ap (λ p. p ++ location_of c.args.there.now.situation.evaluation.now) (sym (ap parts_of c.in-Whole.is) ∙ c.entry.ensures)))
    c.tell_step.ensures.heard

pub tell_question-returns-in-Name-clause-heard : goal.tell_question-returns-in-Name-clause-heard
tell_question-returns-in-Name-clause-heard g t c =
    on_ok_weaker c.tell_step-in-Name.result
    (λ told rest. (told rest).hears _ (c.push_name-evaluation-in-Name.ensures ∙ ap (λ p. name c.in-Name.name.now ∷ p) c.push_name-whole.ensures
    ∙ ap (λ p. p ++ location_of c.args.there.now.situation.evaluation.now) (sym (ap parts_of c.in-Name.is) ∙ c.entry.ensures)))
    c.tell_step-in-Name.ensures.heard

pub tell_question-returns-in-Index-clause-heard : goal.tell_question-returns-in-Index-clause-heard
tell_question-returns-in-Index-clause-heard g t c =
    on_ok_weaker c.tell_step-in-Index.result
    (λ told rest. (told rest).hears _ (c.push_index-evaluation.ensures ∙ ap (λ p. index c.in-Index.index ∷ p) c.push_name-whole-in-Index.ensures
    ∙ ap (λ p. p ++ location_of c.args.there.now.situation.evaluation.now) (sym (ap parts_of c.in-Index.is) ∙ c.entry.ensures)))
    c.tell_step-in-Index.ensures.heard

-- ---- a step

pub tell_step-tell_value-requires : goal.tell_step-tell_value-requires
tell_step-tell_value-requires g t c κs within =
    let h = c.args.there.now.here in
    let nodes = h.graph.now.nodes.items in
    let P : Asked → Type 0 = λ a. GoesDown (value_at h.place) (step_of a) in
    let falls = size_down nodes (value_at h.place) (view c.in-Item.item.now) (numbers_in h.progress.now) [] (rank_at nodes h.node) c.args.question.node (subst P c.in-Item.is c.requires.asked.down) in
    let L : Asked → Type 0 = λ a. LedTo (g.T.Matching.matches c.args.matching.now) c.args.question.node (value_after (value_at h.place) (step_of a)) in
    (omega arith, (within.0, (within.1, (c.requires.known, (c.requires.asked.below, (path_here nodes c.args.question.node _ c.requires.asked.below c.index.ensures, subst L c.in-Item.is c.requires.asked.led))))))

pub tell_step-tell_value-requires-in-Member : goal.tell_step-tell_value-requires-in-Member
tell_step-tell_value-requires-in-Member g t c κs within =
    let h = c.args.there.now.here in
    let nodes = h.graph.now.nodes.items in
    let P : Asked → Type 0 = λ a. GoesDown (value_at h.place) (step_of a) in
    let falls = size_down nodes (value_at h.place) (view c.in-Member.member.now) (numbers_in h.progress.now) [] (rank_at nodes h.node) c.args.question.node (subst P c.in-Member.is c.requires.asked.down) in
    let L : Asked → Type 0 = λ a. LedTo (g.T.Matching.matches c.args.matching.now) c.args.question.node (value_after (value_at h.place) (step_of a)) in
    (omega arith, (within.0, (within.1, (c.requires.known, (c.requires.asked.below, (path_here nodes c.args.question.node _ c.requires.asked.below c.index.ensures, subst L c.in-Member.is c.requires.asked.led))))))

pub tell_step-tell_name-requires : goal.tell_step-tell_name-requires
tell_step-tell_name-requires g t c κs within =
    let h = c.args.there.now.here in
    let nodes = h.graph.now.nodes.items in
    let P : Asked → Type 0 = λ a. GoesDown (value_at h.place) (step_of a) in
    let falls = size_down nodes (value_at h.place) (value_at (place.Name c.in-Name.name)) (numbers_in h.progress.now) [] (rank_at nodes h.node) c.args.question.node (subst P c.in-Name.is c.requires.asked.down) in
    let L : Asked → Type 0 = λ a. LedTo (g.T.Matching.matches c.args.matching.now) c.args.question.node (value_after (value_at h.place) (step_of a)) in
    (omega arith, (within.0, (within.1, (c.requires.known, (c.requires.asked.below, (path_here nodes c.args.question.node _ c.requires.asked.below c.index.ensures, subst L c.in-Name.is c.requires.asked.led))))))

pub tell_step-returns-then-question-clause-heard : goal.tell_step-returns-then-question-clause-heard
tell_step-returns-then-question-clause-heard g t c =
    on_ok_weaker c.tell_target.result
    (λ told rest. hears_as _ c.args.there.now _ c.args.question.node stay (step_of c.args.question.asked) true c.args.question.follows _ _ (sym (ap step_of c.in-Here.is)) (sym c.if-question.true) (told rest))
    c.tell_target.ensures.heard

pub tell_step-returns-else-question-clause-heard : goal.tell_step-returns-else-question-clause-heard
tell_step-returns-else-question-clause-heard g t c =
    on_ok_weaker c.tell_inside.result
    (λ told rest. hears_as _ c.args.there.now _ c.args.question.node stay (step_of c.args.question.asked) false c.args.question.follows _ _ (sym (ap step_of c.in-Here.is)) (sym c.if-question.false) (told rest))
    c.tell_inside.ensures.heard

pub tell_step-returns-in-Item-clause-heard : goal.tell_step-returns-in-Item-clause-heard
tell_step-returns-in-Item-clause-heard g t c =
    let there = c.args.there.now in
    let h = there.here in
    let nodes = h.graph.now.nodes.items in
    let q = c.args.question in
    let P : Asked → Type 0 = λ a. GoesDown (value_at h.place) (step_of a) in
    let falls = size_down nodes (value_at h.place) (view c.in-Item.item.now) (numbers_in h.progress.now) [] (rank_at nodes h.node) q.node (subst P c.in-Item.is c.requires.asked.down) in
    let plain : q.follows ≡ false = follows_none (step_of q.asked) q.follows c.requires.asked.stays (λ e. (let f = sym (ap step_of c.in-Item.is) ∙ e in cc)) in
    on_ok_weaker c.tell_value.result
    (λ told rest. hears_as _ there _ q.node (step_of (asked.Item c.in-Item.index c.in-Item.item)) (step_of q.asked) false q.follows _ _ (sym (ap step_of c.in-Item.is)) (sym plain)
    (step_heard _ there (location_of c.args.evaluation.now) q.node (step_of (asked.Item c.in-Item.index c.in-Item.item)) _ _ _ _ (leads_to_item (stand_of there) (location_of c.args.evaluation.now) c.in-Item.index c.in-Item.item _ c.push_index-instance.ensures) falls (told rest)))
    c.tell_value.ensures.heard

pub tell_step-returns-in-Member-clause-heard : goal.tell_step-returns-in-Member-clause-heard
tell_step-returns-in-Member-clause-heard g t c =
    let there = c.args.there.now in
    let h = there.here in
    let nodes = h.graph.now.nodes.items in
    let q = c.args.question in
    let P : Asked → Type 0 = λ a. GoesDown (value_at h.place) (step_of a) in
    let falls = size_down nodes (value_at h.place) (view c.in-Member.member.now) (numbers_in h.progress.now) [] (rank_at nodes h.node) q.node (subst P c.in-Member.is c.requires.asked.down) in
    let plain : q.follows ≡ false = follows_none (step_of q.asked) q.follows c.requires.asked.stays (λ e. (let f = sym (ap step_of c.in-Member.is) ∙ e in cc)) in
    on_ok_weaker c.tell_value-in-Member.result
    (λ told rest. hears_as _ there _ q.node (step_of (asked.Member c.in-Member.name c.in-Member.member)) (step_of q.asked) false q.follows _ _ (sym (ap step_of c.in-Member.is)) (sym plain)
    (step_heard _ there (location_of c.args.evaluation.now) q.node (step_of (asked.Member c.in-Member.name c.in-Member.member)) _ _ _ _ (leads_to_member (stand_of there) (location_of c.args.evaluation.now) c.in-Member.name.now c.in-Member.member _ c.push_name-instance.ensures) falls (told rest)))
    c.tell_value-in-Member.ensures.heard

pub tell_step-returns-in-Name-clause-heard : goal.tell_step-returns-in-Name-clause-heard
tell_step-returns-in-Name-clause-heard g t c =
    let there = c.args.there.now in
    let h = there.here in
    let nodes = h.graph.now.nodes.items in
    let q = c.args.question in
    let P : Asked → Type 0 = λ a. GoesDown (value_at h.place) (step_of a) in
    let down = subst P c.in-Name.is c.requires.asked.down in
    let falls = size_down nodes (value_at h.place) (value_at (place.Name c.in-Name.name)) (numbers_in h.progress.now) [] (rank_at nodes h.node) q.node down in
    let plain : q.follows ≡ false = follows_none (step_of q.asked) q.follows c.requires.asked.stays (λ e. (let f = sym (ap step_of c.in-Name.is) ∙ e in cc)) in
    on_ok_weaker c.tell_name.result
    (λ told rest. hears_as _ there _ q.node (step_of (asked.Name c.in-Name.name)) (step_of q.asked) false q.follows _ _ (sym (ap step_of c.in-Name.is)) (sym plain)
    (step_heard _ there (location_of c.args.evaluation.now) q.node (step_of (asked.Name c.in-Name.name)) _ _ _ _ (leads_to_name (stand_of there) (location_of c.args.evaluation.now) c.in-Name.name down) falls (told rest)))
    c.tell_name.ensures.heard

-- ---- another schema of the keyword

pub tell_inside-tell_node-requires : goal.tell_inside-tell_node-requires
tell_inside-tell_node-requires g t c κs within =
    let h = c.args.there.now.here in
    let nodes = h.graph.now.nodes.items in
    let falls = size_inside nodes (value_at h.place) (numbers_in h.progress.now) (rank_at nodes h.node) (rank_at nodes c.args.node) c.requires.falls in
    (omega arith, (within.0, (within.1, (c.requires.known, (record { value = c.requires.right.value; path = path_here nodes c.args.node _ c.requires.there c.index.ensures }, (c.requires.there, c.requires.led))))))

pub tell_inside-returns-clause-heard : goal.tell_inside-returns-clause-heard
tell_inside-returns-clause-heard g t c =
    let there = c.args.there.now in
    let h = there.here in
    let nodes = h.graph.now.nodes.items in
    let falls = size_inside nodes (value_at h.place) (numbers_in h.progress.now) (rank_at nodes h.node) (rank_at nodes c.args.node) c.requires.falls in
    on_ok_weaker c.tell_node.result
    (λ told rest. step_heard _ there (location_of c.args.evaluation.now) c.args.node stay _ _ _ _ (leads_inside (stand_of there) (location_of c.args.evaluation.now)) falls (told rest))
    c.tell_node.ensures.heard

-- ---- the target of a reference

pub tell_target-returns-then-is_in_progress-clause-heard : goal.tell_target-returns-then-is_in_progress-clause-heard
tell_target-returns-then-is_in_progress-clause-heard g t c =
    λ rest. back_heard g.K.Validate.shape _ c.args.there.now.here.graph.now.nodes.items c.args.there.now _ c.args.target c.args.observer.now (sym c.is_in_progress.ensures ∙ c.if-is_in_progress.true)

pub tell_target-tell_node-requires : goal.tell_target-tell_node-requires
tell_target-tell_node-requires g t c κs within =
    let h = c.args.there.now.here in
    let nodes = h.graph.now.nodes.items in
    let fresh : is_among c.args.target (numbers_in h.progress.now) ≡ false = sym c.is_in_progress.ensures ∙ c.if-is_in_progress.false in
    let d = value_at h.place in
    let enough = size nodes d (numbers_in h.progress.now) (rank_at nodes h.node) in
    let falls = subst (λ ms. size nodes d ms (rank_at nodes c.args.target) < enough) (sym c.enter-entered.ensures)
    (size_target nodes d (numbers_in h.progress.now) (rank_at nodes h.node) c.args.target c.requires.there fresh) in
    (omega arith, (within.0, (within.1, (c.requires.known, (record { value = c.requires.right.value; path = path_here nodes c.args.target _ c.requires.there c.index.ensures }, (c.requires.there, c.requires.led))))))

pub tell_target-returns-clause-heard : goal.tell_target-returns-clause-heard
tell_target-returns-clause-heard g t c =
    let there = c.args.there.now in
    let h = there.here in
    let nodes = h.graph.now.nodes.items in
    let fresh : is_among c.args.target (numbers_in h.progress.now) ≡ false = sym c.is_in_progress.ensures ∙ c.if-is_in_progress.false in
    let falls = size_target nodes (value_at h.place) (numbers_in h.progress.now) (rank_at nodes h.node) c.args.target c.requires.there fresh in
    let road = location_of c.args.evaluation.now in
    on_ok_weaker c.tell_node.result
    (λ told rest. target_heard g.K.Validate.shape _ nodes there road c.args.target _ _ _ fresh falls
    (subst
    (λ ms. Hearing (record { place = h.place; progress = ms; path = (stand_of there).path; road = road }) (suc (size nodes (value_at h.place) ms (rank_at nodes c.args.target)))
    (node_faults (reading_of g.K.Validate.shape (completed (g.T.Matching.matches c.args.matching.now) rest) nodes) c.args.target) c.args.observer.now c.tell_node.new.observer) c.enter-entered.ensures (told rest)))
    c.tell_node.ensures.heard

-- ---- a name

pub tell_name-tell_node-requires : goal.tell_name-tell_node-requires
tell_name-tell_node-requires g t c κs within =
    let nodes = c.args.graph.now.nodes.items in
    let known : AreReady g.K.Validate.knows g.K.Validate.shape (g.T.Matching.matches c.args.matching.now) nodes = first_of (assumption, search rules) in
    let led : LedTo (g.T.Matching.matches c.args.matching.now) c.args.node (string c.args.name.now) = first_of (assumption, search rules) in
    let there : c.args.node < length nodes = first_of (assumption, search rules) in
    let path : c.args.object.schema.now ≡ path_at nodes c.args.node = first_of (assumption, search rules) in
    let text = json.String c.in_ok-from_str.field-0 in
    let viewed : view text ≡ string (string_bytes c.in_ok-from_str.field-0) = search (rules, the_lemmas) in
    let is : view text ≡ string c.args.name.now = viewed ∙ ap string c.in_ok-from_str.ensures.ok in
    (omega (arith, c.requires.1.0), (within.0, (within.1, (known, (record { value = is; path = path }, (there, led))))))

pub tell_name-returns-clause-heard : goal.tell_name-returns-clause-heard
tell_name-returns-clause-heard g t c =
    on_ok_weaker c.absorb.result
    (λ absorbs rest. record {
      hears = λ x at deep.
          hears_absorbed (λ fs. fs) _ c.args.observer.now c.fresh-heard.result c.tell_node.new.observer c.absorb.new.self c.fresh-heard.ensures ((c.in_ok-tell_node.ensures.heard rest).hears x at deep) absorbs;
    })
    c.absorb.ensures

pub tell_each-loop-index-preserved : goal.tell_each-loop-index-preserved
tell_each-loop-index-preserved g t c =
    let there = c.args.there.now in
    let h = there.here in
    let nodes = h.graph.now.nodes.items in
    let s = stand_of there in
    let l = c.loop-index in
    let m = g.T.Matching.matches c.args.matching.now in
    let added = g.K.Validate.added c.args.keyword.now in
    let q = c.index-question.result.now in
    let qs = c.args.questions.now.items in
    let short : l.index < length qs = (let e = ap length l.invariant.questions in omega arith) in
    let is : q ≡ get_or qs l.index q = subst (λ (xs : List Question). q ≡ get_or xs l.index q) l.invariant.questions c.index-question.ensures in
    let same : q.beside ≡ c.args.beside = search rules in
    let heard = λ (rest : Answers). subst (λ (m : Matches). Hearing s (size_of h) (λ x. question_faults (reading_of g.K.Validate.shape (completed m rest) nodes) added x q) l.observer c.tell_question.new.observer) l.invariant.matches (c.in_ok-tell_question.ensures.heard rest) in
    record {
      matches = c.in_ok-tell_question.ensures.matches ∙ l.invariant.matches;
      questions = c.in_ok-tell_question.ensures.questions ∙ l.invariant.questions;
      left = λ rest. beside_next s (size_of h) (question_faults (reading_of g.K.Validate.shape (completed m rest) nodes) added) (drop c.args.start qs) qs l.index c.args.beside q c.args.observer.now l.observer c.tell_question.new.observer
          short is same (heard rest) (l.invariant.left rest);
    }

pub tell_each-loop-index-preserved-then-question-beside : goal.tell_each-loop-index-preserved-then-question-beside
tell_each-loop-index-preserved-then-question-beside g t c =
    let there = c.args.there.now in
    let h = there.here in
    let nodes = h.graph.now.nodes.items in
    let s = stand_of there in
    let l = c.loop-index in
    let m = g.T.Matching.matches c.args.matching.now in
    let added = g.K.Validate.added c.args.keyword.now in
    let q = c.index-question.result.now in
    let qs = c.args.questions.now.items in
    let short : l.index < length qs = (let e = ap length l.invariant.questions in omega arith) in
    let is : q ≡ get_or qs l.index q = subst (λ (xs : List Question). q ≡ get_or xs l.index q) l.invariant.questions c.index-question.ensures in
    let other : q.beside ≡ c.args.beside → ⊥ = search rules in
    record {
      matches = l.invariant.matches;
      questions = l.invariant.questions;
      left = λ rest. beside_skipped s (size_of h) (question_faults (reading_of g.K.Validate.shape (completed m rest) nodes) added) (drop c.args.start qs) qs l.index c.args.beside q c.args.observer.now l.observer short is other (l.invariant.left rest);
    }

pub tell_keyword-returns-clause-questions : goal.tell_keyword-returns-clause-questions
tell_keyword-returns-clause-questions g t c =
    let kept = (c.in_ok-questions.ensures.pushed none_matched).kept in
    let same = c.in_ok-tell_by_rule.ensures.questions in
    search rules
