use Rattle.std.proofs.Common.{rules, string_bytes, arith, ◌≡◌, ℕ, List, [], ◌∷◌, Bool, true, false, not, length, refl, sym, ap, ap₂, ◌∙◌, subst, ◌+◌, Bor, drop}
use Rattle.std.proofs.lemmas.List.{drop_more, drop_all, length-drop}
use Rattle.std.proofs.lemmas.Result.{IfOk-weaker, IfErr-weaker, err_from_is_err_and}
use Rattle.std.proofs.Math.Logic.{∥∥₁_map}
use Rattle.serde_json.proofs.Views.{view-Object}
use Rattle.serde_json.specs.Data.{member, object, string, boolean}
use Rattle.serde_json.specs.View.{view, members_view}
use Rattle.serde_json.specs.declared.value.Value.{Value, the_lemmas}
use Rattle.serde_json.specs.declared.value.Value.TheVariants as json
use Rattle.json_values.specs.Parts.{Part}
use Rattle.schema_meaning.specs.Members.{In, first, is_empty}
use Rattle.schema_meaning.specs.Cut.{is_in_progress}
use Rattle.schema_definitions.specs.AllKeys.{spots_in}
use Rattle.schema_definitions.specs.Scopes.{entered_scope}
use Rattle.schema_patterns.specs.Read.{reads}
use Rattle.applicators.specs.Combined.{notes_by, decided}
use Rattle.applicators.specs.Combining.{decided_by}
use Rattle.applicators.specs.declared.combining.Combining.{Combining}
use Rattle.applicators.specs.Questions.{step_of}
use Rattle.applicators.specs.declared.question.Question.{Question}
use Rattle.applicators.specs.declared.question.Asked.TheVariants as asking
use Rattle.document_index.specs.Seen as seen
use Rattle.schema_sites.specs.Passed.{assertion_of, base_of, scope_of, target_in}
use Rattle.schema_sites.specs.References.{kind_of, name_of}
use Rattle.schema_sites.specs.Seen.{documents_at}
use Rattle.plain_reader.specs.Spots.{spots_of}
use Rattle.plain_reader.specs.Keys.{key, keys_in}
use Rattle.plain_reader.specs.Readings.{path_in}
use Rattle.plain_reader.specs.Applied.{AreAsked}
use Rattle.plain_reader.specs.Combined.{settles}
use Rattle.plain_reader.specs.Shapes.{keyword_leads, keyword_shapes}
use Rattle.plain_reader.proofs.Left.{MembersLeft, QuestionsLeft, CountLeft}
use Rattle.plain_reader.proofs.LookedLemmas.{looked_up_lies}
use Rattle.plain_reader.proofs.Reading.{member_inside}
use Rattle.plain_reader.proofs.MemberVerdicts.{members_first, members_step, members_refused, members_last, members_listed}
use Rattle.plain_reader.proofs.KeywordVerdicts.{nothing_accepts, assertion_accepts, pattern_accepts, noted_refuses, every_accepts, applicator_accepts, choice_accepts, reference_accepts, member_accepts, refused_accepts, object_accepts, false_refuses, other_accepts}
use Rattle.plain_reader.proofs.ChoiceVerdicts.{value_part, asked_inside_of, some_inside, then_accepts, else_accepts, beside_accepts, none_accepts}
use Rattle.plain_reader.proofs.ChildVerdicts.{Child, child_shallow}
use Rattle.plain_reader.proofs.QuestionVerdicts.{part_within, asks_inside, question_inside, question_part, of_value, of_item, of_member, of_name, question_accepts, questions_init, questions_step, questions_refused, questions_done}
use Rattle.plain_reader.proofs.Counting.{count_first, count_yes, count_no, count_done, count_settled, combined_accepts}
use Rattle.plain_reader.proofs.NameVerdicts.{are_uncalled, name_falls, stands_alone, name_accepts}
use Rattle.plain_reader.proofs.TargetVerdicts.{target_deeper, target_accepts, falls_by_target, shallow_by_target, at_target_accepts}
use Rattle.plain_reader.proofs.+read.Goals.{read::accepts_member-in-Memory, read::accepts_member-in_default, applied::count_accepted-then-branch, applied::count_accepted-else-branch}
use Rattle.plain_reader.proofs.ReturnLemmas.{stops_by}
use Rattle.plain_reader.proofs.KeywordReturns as returns
use Rattle.plain_reader.proofs.+read.Goals as goal

not_empty : (e b : Bool) → b ≡ not e → b ≡ true → e ≡ false
not_empty true b is said = cc
not_empty false b is said = refl

is_plain : (e b : Bool) → b ≡ not e → b ≡ false → e ≡ true
is_plain true b is said = refl
is_plain false b is said = cc

-- ---- a schema

pub read::accepts_schema-returns-in-Bool-true-clause-accepts : goal.read::accepts_schema-returns-in-Bool-true-clause-accepts
read::accepts_schema-returns-in-Bool-true-clause-accepts t c =
    let r = c.args.reading.now in
    let is : view r.site.now.contents.now ≡ boolean true = rw c.in-Bool-true.is (search (rules, the_lemmas)) in
    other_accepts r.site.now (spots_of r.whole) (view r.value.now) (path_in r) (keys_in r.progress.now) (λ e. absurd (cc)) (λ ms e. absurd (cc))

pub read::accepts_schema-returns-in-Bool-false-clause-accepts : goal.read::accepts_schema-returns-in-Bool-false-clause-accepts
read::accepts_schema-returns-in-Bool-false-clause-accepts t c =
    let r = c.args.reading.now in
    let is : view r.site.now.contents.now ≡ boolean false = rw c.in-Bool-false.is (search (rules, the_lemmas)) in
    false_refuses r.site.now (spots_of r.whole) (view r.value.now) (path_in r) (keys_in r.progress.now) is

pub read::accepts_schema-returns-in-Object-clause-accepts : goal.read::accepts_schema-returns-in-Object-clause-accepts
read::accepts_schema-returns-in-Object-clause-accepts t c =
    let r = c.args.reading.now in
    let ms = members_view c.in-Object.members.entries in
    let is : view r.site.now.contents.now ≡ object ms = ap view c.in-Object.is ∙ view-Object c.in-Object.members in
    IfOk-weaker c.accepts_members.result _ _ (λ b h. object_accepts r.site.now (spots_of r.whole) (view r.value.now) (path_in r) (keys_in r.progress.now) ms b is h) c.accepts_members.ensures.accepts

pub read::accepts_schema-returns-in_default-clause-accepts : goal.read::accepts_schema-returns-in_default-clause-accepts
read::accepts_schema-returns-in_default-clause-accepts t c =
    let r = c.args.reading.now in
    other_accepts r.site.now (spots_of r.whole) (view r.value.now) (path_in r) (keys_in r.progress.now) (search (rules, the_lemmas)) (search (rules, the_lemmas))

-- ---- its members

pub read::accepts_members-loop-name-init : goal.read::accepts_members-loop-name-init
read::accepts_members-loop-name-init t c =
    let r = c.args.reading.now in
    let all = members_view c.args.members.now.entries in
    let begun : c.into_iter-name-iterator.result ≡ c.args.members.now.entries = search rules in
    let same : members_view c.into_iter-name-iterator.result ≡ all = ap (λ es. members_view es) begun in
    record {
      whole = same;
      left = subst (λ ms. MembersLeft r.site.now (spots_of r.whole) (view r.value.now) (path_in r) (keys_in r.progress.now) all ms) (sym same)
          (members_first r.site.now (spots_of r.whole) (view r.value.now) (path_in r) (keys_in r.progress.now) all);
    }

pub read::accepts_members-accepts_member-requires : goal.read::accepts_members-accepts_member-requires
read::accepts_members-accepts_member-requires t c =
    let r = c.args.reading.now in
    let all = members_view c.args.members.now.entries in
    let left_one = subst (λ es. MembersLeft r.site.now (spots_of r.whole) (view r.value.now) (path_in r) (keys_in r.progress.now) all (members_view es)) c.in-Some.ensures.steps c.loop-name.invariant.left in
    let left = subst (λ k. MembersLeft r.site.now (spots_of r.whole) (view r.value.now) (path_in r) (keys_in r.progress.now) all (member k (view c.in-Some.part.now) (members_view c.next.new.self))) (sym c.as_str.ensures.value) left_one in
    (omega arith, (c.requires.members, members_listed r.site.now (spots_of r.whole) (view r.value.now) (path_in r) (keys_in r.progress.now) all (members_view c.next.new.self) _ _ left))

pub read::accepts_members-returns-then-not-branch-clause-accepts : goal.read::accepts_members-returns-then-not-branch-clause-accepts
read::accepts_members-returns-then-not-branch-clause-accepts t c =
    let r = c.args.reading.now in
    let all = members_view c.args.members.now.entries in
    let left_one = subst (λ es. MembersLeft r.site.now (spots_of r.whole) (view r.value.now) (path_in r) (keys_in r.progress.now) all (members_view es)) c.in-Some.ensures.steps c.loop-name.invariant.left in
    let left = subst (λ k. MembersLeft r.site.now (spots_of r.whole) (view r.value.now) (path_in r) (keys_in r.progress.now) all (member k (view c.in-Some.part.now) (members_view c.next.new.self))) (sym c.as_str.ensures.value) left_one in
    members_refused r.site.now (spots_of r.whole) (view r.value.now) (path_in r) (keys_in r.progress.now) all (members_view c.next.new.self) _ _ _ c.if-not-branch.true left c.in_ok-accepts_member.ensures.accepts

pub read::accepts_members-loop-name-preserved : goal.read::accepts_members-loop-name-preserved
read::accepts_members-loop-name-preserved t c =
    let r = c.args.reading.now in
    let all = members_view c.args.members.now.entries in
    let left_one = subst (λ es. MembersLeft r.site.now (spots_of r.whole) (view r.value.now) (path_in r) (keys_in r.progress.now) all (members_view es)) c.in-Some.ensures.steps c.loop-name.invariant.left in
    let left = subst (λ k. MembersLeft r.site.now (spots_of r.whole) (view r.value.now) (path_in r) (keys_in r.progress.now) all (member k (view c.in-Some.part.now) (members_view c.next.new.self))) (sym c.as_str.ensures.value) left_one in
    record {
      whole = c.loop-name.invariant.whole;
      left = members_step r.site.now (spots_of r.whole) (view r.value.now) (path_in r) (keys_in r.progress.now) all (members_view c.next.new.self) _ _ _ c.if-not-branch.false left c.in_ok-accepts_member.ensures.accepts;
    }

pub read::accepts_members-returns-clause-accepts : goal.read::accepts_members-returns-clause-accepts
read::accepts_members-returns-clause-accepts t c =
    let r = c.args.reading.now in
    let all = members_view c.args.members.now.entries in
    members_last r.site.now (spots_of r.whole) (view r.value.now) (path_in r) (keys_in r.progress.now) all
    (subst (λ es. MembersLeft r.site.now (spots_of r.whole) (view r.value.now) (path_in r) (keys_in r.progress.now) all (members_view es)) c.in-None.ensures.steps.0 c.loop-name.invariant.left)

pub read::accepts_member-accepts_keyword-requires : goal.read::accepts_member-accepts_keyword-requires
read::accepts_member-accepts_keyword-requires t c =
    let r = c.args.reading.now in
    let inside = member_inside (view r.site.now.contents.now) (members_view c.args.members.now.entries) c.args.name.now (view c.args.part.now) c.requires.1.1.0 c.requires.1.1.1 in
    (omega arith, (inside, (c.in-Ok.ensures.found, asks_inside r.site.now (members_view c.args.members.now.entries) c.args.name.now (view c.args.part.now) c.in-Ok.keyword c.requires.1.1.0 c.requires.1.1.1 c.in-Ok.ensures.read c.in-Ok.ensures.found)))

pub read::accepts_member-returns-in-Ok-clause-accepts : goal.read::accepts_member-returns-in-Ok-clause-accepts
read::accepts_member-returns-in-Ok-clause-accepts t c =
    let r = c.args.reading.now in
    IfOk-weaker c.accepts_keyword.result _ _
    (λ b h. member_accepts r.site.now (spots_of r.whole) (view r.value.now) (path_in r) (keys_in r.progress.now) (members_view c.args.members.now.entries) c.args.name.now (view c.args.part.now) c.in-Ok.keyword b c.requires.1.1.0 c.requires.1.1.1 c.in-Ok.ensures.read h)
    c.accepts_keyword.ensures.accepts

pub read::accepts_member-returns-after-refusal-clause-accepts : goal.read::accepts_member-returns-after-refusal-clause-accepts
read::accepts_member-returns-after-refusal-clause-accepts t c =
    let r = c.args.reading.now in
    elim c.match-refusal.branch [
      | read::accepts_member-in-Memory w ↦ rw w.result-is (search rules)
      | read::accepts_member-in_default w ↦ rw w.result-is (refused_accepts r.site.now (spots_of r.whole) (view r.value.now) (path_in r) (keys_in r.progress.now) (members_view c.args.members.now.entries) c.args.name.now (view c.args.part.now) c.in-Err.refusal w.in_default.not-Memory c.in-Err.ensures.refused)
    ]

-- ---- a keyword

pub read::accepts_keyword-returns-in-Nothing-clause-accepts : goal.read::accepts_keyword-returns-in-Nothing-clause-accepts
read::accepts_keyword-returns-in-Nothing-clause-accepts t c =
    let r = c.args.reading.now in
    nothing_accepts r.site.now (spots_of r.whole) (view r.value.now) (path_in r) (keys_in r.progress.now) (keyword_leads c.args.keyword) (keyword_shapes c.args.keyword) λ x fits. ap (λ k. keyword_shapes k x) c.in-Nothing.is

pub read::accepts_keyword-returns-in-Consequent-clause-accepts : goal.read::accepts_keyword-returns-in-Consequent-clause-accepts
read::accepts_keyword-returns-in-Consequent-clause-accepts t c =
    let r = c.args.reading.now in
    nothing_accepts r.site.now (spots_of r.whole) (view r.value.now) (path_in r) (keys_in r.progress.now) (keyword_leads c.args.keyword) (keyword_shapes c.args.keyword) λ x fits. ap (λ k. keyword_shapes k x) c.in-Consequent.is

pub read::accepts_keyword-returns-in_ok-accept-in-Assertion-clause-accepts : goal.read::accepts_keyword-returns-in_ok-accept-in-Assertion-clause-accepts
read::accepts_keyword-returns-in_ok-accept-in-Assertion-clause-accepts t c =
    let r = c.args.reading.now in
    assertion_accepts r.site.now (spots_of r.whole) (view r.value.now) (path_in r) (keys_in r.progress.now) c.args.keyword (assertion_of c.in-Assertion.assertion) c.in_ok-accept-in-Assertion.field-0 (λ x. ap (λ k. keyword_shapes k x) c.in-Assertion.is)
    c.in_ok-accept-in-Assertion.ensures

pub read::accepts_keyword-returns-in_ok-accepts_text-in-Pattern-clause-accepts : goal.read::accepts_keyword-returns-in_ok-accepts_text-in-Pattern-clause-accepts
read::accepts_keyword-returns-in_ok-accepts_text-in-Pattern-clause-accepts t c =
    let r = c.args.reading.now in
    pattern_accepts r.site.now (spots_of r.whole) (view r.value.now) (path_in r) (keys_in r.progress.now) c.args.keyword c.in-Pattern.pattern.now c.in_ok-accepts_text-in-Pattern.field-0 (λ x. ap (λ k. keyword_shapes k x) c.in-Pattern.is)
    c.in_ok-accepts_text-in-Pattern.ensures

pub read::accepts_keyword-returns-in-Applicator-clause-accepts : goal.read::accepts_keyword-returns-in-Applicator-clause-accepts
read::accepts_keyword-returns-in-Applicator-clause-accepts t c =
    let r = c.args.reading.now in
    IfOk-weaker c.accepts_applicator.result _ _
    (λ b h. applicator_accepts r.site.now (spots_of r.whole) (view r.value.now) (path_in r) (keys_in r.progress.now) c.args.keyword c.in-Applicator.applicator b c.in-Applicator.is h)
    c.accepts_applicator.ensures.accepts

pub read::accepts_keyword-returns-in-If-clause-accepts : goal.read::accepts_keyword-returns-in-If-clause-accepts
read::accepts_keyword-returns-in-If-clause-accepts t c =
    let r = c.args.reading.now in
    IfOk-weaker c.accepts_by_condition.result _ _
    (λ b h. choice_accepts r.site.now (spots_of r.whole) (view r.value.now) (path_in r) (keys_in r.progress.now) c.args.keyword c.in-If.condition c.in-If.then_schema c.in-If.else_schema b c.in-If.is h)
    c.accepts_by_condition.ensures.accepts

pub read::accepts_keyword-returns-in-Reference-clause-accepts : goal.read::accepts_keyword-returns-in-Reference-clause-accepts
read::accepts_keyword-returns-in-Reference-clause-accepts t c =
    let r = c.args.reading.now in
    IfOk-weaker c.accepts_target.result _ _
    (λ b h. reference_accepts r.site.now (spots_of r.whole) (view r.value.now) (path_in r) (keys_in r.progress.now) c.args.keyword (kind_of c.in-Reference.keyword) c.in-Reference.text.now (target_in c.in-Reference.target) b
    (λ x. ap (λ k. keyword_leads k x) c.in-Reference.is) (λ x. ap (λ k. keyword_shapes k x) c.in-Reference.is) h)
    c.accepts_target.ensures.accepts

-- ---- `if`

pub read::accepts_by_condition-accepts_question-requires : goal.read::accepts_by_condition-accepts_question-requires
read::accepts_by_condition-accepts_question-requires t c =
    let r = c.args.reading.now in (
      omega arith,
      (asked_inside_of r.site.now _ c.args.condition c.of_value-question.result c.of_value-question.ensures c.requires.inside, value_part (view r.value.now) _ c.args.condition c.of_value-question.result c.of_value-question.ensures),
    )

pub read::accepts_by_condition-returns-then-branch-clause-accepts : goal.read::accepts_by_condition-returns-then-branch-clause-accepts
read::accepts_by_condition-returns-then-branch-clause-accepts t c =
    let r = c.args.reading.now in
    IfOk-weaker c.accepts_beside.result _ _
    (λ b h. then_accepts r.site.now (spots_of r.whole) (view r.value.now) (path_in r) (keys_in r.progress.now) _ c.args.condition c.args.then_schema c.args.else_schema c.of_value-question.result _ b refl c.of_value-question.ensures
    c.in_ok-accepts_question.ensures.accepts c.if-branch.true h)
    c.accepts_beside.ensures.accepts

pub read::accepts_by_condition-returns-else-branch-clause-accepts : goal.read::accepts_by_condition-returns-else-branch-clause-accepts
read::accepts_by_condition-returns-else-branch-clause-accepts t c =
    let r = c.args.reading.now in
    IfOk-weaker c.accepts_beside-else-branch.result _ _
    (λ b h. else_accepts r.site.now (spots_of r.whole) (view r.value.now) (path_in r) (keys_in r.progress.now) _ c.args.condition c.args.then_schema c.args.else_schema c.of_value-question.result _ b refl c.of_value-question.ensures
    c.in_ok-accepts_question.ensures.accepts c.if-branch.false h)
    c.accepts_beside-else-branch.ensures.accepts

pub read::accepts_beside-accepts_question-requires : goal.read::accepts_beside-accepts_question-requires
read::accepts_beside-accepts_question-requires t c =
    let r = c.args.reading.now in (
      omega (arith, c.requires.1.0),
      (asked_inside_of r.site.now _ c.in-Some.schema c.of_value-question.result c.of_value-question.ensures (some_inside r.site.now c.args.schema c.in-Some.schema c.in-Some.is c.requires.1.1), value_part (view r.value.now) _ c.in-Some.schema c.of_value-question.result c.of_value-question.ensures),
    )

pub read::accepts_beside-returns-in-Some-clause-accepts : goal.read::accepts_beside-returns-in-Some-clause-accepts
read::accepts_beside-returns-in-Some-clause-accepts t c =
    let r = c.args.reading.now in
    IfOk-weaker c.accepts_question.result _ _
    (λ b h. beside_accepts r.site.now (spots_of r.whole) (view r.value.now) (path_in r) (keys_in r.progress.now) c.args.keyword c.in-Some.schema c.args.schema c.of_value-question.result b c.in-Some.is c.of_value-question.ensures h)
    c.accepts_question.ensures.accepts

pub read::accepts_beside-returns-in-None-clause-accepts : goal.read::accepts_beside-returns-in-None-clause-accepts
read::accepts_beside-returns-in-None-clause-accepts t c =
    let r = c.args.reading.now in
    none_accepts r.site.now (spots_of r.whole) (view r.value.now) (path_in r) (keys_in r.progress.now) c.args.keyword.now c.args.schema c.in-None.is

-- ---- a reference

pub read::accepts_target-returns-then-is_in_progress-clause-stops : goal.read::accepts_target-returns-then-is_in_progress-clause-stops
read::accepts_target-returns-then-is_in_progress-clause-stops t c =
    let r = c.args.reading.now in
    let t = target_in c.args.target in
    let at = path_in r in
    let progress = keys_in r.progress.now in
    let document : seen.name_of c.document_name-document.result.now ≡ t.document = c.document_name-document.ensures in
    let path : c.path-path.result.now ≡ t.path = c.path-path.ensures in
    let known : c.is_in_progress.result ≡ is_in_progress (key t.document t.path at) progress =
    c.is_in_progress.ensures ∙ ap₂ (λ (u : List ℕ) (p : List Part). is_in_progress (key u p at) progress) document path in
    returns.of_return r.site.now (view r.value.now) at progress (name_of c.args.keyword) c.args.text.now t c.is_in_progress.result known c.if-is_in_progress.true

pub read::accepts_target-invariant_of-followed : goal.read::accepts_target-invariant_of-followed
read::accepts_target-invariant_of-followed t c =
    let r = c.args.reading.now in
    let t = target_in c.args.target in
    let lies = looked_up_lies c.args.keyword (documents_at r.site.now) (base_of r.site.now.resolver) (scope_of r.site.now.resolver) c.args.text.now t c.requires.1.1.found in
    let contents : t.contents ≡ view c.in_ok-inner.inner.contents.now = sym c.in_ok-inner.ensures.contents in
    let docs : documents_at c.in_ok-inner.inner ≡ documents_at r.site.now = c.in_ok-inner.ensures.documents ∙ c.requires.1.1.documents in
    record { shallow = shallow_by_target (documents_at r.site.now) (documents_at c.in_ok-inner.inner) t (view c.in_ok-inner.inner.contents.now) docs contents lies; within = r.within }

pub read::accepts_target-accepts_schema-requires : goal.read::accepts_target-accepts_schema-requires
read::accepts_target-accepts_schema-requires t c =
    let r = c.args.reading.now in
    let t = target_in c.args.target in
    let at = path_in r in
    let progress = keys_in r.progress.now in
    let document : seen.name_of c.document_name-document.result.now ≡ t.document = c.document_name-document.ensures in
    let path : c.path-path.result.now ≡ t.path = c.path-path.ensures in
    let known : c.is_in_progress.result ≡ is_in_progress (key t.document t.path at) progress =
    c.is_in_progress.ensures ∙ ap₂ (λ (u : List ℕ) (p : List Part). is_in_progress (key u p at) progress) document path in
    let lies = looked_up_lies c.args.keyword (documents_at r.site.now) (base_of r.site.now.resolver) (scope_of r.site.now.resolver) c.args.text.now t c.requires.1.1.found in
    let new : is_in_progress (key t.document t.path at) progress ≡ false = sym known ∙ c.if-is_in_progress.false in
    let contents : t.contents ≡ view c.in_ok-inner.inner.contents.now = sym c.in_ok-inner.ensures.contents in
    let docs : documents_at c.in_ok-inner.inner ≡ documents_at r.site.now = c.in_ok-inner.ensures.documents ∙ c.requires.1.1.documents in
    let less = target_deeper (documents_at r.site.now) (spots_of r.whole) (view r.value.now) (view r.site.now.contents.now) t at progress lies r.within new in
    let falls = falls_by_target (documents_at r.site.now) (documents_at c.in_ok-inner.inner) (spots_of r.whole) t (seen.name_of c.document_name-document.result.now) c.path-path.result.now at progress (view c.in_ok-inner.inner.contents.now) (view r.site.now.contents.now) c.document_name-document.ensures c.path-path.ensures docs contents less in
    omega (arith, falls)

pub read::accepts_target-returns-clause-accepts : goal.read::accepts_target-returns-clause-accepts
read::accepts_target-returns-clause-accepts t c =
    let r = c.args.reading.now in
    let t = target_in c.args.target in
    let at = path_in r in
    let progress = keys_in r.progress.now in
    let document : seen.name_of c.document_name-document.result.now ≡ t.document = c.document_name-document.ensures in
    let path : c.path-path.result.now ≡ t.path = c.path-path.ensures in
    let known : c.is_in_progress.result ≡ is_in_progress (key t.document t.path at) progress =
    c.is_in_progress.ensures ∙ ap₂ (λ (u : List ℕ) (p : List Part). is_in_progress (key u p at) progress) document path in
    let lies = looked_up_lies c.args.keyword (documents_at r.site.now) (base_of r.site.now.resolver) (scope_of r.site.now.resolver) c.args.text.now t c.requires.1.1.found in
    let contents : t.contents ≡ view c.in_ok-inner.inner.contents.now = sym c.in_ok-inner.ensures.contents in
    let docs : documents_at c.in_ok-inner.inner ≡ documents_at r.site.now = c.in_ok-inner.ensures.documents ∙ c.requires.1.1.documents in
    IfOk-weaker c.accepts_schema.result _ _
    (λ b h. target_accepts r.site.now (spots_of r.whole) (view r.value.now) at progress (name_of c.args.keyword) c.args.text.now t c.is_in_progress.result b c.in_ok-inner.inner
    known c.if-is_in_progress.false docs c.in_ok-inner.ensures.matches contents lies r.within
    (λ s. c.in_ok-inner.ensures.stands s c.args.text.now)
    (λ s e scope. ap₂ (λ (u : List ℕ) (us : List (List ℕ)). entered_scope t.base u us) e scope ∙ sym c.requires.1.1.scope ∙ sym c.in_ok-inner.ensures.scope)
    (at_target_accepts c.in_ok-inner.inner (spots_of r.whole) (view r.value.now) t (seen.name_of c.document_name-document.result.now) c.path-path.result.now at progress b c.document_name-document.ensures c.path-path.ensures h))
    c.accepts_schema.ensures.accepts

-- ---- an applicator

pub applied::accepts_applicator-returns-then-is_noted-clause-accepts : goal.applied::accepts_applicator-returns-then-is_noted-clause-accepts
applied::accepts_applicator-returns-then-is_noted-clause-accepts t c =
    let r = c.args.reading.now in
    let a = c.args.applicator.now in
    let noted : is_empty (notes_by a (view r.value.now)) ≡ false = not_empty (is_empty (notes_by a (view r.value.now))) _ c.is_noted.ensures c.if-is_noted.true in
    noted_refuses r.site.now (spots_of r.whole) (view r.value.now) (path_in r) (keys_in r.progress.now) a (sym c.is_every.ensures.every ∙ c.if-is_every.true) noted

pub applied::accepts_applicator-returns-then-is_every-clause-accepts : goal.applied::accepts_applicator-returns-then-is_every-clause-accepts
applied::accepts_applicator-returns-then-is_every-clause-accepts t c =
    let r = c.args.reading.now in
    let a = c.args.applicator.now in
    let plain : is_empty (notes_by a (view r.value.now)) ≡ true = is_plain (is_empty (notes_by a (view r.value.now))) _ c.is_noted.ensures c.if-is_noted.false in
    IfOk-weaker c.accepts_each.result _ _
    (λ b h. every_accepts r.site.now (spots_of r.whole) (view r.value.now) (path_in r) (keys_in r.progress.now) a b (sym c.is_every.ensures.every ∙ c.if-is_every.true) plain h)
    c.accepts_each.ensures.accepts

pub applied::accepts_applicator-returns-clause-accepts : goal.applied::accepts_applicator-returns-clause-accepts
applied::accepts_applicator-returns-clause-accepts t c =
    let r = c.args.reading.now in
    let a = c.args.applicator.now in
    let qs = c.as_slice-asked.result.now in
    let asked : AreAsked (reads r.site.now.matches.now) a (view r.value.now) qs = search rules in
    let is : c.decides.result ≡ decided a (view r.value.now) (length qs) c.in_ok-accepted.accepted =
    c.decides.ensures ∙ ap (λ (k : Combining). decided_by k (view r.value.now) (length qs) c.in_ok-accepted.accepted) c.combining.ensures in
    combined_accepts r.site.now (spots_of r.whole) (view r.value.now) (path_in r) (keys_in r.progress.now) a qs asked c.in_ok-accepted.accepted c.decides.result c.requires.answers (sym c.is_every.ensures.every ∙ c.if-is_every.false)
    c.in_ok-accepted.ensures.counts is

pub applied::accepts_each-loop-question-init : goal.applied::accepts_each-loop-question-init
applied::accepts_each-loop-question-init t c =
    let r = c.args.reading.now in
    questions_init r.site.now (spots_of r.whole) (view r.value.now) (path_in r) (keys_in r.progress.now) c.args.applicator.now c.args.asked.now c.requires.asked

pub applied::accepts_each-accepts_question-requires : goal.applied::accepts_each-accepts_question-requires
applied::accepts_each-accepts_question-requires t c =
    let r = c.args.reading.now in
    let qs = c.args.asked.now in
    let i = c.loop-question.question-index in
    let q = c.question-item.result in
    let next : drop i qs ≡ q ∷ drop (i + 1) qs = drop_more qs i q c.loop-question-test.true ∙ ap (λ x. x ∷ drop (i + 1) qs) (sym c.question-item.is) in
    let among = c.loop-question.invariant.among q (subst (λ (xs : List Question). In q xs) (sym next) first) in
    let a = c.args.applicator.now in
    let m = reads r.site.now.matches.now in
    let d = view r.value.now in (
      omega arith,
      (question_inside m a d qs c.requires.asked c.requires.answers q among r.site.now c.requires.inside, question_part m a d qs c.requires.asked c.requires.answers q among r.site.now),
    )

pub applied::accepts_each-returns-then-not-branch-clause-accepts : goal.applied::accepts_each-returns-then-not-branch-clause-accepts
applied::accepts_each-returns-then-not-branch-clause-accepts t c =
    let r = c.args.reading.now in
    let qs = c.args.asked.now in
    let i = c.loop-question.question-index in
    let q = c.question-item.result in
    let next : drop i qs ≡ q ∷ drop (i + 1) qs = drop_more qs i q c.loop-question-test.true ∙ ap (λ x. x ∷ drop (i + 1) qs) (sym c.question-item.is) in
    let a = c.args.applicator.now in
    let left = subst (λ (xs : List Question). QuestionsLeft r.site.now (spots_of r.whole) (view r.value.now) (path_in r) (keys_in r.progress.now) a qs xs) next c.loop-question.invariant in
    questions_refused r.site.now (spots_of r.whole) (view r.value.now) (path_in r) (keys_in r.progress.now) a qs c.requires.asked c.requires.answers (drop (i + 1) qs) q _ c.if-not-branch.true left c.in_ok-accepts_question.ensures.accepts

pub applied::accepts_each-loop-question-preserved : goal.applied::accepts_each-loop-question-preserved
applied::accepts_each-loop-question-preserved t c =
    let r = c.args.reading.now in
    let qs = c.args.asked.now in
    let i = c.loop-question.question-index in
    let q = c.question-item.result in
    let next : drop i qs ≡ q ∷ drop (i + 1) qs = drop_more qs i q c.loop-question-test.true ∙ ap (λ x. x ∷ drop (i + 1) qs) (sym c.question-item.is) in
    let a = c.args.applicator.now in
    let left = subst (λ (xs : List Question). QuestionsLeft r.site.now (spots_of r.whole) (view r.value.now) (path_in r) (keys_in r.progress.now) a qs xs) next c.loop-question.invariant in
    questions_step r.site.now (spots_of r.whole) (view r.value.now) (path_in r) (keys_in r.progress.now) a qs c.requires.asked c.requires.answers (drop (i + 1) qs) q _ c.if-not-branch.false left c.in_ok-accepts_question.ensures.accepts

pub applied::accepts_each-returns-clause-accepts : goal.applied::accepts_each-returns-clause-accepts
applied::accepts_each-returns-clause-accepts t c =
    let r = c.args.reading.now in
    let qs = c.args.asked.now in
    let a = c.args.applicator.now in
    let nothing : drop c.loop-question.question-index qs ≡ [] = drop_all c.loop-question.question-index qs (omega (arith, c.loop-question-test.false)) in
    let left = subst (λ (xs : List Question). QuestionsLeft r.site.now (spots_of r.whole) (view r.value.now) (path_in r) (keys_in r.progress.now) a qs xs) nothing c.loop-question.invariant in
    questions_done r.site.now (spots_of r.whole) (view r.value.now) (path_in r) (keys_in r.progress.now) a qs c.requires.asked left

-- ---- counting

pub applied::count_accepted-loop-answered-init : goal.applied::count_accepted-loop-answered-init
applied::count_accepted-loop-answered-init t c =
    let r = c.args.reading.now in
    record {
      few = omega arith;
      left = count_first r.site.now (spots_of r.whole) (view r.value.now) (path_in r) (keys_in r.progress.now) c.args.applicator.now c.args.asked.now c.requires.asked;
    }

pub applied::count_accepted-returns-then-settles-clause-counts : goal.applied::count_accepted-returns-then-settles-clause-counts
applied::count_accepted-returns-then-settles-clause-counts t c =
    let r = c.args.reading.now in
    let qs = c.args.asked.now in
    let a = c.args.applicator.now in
    let i = c.loop-answered.answered in
    let n = c.loop-answered.accepted in
    let many : i + length (drop i qs) ≡ length qs = omega (arith, length-drop i qs) in
    count_settled r.site.now (spots_of r.whole) (view r.value.now) (path_in r) (keys_in r.progress.now) a qs c.requires.asked (drop i qs) i n c.settles.result
    (c.settles.ensures ∙ ap (λ (k : Combining). settles k i n) c.combining.ensures) c.if-settles.true many (omega arith) c.loop-answered.invariant.left

pub applied::count_accepted-accepts_question-requires : goal.applied::count_accepted-accepts_question-requires
applied::count_accepted-accepts_question-requires t c =
    let r = c.args.reading.now in
    let qs = c.args.asked.now in
    let i = c.loop-answered.answered in
    let q = c.index-asked-answered.result in
    let next : drop i qs ≡ q ∷ drop (i + 1) qs = drop_more qs i q c.loop-answered-test.true ∙ ap (λ x. x ∷ drop (i + 1) qs) (sym c.index-asked-answered.is) in
    let among = c.loop-answered.invariant.left.among q (subst (λ (xs : List Question). In q xs) (sym next) first) in
    let a = c.args.applicator.now in
    let m = reads r.site.now.matches.now in
    let d = view r.value.now in (
      omega arith,
      (question_inside m a d qs c.requires.asked c.requires.answers q among r.site.now c.requires.inside, question_part m a d qs c.requires.asked c.requires.answers q among r.site.now),
    )

pub applied::count_accepted-loop-answered-preserved : goal.applied::count_accepted-loop-answered-preserved
applied::count_accepted-loop-answered-preserved t c =
    let r = c.args.reading.now in
    let qs = c.args.asked.now in
    let a = c.args.applicator.now in
    let i = c.loop-answered.answered in
    let n = c.loop-answered.accepted in
    let q = c.index-asked-answered.result in
    let next : drop i qs ≡ q ∷ drop (i + 1) qs = drop_more qs i q c.loop-answered-test.true ∙ ap (λ x. x ∷ drop (i + 1) qs) (sym c.index-asked-answered.is) in
    let left = subst (λ (xs : List Question). CountLeft r.site.now (spots_of r.whole) (view r.value.now) (path_in r) (keys_in r.progress.now) a qs xs n) next c.loop-answered.invariant.left in
    elim c.if-branch.branch [
      | applied::count_accepted-then-branch w ↦ rw w.accepted-is (record {
        few = omega (arith, c.loop-answered.invariant.few);
        left = count_yes r.site.now (spots_of r.whole) (view r.value.now) (path_in r) (keys_in r.progress.now) a qs c.requires.asked (drop (i + 1) qs) q n _ c.requires.answers c.in_ok-accepts_question.ensures.accepts w.if-branch.true left;
      })
      | applied::count_accepted-else-branch w ↦ rw w.accepted-is (record {
        few = omega (arith, c.loop-answered.invariant.few);
        left = count_no r.site.now (spots_of r.whole) (view r.value.now) (path_in r) (keys_in r.progress.now) a qs c.requires.asked (drop (i + 1) qs) q n _ c.requires.answers c.in_ok-accepts_question.ensures.accepts w.if-branch.false left;
      })
    ]

pub applied::count_accepted-returns-clause-counts : goal.applied::count_accepted-returns-clause-counts
applied::count_accepted-returns-clause-counts t c =
    let r = c.args.reading.now in
    let qs = c.args.asked.now in
    let a = c.args.applicator.now in
    let nothing : drop c.loop-answered.answered qs ≡ [] = drop_all c.loop-answered.answered qs (omega (arith, c.loop-answered-test.false)) in
    let left = subst (λ (xs : List Question). CountLeft r.site.now (spots_of r.whole) (view r.value.now) (path_in r) (keys_in r.progress.now) a qs xs c.loop-answered.accepted) nothing c.loop-answered.invariant.left in
    count_done r.site.now (spots_of r.whole) (view r.value.now) (path_in r) (keys_in r.progress.now) a qs c.requires.asked c.loop-answered.accepted left

-- ---- a question

pub applied::accepts_question-invariant_of-below : goal.applied::accepts_question-invariant_of-below
applied::accepts_question-invariant_of-below t c =
    let r = c.args.reading.now in
    let child : Child r.site.now c.in_ok-inner.inner (view c.args.question.subschema.schema.now) = record {
      contents = ap (λ (b : Bor Value). view b.now) c.in_ok-inner.ensures.contents;
      documents = c.in_ok-inner.ensures.documents;
      scope = c.in_ok-inner.ensures.scope;
      stands = λ s added. c.in_ok-inner.ensures.stands s added;
      matches = c.in_ok-inner.ensures.matches;
    } in
    record { shallow = child_shallow r.site.now c.in_ok-inner.inner _ child c.requires.inside r.shallow; within = r.within }

pub applied::accepts_question-returns-clause-accepts : goal.applied::accepts_question-returns-clause-accepts
applied::accepts_question-returns-clause-accepts t c =
    let r = c.args.reading.now in
    let q = c.args.question in
    let child : Child r.site.now c.in_ok-inner.inner (view q.subschema.schema.now) = record {
      contents = ap (λ (b : Bor Value). view b.now) c.in_ok-inner.ensures.contents;
      documents = c.in_ok-inner.ensures.documents;
      scope = c.in_ok-inner.ensures.scope;
      stands = λ s added. c.in_ok-inner.ensures.stands s added;
      matches = c.in_ok-inner.ensures.matches;
    } in
    IfOk-weaker c.accepts_part.result _ _
    (λ b h. question_accepts r.site.now (spots_of r.whole) (view r.value.now) (path_in r) (keys_in r.progress.now) q b c.in_ok-inner.inner child c.requires.inside h)
    c.accepts_part.ensures.accepts

pub applied::accepts_part-returns-in-Value-clause-accepts : goal.applied::accepts_part-returns-in-Value-clause-accepts
applied::accepts_part-returns-in-Value-clause-accepts t c =
    let r = c.args.reading.now in
    IfOk-weaker c.accepts_schema.result _ _ (λ b h. of_value r.site.now (spots_of r.whole) (view r.value.now) (path_in r) (keys_in r.progress.now) b c.args.asked c.in-Value.is h) c.accepts_schema.ensures.accepts

pub applied::accepts_part-invariant_of-at : goal.applied::accepts_part-invariant_of-at
applied::accepts_part-invariant_of-at t c =
    let r = c.args.reading.now in
    record {
      shallow = r.shallow;
      within = part_within (view r.value.now) (spots_of r.whole) (path_in r) _ c.args.asked (asking.Item c.in-Item.index c.in-Item.item) c.requires.part c.in-Item.is c.push_index-instance.ensures r.within;
    }

pub applied::accepts_part-returns-in-Item-clause-accepts : goal.applied::accepts_part-returns-in-Item-clause-accepts
applied::accepts_part-returns-in-Item-clause-accepts t c =
    let r = c.args.reading.now in
    IfOk-weaker c.accepts_schema-in-Item.result _ _
    (λ b h. of_item r.site.now (spots_of r.whole) (view r.value.now) (path_in r) (keys_in r.progress.now) b c.args.asked c.in-Item.index c.in-Item.item _ c.in-Item.is c.push_index-instance.ensures h)
    c.accepts_schema-in-Item.ensures.accepts

pub applied::accepts_part-invariant_of-at-in-Member : goal.applied::accepts_part-invariant_of-at-in-Member
applied::accepts_part-invariant_of-at-in-Member t c =
    let r = c.args.reading.now in
    record {
      shallow = r.shallow;
      within = part_within (view r.value.now) (spots_of r.whole) (path_in r) _ c.args.asked (asking.Member c.in-Member.name c.in-Member.member) c.requires.part c.in-Member.is c.push_name-instance.ensures r.within;
    }

pub applied::accepts_part-returns-in-Member-clause-accepts : goal.applied::accepts_part-returns-in-Member-clause-accepts
applied::accepts_part-returns-in-Member-clause-accepts t c =
    let r = c.args.reading.now in
    IfOk-weaker c.accepts_schema-in-Member.result _ _
    (λ b h. of_member r.site.now (spots_of r.whole) (view r.value.now) (path_in r) (keys_in r.progress.now) b c.args.asked c.in-Member.name c.in-Member.member _ c.in-Member.is c.push_name-instance.ensures h)
    c.accepts_schema-in-Member.ensures.accepts

pub applied::accepts_part-accepts_name-requires : goal.applied::accepts_part-accepts_name-requires
applied::accepts_part-accepts_name-requires t c =
    let r = c.args.reading.now in
    let name = c.in-Name.name in
    let step = ap step_of c.in-Name.is in
    (omega arith, ∥∥₁_map r.within (λ w. w.spots _ (c.requires.part.named name.now step (path_in r))))

pub applied::accepts_part-returns-in-Name-clause-accepts : goal.applied::accepts_part-returns-in-Name-clause-accepts
applied::accepts_part-returns-in-Name-clause-accepts t c =
    let r = c.args.reading.now in
    IfOk-weaker c.accepts_name.result _ _
    (λ b h. of_name r.site.now (spots_of r.whole) (view r.value.now) (path_in r) (keys_in r.progress.now) b c.args.asked c.in-Name.name c.in-Name.is h)
    c.accepts_name.ensures.accepts

-- ---- a name

pub names::accepts_name-accepts_alone-requires : goal.names::accepts_name-accepts_alone-requires
names::accepts_name-accepts_alone-requires t c =
    let r = c.args.reading.now in
    let site = r.site.now in
    let keys = keys_in r.progress.now in
    let text = json.String c.in_ok-from_str.field-0 in
    let viewed : view text ≡ string (string_bytes c.in_ok-from_str.field-0) = search (rules, the_lemmas) in
    let is : view text ≡ string c.args.name.now = viewed ∙ ap string c.in_ok-from_str.ensures.ok in
    let path = path_in r in
    let alone = spots_in path (view text) in
    let falls = name_falls (documents_at site) (spots_of r.whole) alone path c.args.name.now keys (view site.contents.now) (stands_alone path (view text) c.args.name.now is) (are_uncalled r.progress.now) c.requires.1.1 in
    (omega (arith, falls, c.requires.1.0), r.shallow)

pub names::accepts_name-returns-clause-accepts : goal.names::accepts_name-returns-clause-accepts
names::accepts_name-returns-clause-accepts t c =
    let r = c.args.reading.now in
    let text = json.String c.in_ok-from_str.field-0 in
    let viewed : view text ≡ string (string_bytes c.in_ok-from_str.field-0) = search (rules, the_lemmas) in
    let is : view text ≡ string c.args.name.now = viewed ∙ ap string c.in_ok-from_str.ensures.ok in
    let path = path_in r in
    let alone = spots_in path (view text) in
    IfOk-weaker c.accepts_alone.result _ _
    (λ b h. name_accepts r.site.now (spots_of r.whole) c.args.name.now path (keys_in r.progress.now) alone (view text) b is (stands_alone path (view text) c.args.name.now is) (are_uncalled r.progress.now) c.requires.1.1 h)
    c.accepts_alone.ensures.accepts

-- ---- a value that stands alone

pub whole::accepts_alone-invariant_of-alone : goal.whole::accepts_alone-invariant_of-alone
whole::accepts_alone-invariant_of-alone t c = record { shallow = c.requires.shallow; within = ∣ record { spots = λ w i. i } ∣₁ }

-- ---- why a reading stops

pub read::accepts_schema-returns-in-Object-clause-stops : goal.read::accepts_schema-returns-in-Object-clause-stops
read::accepts_schema-returns-in-Object-clause-stops t c =
    let r = c.args.reading.now in
    let ms = members_view c.in-Object.members.entries in
    let is : view r.site.now.contents.now ≡ object ms = ap view c.in-Object.is ∙ view-Object c.in-Object.members in
    IfErr-weaker c.accepts_members.result _ _ (λ e h. stops_by _ _ (λ back. returns.of_object r.site.now (view r.value.now) (path_in r) (keys_in r.progress.now) ms is back) e h) c.accepts_members.ensures.stops

pub read::accepts_members-returns-in_err-accepts_member-clause-stops : goal.read::accepts_members-returns-in_err-accepts_member-clause-stops
read::accepts_members-returns-in_err-accepts_member-clause-stops t c =
    let r = c.args.reading.now in
    let all = members_view c.args.members.now.entries in
    let left_one = subst (λ es. MembersLeft r.site.now (spots_of r.whole) (view r.value.now) (path_in r) (keys_in r.progress.now) all (members_view es)) c.in-Some.ensures.steps c.loop-name.invariant.left in
    let left = subst (λ k. MembersLeft r.site.now (spots_of r.whole) (view r.value.now) (path_in r) (keys_in r.progress.now) all (member k (view c.in-Some.part.now) (members_view c.next.new.self))) (sym c.as_str.ensures.value) left_one in
    let listed = members_listed r.site.now (spots_of r.whole) (view r.value.now) (path_in r) (keys_in r.progress.now) all (members_view c.next.new.self) _ _ left in
    let e = err_from_is_err_and c.from_residual.result c.from_residual.ensures.1 in
    rw (e.1, e.2) (stops_by _ _ (λ back. returns.of_members r.site.now (view r.value.now) (path_in r) (keys_in r.progress.now) all c.as_str.result.now (view c.in-Some.part.now) listed back) _ c.in_err-accepts_member.ensures.stops)

pub read::accepts_member-returns-in-Ok-clause-stops : goal.read::accepts_member-returns-in-Ok-clause-stops
read::accepts_member-returns-in-Ok-clause-stops t c =
    let r = c.args.reading.now in
    IfErr-weaker c.accepts_keyword.result _ _ (λ e h. stops_by _ _ (λ back. returns.of_keyword r.site.now (view r.value.now) (path_in r) (keys_in r.progress.now) (members_view c.args.members.now.entries) c.args.name.now (view c.args.part.now) c.in-Ok.keyword c.requires.1.1.0 c.requires.1.1.1 c.in-Ok.ensures.read back) e h) c.accepts_keyword.ensures.stops

pub read::accepts_keyword-returns-in-Applicator-clause-stops : goal.read::accepts_keyword-returns-in-Applicator-clause-stops
read::accepts_keyword-returns-in-Applicator-clause-stops t c =
    let r = c.args.reading.now in
    IfErr-weaker c.accepts_applicator.result _ _ (λ e h. stops_by _ _ (λ back. returns.of_applicator r.site.now (view r.value.now) (path_in r) (keys_in r.progress.now) c.args.keyword c.in-Applicator.applicator c.in-Applicator.is back) e h) c.accepts_applicator.ensures.stops

pub read::accepts_keyword-returns-in-Reference-clause-stops : goal.read::accepts_keyword-returns-in-Reference-clause-stops
read::accepts_keyword-returns-in-Reference-clause-stops t c =
    let r = c.args.reading.now in
    IfErr-weaker c.accepts_target.result _ _ (λ e h. stops_by _ _ (λ back. returns.of_reference r.site.now (view r.value.now) (path_in r) (keys_in r.progress.now) c.args.keyword (kind_of c.in-Reference.keyword) c.in-Reference.text.now (target_in c.in-Reference.target) (λ x. ap (λ k. keyword_shapes k x) c.in-Reference.is) back) e h) c.accepts_target.ensures.stops

pub read::accepts_by_condition-returns-in_err-accepts_question-clause-stops : goal.read::accepts_by_condition-returns-in_err-accepts_question-clause-stops
read::accepts_by_condition-returns-in_err-accepts_question-clause-stops t c =
    let r = c.args.reading.now in
    let e = err_from_is_err_and c.from_residual.result c.from_residual.ensures.1 in
    rw (e.1, e.2) (stops_by _ _ (λ back. returns.of_condition r.site.now (view r.value.now) (path_in r) (keys_in r.progress.now) _ c.args.condition c.args.then_schema c.args.else_schema c.of_value-question.result refl c.of_value-question.ensures back) _ c.in_err-accepts_question.ensures.stops)

pub read::accepts_by_condition-returns-then-branch-clause-stops : goal.read::accepts_by_condition-returns-then-branch-clause-stops
read::accepts_by_condition-returns-then-branch-clause-stops t c =
    let r = c.args.reading.now in
    IfErr-weaker c.accepts_beside.result _ _ (λ e h. stops_by _ _ (λ back. returns.of_then r.site.now (view r.value.now) (path_in r) (keys_in r.progress.now) c.args.condition c.args.then_schema c.args.else_schema back) e h) c.accepts_beside.ensures.stops

pub read::accepts_by_condition-returns-else-branch-clause-stops : goal.read::accepts_by_condition-returns-else-branch-clause-stops
read::accepts_by_condition-returns-else-branch-clause-stops t c =
    let r = c.args.reading.now in
    IfErr-weaker c.accepts_beside-else-branch.result _ _ (λ e h. stops_by _ _ (λ back. returns.of_else r.site.now (view r.value.now) (path_in r) (keys_in r.progress.now) c.args.condition c.args.then_schema c.args.else_schema back) e h) c.accepts_beside-else-branch.ensures.stops

pub read::accepts_beside-returns-in-Some-clause-stops : goal.read::accepts_beside-returns-in-Some-clause-stops
read::accepts_beside-returns-in-Some-clause-stops t c =
    let r = c.args.reading.now in
    IfErr-weaker c.accepts_question.result _ _ (λ e h. stops_by _ _ (λ back. returns.of_beside r.site.now (view r.value.now) (path_in r) (keys_in r.progress.now) c.args.keyword c.in-Some.schema c.args.schema c.of_value-question.result c.in-Some.is c.of_value-question.ensures back) e h) c.accepts_question.ensures.stops

pub read::accepts_target-returns-clause-stops : goal.read::accepts_target-returns-clause-stops
read::accepts_target-returns-clause-stops t c =
    let r = c.args.reading.now in
    let t = target_in c.args.target in
    let docs : documents_at c.in_ok-inner.inner ≡ documents_at r.site.now = c.in_ok-inner.ensures.documents ∙ c.requires.1.1.documents in
    IfErr-weaker c.accepts_schema.result _ _
    (λ e h. stops_by _ _
    (λ back. returns.of_target r.site.now (view r.value.now) (path_in r) (keys_in r.progress.now) (name_of c.args.keyword) c.args.text.now t c.in_ok-inner.inner (seen.name_of c.document_name-document.result.now) c.path-path.result.now
    c.document_name-document.ensures c.path-path.ensures docs c.in_ok-inner.ensures.matches (λ s. c.in_ok-inner.ensures.stands s c.args.text.now)
    (λ s e scope. ap₂ (λ (u : List ℕ) (us : List (List ℕ)). entered_scope t.base u us) e scope ∙ sym c.requires.1.1.scope ∙ sym c.in_ok-inner.ensures.scope) back) e h)
    c.accepts_schema.ensures.stops

pub applied::accepts_each-returns-in_err-accepts_question-clause-stops : goal.applied::accepts_each-returns-in_err-accepts_question-clause-stops
applied::accepts_each-returns-in_err-accepts_question-clause-stops t c =
    let r = c.args.reading.now in
    let qs = c.args.asked.now in
    let i = c.loop-question.question-index in
    let q = c.question-item.result in
    let next : drop i qs ≡ q ∷ drop (i + 1) qs = drop_more qs i q c.loop-question-test.true ∙ ap (λ x. x ∷ drop (i + 1) qs) (sym c.question-item.is) in
    let among = c.loop-question.invariant.among q (subst (λ (xs : List Question). In q xs) (sym next) first) in
    let e = err_from_is_err_and c.from_residual.result c.from_residual.ensures.1 in
    rw (e.1, e.2) (stops_by _ _ (λ back. returns.of_one r.site.now (view r.value.now) (path_in r) (keys_in r.progress.now) c.args.applicator.now qs c.requires.asked q among back) _ c.in_err-accepts_question.ensures.stops)

pub applied::count_accepted-returns-in_err-accepts_question-clause-stops : goal.applied::count_accepted-returns-in_err-accepts_question-clause-stops
applied::count_accepted-returns-in_err-accepts_question-clause-stops t c =
    let r = c.args.reading.now in
    let qs = c.args.asked.now in
    let i = c.loop-answered.answered in
    let q = c.index-asked-answered.result in
    let next : drop i qs ≡ q ∷ drop (i + 1) qs = drop_more qs i q c.loop-answered-test.true ∙ ap (λ x. x ∷ drop (i + 1) qs) (sym c.index-asked-answered.is) in
    let among = c.loop-answered.invariant.left.among q (subst (λ (xs : List Question). In q xs) (sym next) first) in
    let e = err_from_is_err_and c.from_residual.result c.from_residual.ensures.1 in
    rw (e.1, e.2) (stops_by _ _ (λ back. returns.of_one r.site.now (view r.value.now) (path_in r) (keys_in r.progress.now) c.args.applicator.now qs c.requires.asked q among back) _ c.in_err-accepts_question.ensures.stops)

pub applied::accepts_question-returns-clause-stops : goal.applied::accepts_question-returns-clause-stops
applied::accepts_question-returns-clause-stops t c =
    let r = c.args.reading.now in
    let child : Child r.site.now c.in_ok-inner.inner (view c.args.question.subschema.schema.now) = record {
      contents = ap (λ (b : Bor Value). view b.now) c.in_ok-inner.ensures.contents;
      documents = c.in_ok-inner.ensures.documents;
      scope = c.in_ok-inner.ensures.scope;
      stands = λ s added. c.in_ok-inner.ensures.stands s added;
      matches = c.in_ok-inner.ensures.matches;
    } in
    IfErr-weaker c.accepts_part.result _ _ (λ e h. stops_by _ _ (λ back. returns.of_question r.site.now (view r.value.now) (path_in r) (keys_in r.progress.now) c.args.question c.in_ok-inner.inner child back) e h) c.accepts_part.ensures.stops

pub applied::accepts_part-returns-in-Value-clause-stops : goal.applied::accepts_part-returns-in-Value-clause-stops
applied::accepts_part-returns-in-Value-clause-stops t c =
    let r = c.args.reading.now in
    IfErr-weaker c.accepts_schema.result _ _ (λ e h. stops_by _ _ (λ back. returns.of_value r.site.now (view r.value.now) (path_in r) (keys_in r.progress.now) c.args.asked c.in-Value.is back) e h) c.accepts_schema.ensures.stops

pub applied::accepts_part-returns-in-Item-clause-stops : goal.applied::accepts_part-returns-in-Item-clause-stops
applied::accepts_part-returns-in-Item-clause-stops t c =
    let r = c.args.reading.now in
    IfErr-weaker c.accepts_schema-in-Item.result _ _ (λ e h. stops_by _ _ (λ back. returns.of_item r.site.now (view r.value.now) (path_in r) (keys_in r.progress.now) c.args.asked c.in-Item.index c.in-Item.item _ c.in-Item.is c.push_index-instance.ensures back) e h) c.accepts_schema-in-Item.ensures.stops

pub applied::accepts_part-returns-in-Member-clause-stops : goal.applied::accepts_part-returns-in-Member-clause-stops
applied::accepts_part-returns-in-Member-clause-stops t c =
    let r = c.args.reading.now in
    IfErr-weaker c.accepts_schema-in-Member.result _ _ (λ e h. stops_by _ _ (λ back. returns.of_member r.site.now (view r.value.now) (path_in r) (keys_in r.progress.now) c.args.asked c.in-Member.name c.in-Member.member _ c.in-Member.is c.push_name-instance.ensures back) e h) c.accepts_schema-in-Member.ensures.stops

pub applied::accepts_part-returns-in-Name-clause-stops : goal.applied::accepts_part-returns-in-Name-clause-stops
applied::accepts_part-returns-in-Name-clause-stops t c =
    let r = c.args.reading.now in
    IfErr-weaker c.accepts_name.result _ _ (λ e h. stops_by _ _ (λ back. returns.of_name r.site.now (view r.value.now) (path_in r) (keys_in r.progress.now) c.args.asked c.in-Name.name c.in-Name.is back) e h) c.accepts_name.ensures.stops

pub names::accepts_name-returns-clause-stops : goal.names::accepts_name-returns-clause-stops
names::accepts_name-returns-clause-stops t c =
    let r = c.args.reading.now in
    let text = json.String c.in_ok-from_str.field-0 in
    let viewed : view text ≡ string (string_bytes c.in_ok-from_str.field-0) = search (rules, the_lemmas) in
    let is : view text ≡ string c.args.name.now = viewed ∙ ap string c.in_ok-from_str.ensures.ok in
    IfErr-weaker c.accepts_alone.result _ _ (λ e h. stops_by _ _ (λ back. returns.of_text r.site.now (view r.value.now) (path_in r) (keys_in r.progress.now) c.args.name.now (view text) is back) e h) c.accepts_alone.ensures.stops
