use Rattle.std.proofs.Common.{◌≡◌, ◌∙◌, ap, sym, subst, arith, rules}
use Rattle.std.proofs.lemmas.Result.{IfOk-weaker, IfErr-weaker, err_from_is_err_and}
use Rattle.serde_json.specs.Data.{Data, string, member}
use Rattle.serde_json.specs.View.{view, members_view}
use Rattle.serde_json.proofs.Views.{view-Object}
use Rattle.fault_paths.specs.Texts.{text_left}
use Rattle.fault_checks.proofs.AppliedQuestions.{view_text}
use Rattle.fault_checks.specs.Steps.{Passes, IsShorter}
use Rattle.fault_checks.specs.NamedSteps.{IsAtName, IsLeftAtName}
use Rattle.fault_checks.specs.declared.walk.Step.TheVariants.{Answered, On, Named}
use Rattle.fault_checks.proofs.WalkSteps.{passes_on, passes_first}
use Rattle.fault_checks.proofs.NamedSteps.{passes_named, at_one_name, NamesLeft, names_first, names_more, names_found, names_none}
use Rattle.fault_checks.proofs.CircleLemmas.{walk_back, names_back, some_back, name_back}
use Rattle.schema_meaning.specs.Members.{first}
use Rattle.plain_reader.proofs.ReturnLemmas.{stops_by}
use Rattle.fault_checks.proofs.walking.+walks.Goals as goal

pub at_name-returns-clause-left : goal.at_name-returns-clause-left
at_name-returns-clause-left t c =
    let n = c.args.names.now in
    let k = c.args.name.now in
    let there = subst (λ (d : Data). IsAtName n d c.in_ok-walk.walk) (view_text _ ∙ ap string c.in_ok-from_str.ensures.ok) c.in_ok-walk.ensures in
    IfOk-weaker c.walked.result _ _ (λ b passes. at_one_name n k c.in_ok-walk.walk b there passes) c.walked.ensures.passes

pub through_names-loop-name-init : goal.through_names-loop-name-init
through_names-loop-name-init t c =
    let same : c.into_iter-name-iterator.result ≡ c.in-Object.members.entries = search rules in
    subst (λ es. NamesLeft c.args.names.now (members_view es)) (sym same) (names_first c.args.names.now _ (ap view c.in-Object.is ∙ view-Object c.in-Object.members))

pub through_names-returns-then-branch-clause-left : goal.through_names-returns-then-branch-clause-left
through_names-returns-then-branch-clause-left t c =
    let n = c.args.names.now in
    let k = c.as_str.result.now in
    let e = view c.in-Some._member.now in
    let left_one = subst (λ es. NamesLeft n (members_view es)) c.in-Some.ensures.steps c.loop-name.invariant in
    let left = subst (λ j. NamesLeft n (member j e (members_view c.next.new.self))) (sym c.as_str.ensures.value) left_one in
    names_found n k e _ (subst (λ b. IsLeftAtName n k b) c.if-branch.true c.in_ok-at_name.ensures.left) left

pub through_names-loop-name-preserved : goal.through_names-loop-name-preserved
through_names-loop-name-preserved t c =
    let n = c.args.names.now in
    let k = c.as_str.result.now in
    let e = view c.in-Some._member.now in
    let left_one = subst (λ es. NamesLeft n (members_view es)) c.in-Some.ensures.steps c.loop-name.invariant in
    let left = subst (λ j. NamesLeft n (member j e (members_view c.next.new.self))) (sym c.as_str.ensures.value) left_one in
    names_more n k e _ (subst (λ b. IsLeftAtName n k b) c.if-branch.false c.in_ok-at_name.ensures.left) left

pub through_names-returns-clause-left : goal.through_names-returns-clause-left
through_names-returns-clause-left t c = names_none c.args.names.now (subst (λ es. NamesLeft c.args.names.now (members_view es)) c.in-None.ensures.steps.0 c.loop-name.invariant)

pub walked-loop-accepted-init : goal.walked-loop-accepted-init
walked-loop-accepted-init t c = record { passes = passes_first c.args.walk; shorter = omega arith }

pub walked-loop-accepted-preserved : goal.walked-loop-accepted-preserved
walked-loop-accepted-preserved t c =
    let shorter = subst (IsShorter (text_left c.loop-accepted.now.evaluation)) c.in-On.is c.in_ok-accepted.ensures.shorter in
    record {
      passes = passes_on c.args.walk c.loop-accepted.now (On c.in-On.next) c.loop-accepted.invariant.passes (subst (Passes c.loop-accepted.now) c.in-On.is c.in_ok-accepted.ensures.passes);
      shorter = omega (arith, shorter, c.loop-accepted.invariant.shorter);
    }

pub walked-loop-accepted-smaller : goal.walked-loop-accepted-smaller
walked-loop-accepted-smaller t c = subst (IsShorter (text_left c.loop-accepted.now.evaluation)) c.in-On.is c.in_ok-accepted.ensures.shorter

pub walked-returns-in-Answered-clause-passes : goal.walked-returns-in-Answered-clause-passes
walked-returns-in-Answered-clause-passes t c =
    passes_on c.args.walk c.loop-accepted.now (Answered c.in-Answered.accepted) c.loop-accepted.invariant.passes (subst (Passes c.loop-accepted.now) c.in-Answered.is c.in_ok-accepted.ensures.passes)

pub walked-returns-in-Named-clause-passes : goal.walked-returns-in-Named-clause-passes
walked-returns-in-Named-clause-passes t c =
    let passes = passes_on c.args.walk c.loop-accepted.now (Named c.in-Named.names) c.loop-accepted.invariant.passes (subst (Passes c.loop-accepted.now) c.in-Named.is c.in_ok-accepted.ensures.passes) in
    IfOk-weaker c.through_names.result _ _ (λ b some. passes_named c.args.walk c.in-Named.names b passes some) c.through_names.ensures.left

pub at_name-returns-clause-stops : goal.at_name-returns-clause-stops
at_name-returns-clause-stops t c =
    let n = c.args.names.now in
    let k = c.args.name.now in
    let there = subst (λ (d : Data). IsAtName n d c.in_ok-walk.walk) (view_text _ ∙ ap string c.in_ok-from_str.ensures.ok) c.in_ok-walk.ensures in
    IfErr-weaker c.walked.result _ _ (λ e h. stops_by _ _ (λ back. name_back n k c.in_ok-walk.walk there back) e h) c.walked.ensures.stops

pub through_names-returns-in_err-at_name-clause-stops : goal.through_names-returns-in_err-at_name-clause-stops
through_names-returns-in_err-at_name-clause-stops t c =
    let n = c.args.names.now in
    let k = c.as_str.result.now in
    let e = view c.in-Some._member.now in
    let left_one = subst (λ es. NamesLeft n (members_view es)) c.in-Some.ensures.steps c.loop-name.invariant in
    let left = subst (λ j. NamesLeft n (member j e (members_view c.next.new.self))) (sym c.as_str.ensures.value) left_one in
    let r = err_from_is_err_and c.from_residual.result c.from_residual.ensures.1 in
    rw (r.1, r.2) (stops_by _ _ (λ back. some_back n k (left.among k first) back) _ c.in_err-at_name.ensures.stops)

pub walked-returns-in_err-accepted-clause-stops : goal.walked-returns-in_err-accepted-clause-stops
walked-returns-in_err-accepted-clause-stops t c =
    let e = err_from_is_err_and c.from_residual.result c.from_residual.ensures.1 in
    rw (e.1, e.2) (stops_by _ _ (λ back. walk_back c.args.walk c.loop-accepted.now c.loop-accepted.invariant.passes back) _ c.in_err-accepted.ensures.stops)

pub walked-returns-in-Named-clause-stops : goal.walked-returns-in-Named-clause-stops
walked-returns-in-Named-clause-stops t c =
    let passes = passes_on c.args.walk c.loop-accepted.now (Named c.in-Named.names) c.loop-accepted.invariant.passes (subst (Passes c.loop-accepted.now) c.in-Named.is c.in_ok-accepted.ensures.passes) in
    IfErr-weaker c.through_names.result _ _ (λ e h. stops_by _ _ (λ back. names_back c.args.walk c.in-Named.names passes back) e h) c.through_names.ensures.stops
