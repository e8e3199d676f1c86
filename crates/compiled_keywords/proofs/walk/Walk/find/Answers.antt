use Rattle.std.proofs.Common.{◌∙◌, ℕ, List, bytes_eq, nat_cmp, refl, sym, ap}
use Rattle.std.specs.Ordering.{is_lt}
use Rattle.std.specs.Cmp.Lexicographic.{slice_cmp}
use Rattle.serde_json.specs.View.{members_view}
use Rattle.schema_engine.specs.Places.{value_at}
use Rattle.compiled_keywords.specs.Walked.{left_from}
use Rattle.compiled_keywords.proofs.WalkLemmas.{left_is, none_left, found_next, passed_on}
use Rattle.compiled_keywords.proofs.walk.Walk.find.Goals as goal

pub passed_by-requires-then-lt-clause-none : goal.passed_by-requires-then-lt-clause-none
passed_by-requires-then-lt-clause-none c =
    let w = c.loop-step.self in
    none_left w (value_at c.args.place) c.loop-step.invariant _ _ _ (ap (λ o. left_from o (members_view w.rest)) c.in-Some.is) c.args.name.now
    (ap (λ (m : List ℕ). is_lt (slice_cmp nat_cmp c.args.name.now m)) (sym c.as_str-other.ensures.value) ∙ sym c.lt.ensures ∙ c.if-lt.true)

pub returns-then-is_found-clause-there : goal.returns-then-is_found-clause-there
returns-then-is_found-clause-there c =
    let w = c.loop-step.self in
    sym (found_next w (value_at c.args.place) c.loop-step.invariant _ _ _ (ap (λ o. left_from o (members_view w.rest)) c.in-Some.is) c.args.name.now
    (ap (bytes_eq c.args.name.now) (sym c.as_str-other.ensures.value) ∙ sym c.eq-is_found.ensures ∙ c.if-is_found.true))

pub returns-then-is_found-clause-step : goal.returns-then-is_found-clause-step
returns-then-is_found-clause-step c =
    let w = c.loop-step.self in
    passed_on w (value_at c.args.place) c.loop-step.invariant _ _ _ (ap (λ o. left_from o (members_view w.rest)) c.in-Some.is) _ c.as_str-other.result refl c.as_str-other.ensures.value
    (left_is c.next-self.result w.rest c.next-self.new.self c.next-self.ensures.steps)

pub loop-step-preserved : goal.loop-step-preserved
loop-step-preserved c =
    let w = c.loop-step.self in
    passed_on w (value_at c.args.place) c.loop-step.invariant _ _ _ (ap (λ o. left_from o (members_view w.rest)) c.in-Some.is) _ c.as_str-other.result refl c.as_str-other.ensures.value
    (left_is c.next-self.result w.rest c.next-self.new.self c.next-self.ensures.steps)
