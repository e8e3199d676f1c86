use Rattle.std.proofs.Common.{ap, not, Bor}
use Rattle.std.proofs.lemmas.Result.{IfOk-weaker, IfErr-weaker}
use Rattle.serde_json.specs.View.{view}
use Rattle.serde_json.specs.declared.value.Value.{Value}
use Rattle.plain_reader.proofs.ChildVerdicts.{Child, child_shallow}
use Rattle.fault_checks.proofs.AppliedQuestions.{answered}
use Rattle.fault_checks.proofs.CircleLemmas.{question_back}
use Rattle.plain_reader.proofs.ReturnLemmas.{stops_by}
use Rattle.fault_checks.proofs.applied_refusals.is_question_refused.Goals as goal

pub invariant_of-below : goal.invariant_of-below
invariant_of-below c =
    let q = c.args.question in
    let child : Child c.args.trial.now.site.now c.in_ok-inner.inner (view q.subschema.schema.now) = record {
      contents = ap (λ (b : Bor Value). view b.now) c.in_ok-inner.ensures.contents;
      documents = c.in_ok-inner.ensures.documents;
      scope = c.in_ok-inner.ensures.scope;
      stands = λ s added. c.in_ok-inner.ensures.stands s added;
      matches = c.in_ok-inner.ensures.matches;
    } in
    record { shallow = child_shallow c.args.trial.now.site.now _ _ child c.requires.inside c.args.trial.now.shallow }

pub returns-clause-refused : goal.returns-clause-refused
returns-clause-refused c =
    let t = c.args.trial.now in
    let q = c.args.question in
    let child : Child t.site.now c.in_ok-inner.inner (view q.subschema.schema.now) = record {
      contents = ap (λ (b : Bor Value). view b.now) c.in_ok-inner.ensures.contents;
      documents = c.in_ok-inner.ensures.documents;
      scope = c.in_ok-inner.ensures.scope;
      stands = λ s added. c.in_ok-inner.ensures.stands s added;
      matches = c.in_ok-inner.ensures.matches;
    } in
    IfOk-weaker c.is_asked_refused.result _ _ (λ b verdict. answered t.site.now c.in_ok-inner.inner (view t.value.now) q (not b) child verdict) c.is_asked_refused.ensures.refused

pub returns-clause-stops : goal.returns-clause-stops
returns-clause-stops c =
    let child : Child c.args.trial.now.site.now c.in_ok-inner.inner (view c.args.question.subschema.schema.now) = record {
      contents = ap (λ (b : Bor Value). view b.now) c.in_ok-inner.ensures.contents;
      documents = c.in_ok-inner.ensures.documents;
      scope = c.in_ok-inner.ensures.scope;
      stands = λ s added. c.in_ok-inner.ensures.stands s added;
      matches = c.in_ok-inner.ensures.matches;
    } in
    IfErr-weaker c.is_asked_refused.result _ _ (λ e h. stops_by _ _ (λ back. question_back c.args.trial.now c.in_ok-inner.inner c.args.question child back) e h) c.is_asked_refused.ensures.stops
