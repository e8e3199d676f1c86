use Rattle.std.proofs.Common.{ap, not, Bor}
use Rattle.std.proofs.lemmas.Result.{IfOk-weaker, IfErr-weaker}
use Rattle.serde_json.specs.View.{view}
use Rattle.serde_json.specs.declared.value.Value.{Value}
use Rattle.plain_reader.proofs.ChildVerdicts.{Child, child_shallow}
use Rattle.fault_checks.proofs.Chosen.{inner_verdict}
use Rattle.fault_checks.proofs.CircleLemmas.{inner_back}
use Rattle.plain_reader.proofs.ReturnLemmas.{stops_by}
use Rattle.fault_checks.proofs.choice_refusals.is_inner_refused.Goals as goal

pub invariant_of-below : goal.invariant_of-below
invariant_of-below c =
    let child : Child c.args.trial.now.site.now c.in_ok-inner.inner (view c.args.part.now) = record {
      contents = ap (λ (b : Bor Value). view b.now) c.in_ok-inner.ensures.contents;
      documents = c.in_ok-inner.ensures.documents;
      scope = c.in_ok-inner.ensures.scope;
      stands = λ s added. c.in_ok-inner.ensures.stands s added;
      matches = c.in_ok-inner.ensures.matches;
    } in
    record { shallow = child_shallow c.args.trial.now.site.now _ _ child c.requires.inside c.args.trial.now.shallow }

pub returns-clause-refused : goal.returns-clause-refused
returns-clause-refused c =
    let child : Child c.args.trial.now.site.now c.in_ok-inner.inner (view c.args.part.now) = record {
      contents = ap (λ (b : Bor Value). view b.now) c.in_ok-inner.ensures.contents;
      documents = c.in_ok-inner.ensures.documents;
      scope = c.in_ok-inner.ensures.scope;
      stands = λ s added. c.in_ok-inner.ensures.stands s added;
      matches = c.in_ok-inner.ensures.matches;
    } in
    IfOk-weaker c.is_refused.result _ _
    (λ b verdict. inner_verdict c.args.trial.now.site.now c.in_ok-inner.inner (view c.args.trial.now.value.now) c.args.name.now (view c.args.part.now) (not b) child verdict)
    c.is_refused.ensures.refused

pub returns-clause-stops : goal.returns-clause-stops
returns-clause-stops c =
    let child : Child c.args.trial.now.site.now c.in_ok-inner.inner (view c.args.part.now) = record {
      contents = ap (λ (b : Bor Value). view b.now) c.in_ok-inner.ensures.contents;
      documents = c.in_ok-inner.ensures.documents;
      scope = c.in_ok-inner.ensures.scope;
      stands = λ s added. c.in_ok-inner.ensures.stands s added;
      matches = c.in_ok-inner.ensures.matches;
    } in
    IfErr-weaker c.is_refused.result _ _ (λ e h. stops_by _ _ (λ back. inner_back c.args.trial.now c.in_ok-inner.inner c.args.name.now (view c.args.part.now) child back) e h) c.is_refused.ensures.stops
