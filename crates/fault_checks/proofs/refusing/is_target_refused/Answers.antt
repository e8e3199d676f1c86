use Rattle.std.proofs.lemmas.Result.{IfOk-weaker, IfErr-weaker}
use Rattle.serde_json.specs.View.{view}
use Rattle.fault_checks.proofs.Children.{AtTarget, target_shallow}
use Rattle.fault_checks.proofs.Gathered.{reference_refused}
use Rattle.fault_checks.proofs.CircleLemmas.{target_back}
use Rattle.plain_reader.proofs.ReturnLemmas.{stops_by}
use Rattle.fault_checks.proofs.refusing.is_target_refused.Goals as goal

pub invariant_of-followed : goal.invariant_of-followed
invariant_of-followed c =
    let at : AtTarget c.args.trial.now.site.now c.in_ok-inner.inner c.args.keyword c.args.text.now c.args.target = record {
      found = c.requires.found;
      contents = c.in_ok-inner.ensures.contents;
      base = c.in_ok-inner.ensures.base;
      scope = c.in_ok-inner.ensures.scope;
      documents = c.in_ok-inner.ensures.documents;
      stands = λ s r. c.in_ok-inner.ensures.stands s r;
      matches = c.in_ok-inner.ensures.matches;
    } in
    record { shallow = target_shallow c.args.trial.now.site.now c.in_ok-inner.inner c.args.keyword c.args.text.now c.args.target at }

pub returns-clause-refused : goal.returns-clause-refused
returns-clause-refused c =
    let at : AtTarget c.args.trial.now.site.now c.in_ok-inner.inner c.args.keyword c.args.text.now c.args.target = record {
      found = c.requires.found;
      contents = c.in_ok-inner.ensures.contents;
      base = c.in_ok-inner.ensures.base;
      scope = c.in_ok-inner.ensures.scope;
      documents = c.in_ok-inner.ensures.documents;
      stands = λ s r. c.in_ok-inner.ensures.stands s r;
      matches = c.in_ok-inner.ensures.matches;
    } in
    IfOk-weaker c.is_refused.result _ _
    (λ b h. reference_refused c.args.trial.now.site.now c.in_ok-inner.inner (view c.args.trial.now.value.now) c.args.keyword c.args.text.now c.args.target b at h)
    c.is_refused.ensures.refused

pub returns-clause-stops : goal.returns-clause-stops
returns-clause-stops c =
    let at : AtTarget c.args.trial.now.site.now c.in_ok-inner.inner c.args.keyword c.args.text.now c.args.target = record {
      found = c.requires.found;
      contents = c.in_ok-inner.ensures.contents;
      base = c.in_ok-inner.ensures.base;
      scope = c.in_ok-inner.ensures.scope;
      documents = c.in_ok-inner.ensures.documents;
      stands = λ s r. c.in_ok-inner.ensures.stands s r;
      matches = c.in_ok-inner.ensures.matches;
    } in
    IfErr-weaker c.is_refused.result _ _ (λ e h. stops_by _ _ (λ back. target_back c.args.trial.now.site.now c.in_ok-inner.inner (view c.args.trial.now.value.now) c.args.keyword c.args.text.now c.args.target at back) e h) c.is_refused.ensures.stops
