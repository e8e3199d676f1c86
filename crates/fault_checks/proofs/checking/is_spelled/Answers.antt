use Rattle.std.proofs.lemmas.Result.{IfOk-weaker, IfErr-weaker}
use Rattle.serde_json.specs.View.{view}
use Rattle.fault_checks.specs.Passed.{documents_in, target_in}
use Rattle.fault_checks.proofs.Passed.{root_shallow}
use Rattle.fault_checks.proofs.Checked.{decided_at}
use Rattle.fault_checks.proofs.CircleLemmas.{root_back}
use Rattle.plain_reader.proofs.ReturnLemmas.{stops_by}
use Rattle.fault_checks.proofs.checking.is_spelled.Goals as goal

pub invariant_of-walk : goal.invariant_of-walk
invariant_of-walk c =
    let t = target_in c.args.root.now in
    record { shallow = root_shallow (documents_in c.args.root.now.resolver) _ t.contents _ c.in_ok-site.ensures.documents c.in_ok-site.ensures.contents c.requires.shallow }

pub returns-clause-decides : goal.returns-clause-decides
returns-clause-decides c =
    let t = target_in c.args.root.now in
    IfOk-weaker c.walked.result _ _
    (λ b p. decided_at _ t (documents_in c.args.root.now.resolver) c.args.matches b c.in_ok-site.ensures.documents c.in_ok-site.ensures.matches c.in_ok-site.ensures.stands c.in_ok-site.ensures.scope p)
    c.walked.ensures.passes

pub returns-clause-stops : goal.returns-clause-stops
returns-clause-stops c =
    let t = target_in c.args.root.now in
    IfErr-weaker c.walked.result _ _ (λ e h. stops_by _ _ (λ back. root_back _ (view c.args.value.now) t (documents_in c.args.root.now.resolver) c.args.matches c.in_ok-site.ensures.documents c.in_ok-site.ensures.matches c.in_ok-site.ensures.stands c.in_ok-site.ensures.scope back) e h) c.walked.ensures.stops
