use Rattle.serde_json.specs.View.{view}
use Rattle.fault_checks.proofs.Refusals.{site_verdict}
use Rattle.fault_checks.proofs.CircleLemmas.{site_back}
use Rattle.plain_reader.proofs.ReturnLemmas.{stops_by}
use Rattle.std.proofs.lemmas.Result.{err_from_is_err_and}
use Rattle.fault_checks.proofs.refusing.is_refused.Goals as goal

pub returns-clause-refused : goal.returns-clause-refused
returns-clause-refused c =
    site_verdict c.args.trial.now.site.now (view c.args.trial.now.value.now) c.in_ok-accepts_site.field-0 c.args.trial.now.shallow c.in_ok-accepts_site.ensures.accepts

pub returns-in_err-accepts_site-clause-stops : goal.returns-in_err-accepts_site-clause-stops
returns-in_err-accepts_site-clause-stops c =
    let e = err_from_is_err_and c.from_residual.result c.from_residual.ensures.1 in
    rw (e.1, e.2) (stops_by _ _ (λ back. site_back c.args.trial.now.site.now (view c.args.trial.now.value.now) back) _ c.in_err-accepts_site.ensures.stops)
