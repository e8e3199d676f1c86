use Rattle.std.proofs.Common.{refl}
use Rattle.std.proofs.lemmas.Result.{err_from_is_err_and}
use Rattle.line_runs.specs.Forms.{IsLineToldBy, IsLineTold}
use Rattle.line_runs.proofs.Starting.{off_at_once}
use Rattle.line_runs.proofs.Others.{runs_so, stops_so}
use Rattle.line_runs.proofs.formed_runs.run_in_form.Goals as goal

pub returns-in_err-searches-clause-stops : goal.returns-in_err-searches-clause-stops
returns-in_err-searches-clause-stops g c =
    let e = err_from_is_err_and c.from_residual.result c.from_residual.ensures.1 in
    rw (e.1, e.2) (λ p r made. off_at_once _ _ _)

pub returns-in_err-searches-clause-counts : goal.returns-in_err-searches-clause-counts
returns-in_err-searches-clause-counts g c =
    let e = err_from_is_err_and c.from_residual.result c.from_residual.ensures.1 in
    rw (e.1, e.2) (refl, refl)

pub returns-in_err-report-clause-stops : goal.returns-in_err-report-clause-stops
returns-in_err-report-clause-stops g c =
    let v = c.args.validator.now in
    let form = c.args.form in
    let e = err_from_is_err_and c.from_residual-in_err-report.result c.from_residual-in_err-report.ensures.1 in
    rw (e.1, e.2) (λ p r made. stops_so (IsLineToldBy form v) (IsLineTold form p r) (λ line text so. (so.0, so.1.root p r made, so.2)) _ _ _ _ _ c.in_err-report.ensures.stops)

pub returns-in_err-report-clause-counts : goal.returns-in_err-report-clause-counts
returns-in_err-report-clause-counts g c =
    let e = err_from_is_err_and c.from_residual-in_err-report.result c.from_residual-in_err-report.ensures.1 in
    rw (e.1, e.2) c.in_err-report.ensures.counts

pub returns-clause-ok : goal.returns-clause-ok
returns-clause-ok g c = λ p r made.
    let v = c.args.validator.now in
    let form = c.args.form in
    runs_so (IsLineToldBy form v) (IsLineTold form p r) (λ line text so. (so.0, so.1.root p r made, so.2)) _ _ _ _ _ c.in_ok-report.report c.in_ok-report.ensures.ok
