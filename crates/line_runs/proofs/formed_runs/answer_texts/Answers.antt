use Rattle.std.proofs.Common.{refl}
use Rattle.std.proofs.lemmas.Result.{err_from_is_err_and}
use Rattle.line_runs.specs.Forms.{IsLineToldBy, IsLineTold}
use Rattle.line_runs.proofs.Others.{each_so, breaks_at_so}
use Rattle.line_runs.proofs.Starting.{breaks_at_once}
use Rattle.line_runs.proofs.formed_runs.answer_texts.Goals as goal

pub returns-in_err-searches-clause-breaks : goal.returns-in_err-searches-clause-breaks
returns-in_err-searches-clause-breaks g c =
    let e = err_from_is_err_and c.from_residual.result c.from_residual.ensures.1 in
    rw (e.1) (λ p r made. breaks_at_once _ _ _)

pub returns-in_err-searches-clause-failed : goal.returns-in_err-searches-clause-failed
returns-in_err-searches-clause-failed g c =
    let e = err_from_is_err_and c.from_residual.result c.from_residual.ensures.1 in
    rw (e.1, e.2) refl

pub returns-in_err-report-clause-failed : goal.returns-in_err-report-clause-failed
returns-in_err-report-clause-failed g c =
    let e = err_from_is_err_and c.from_residual-in_err-report.result c.from_residual-in_err-report.ensures.1 in
    rw (e.1, e.2) c.in_err-report.ensures.failed

pub returns-in_err-report-clause-breaks : goal.returns-in_err-report-clause-breaks
returns-in_err-report-clause-breaks g c =
    let v = c.args.validator.now in
    let form = c.args.form in
    let e = err_from_is_err_and c.from_residual-in_err-report.result c.from_residual-in_err-report.ensures.1 in
    rw (e.1) (λ p r made. breaks_at_so (IsLineToldBy form v) (IsLineTold form p r) (λ line text so. (so.0, so.1.root p r made, so.2)) _ _ _ c.in_err-report.ensures.breaks)

pub returns-clause-ok : goal.returns-clause-ok
returns-clause-ok g c = λ p r made.
    let v = c.args.validator.now in
    let form = c.args.form in
    each_so (IsLineToldBy form v) (IsLineTold form p r) (λ line text so. (so.0, so.1.root p r made, so.2)) _ _ _ _ c.in_ok-report.report c.in_ok-report.ensures.ok
