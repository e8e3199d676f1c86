use Rattle.std.proofs.lemmas.Result.{IfOk-weaker, IfErr-weaker}
use Rattle.line_runs.specs.Runs.{IsLineTextCertain, IsLineText}
use Rattle.line_runs.proofs.Others.{runs_so, stops_so}
use Rattle.line_runs.proofs.running.run_directly.Goals as goal

pub returns-clause-ok : goal.returns-clause-ok
returns-clause-ok g c =
    let v = c.args.validator.now in
    IfOk-weaker c.answer_lines.result _ _
    (λ report h p r made. runs_so (IsLineTextCertain v) (IsLineText p r) (λ line text so. (so.0, so.1.root p r made, so.2)) _ _ _ _ _ report h) c.answer_lines.ensures.ok

pub returns-clause-stops : goal.returns-clause-stops
returns-clause-stops g c =
    let v = c.args.validator.now in
    IfErr-weaker c.answer_lines.result _ _
    (λ e h p r made. stops_so (IsLineTextCertain v) (IsLineText p r) (λ line text so. (so.0, so.1.root p r made, so.2)) e _ _ _ _ h) c.answer_lines.ensures.stops
