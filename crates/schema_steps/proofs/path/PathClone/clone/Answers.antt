use Rattle.std.proofs.Common.{◌∙◌}
use Rattle.std.proofs.lemmas.Result.{err_from_is_err_and}
use Rattle.schema_steps.specs.Steps.{step_part}
use Rattle.schema_steps.proofs.EqualLemmas.{no_part}
use Rattle.schema_steps.proofs.path.PathClone.clone.Goals as goal

pub returns-in_err-clone : goal.returns-in_err-clone
returns-in_err-clone c =
    let p = err_from_is_err_and c.from_residual.result c.from_residual.ensures.1 in
    rw p.1 (record { cases = λ e. c.in_err-clone.ensures.cases (no_part step_part c.self.inside.steps (c.self.view_is ∙ e)) })
