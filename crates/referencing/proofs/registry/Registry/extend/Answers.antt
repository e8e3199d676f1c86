use Rattle.std.proofs.Common.{◌≡◌, rules, inr}
use Rattle.std.specs.Result.{IsErrAnd}
use Rattle.document_index.proofs.CauseNames.{kept}
use Rattle.referencing.proofs.registry.Registry.extend.Goals as goal

pub returns-in_err-builder-clause-refused : goal.returns-in_err-builder-clause-refused
returns-in_err-builder-clause-refused g c =
    let error = c.in_err-builder.field-0.0.error in
    let stopped = c.in_err-builder.ensures.refused in
    let same : IsErrAnd c.from_residual-in_err-builder.result (λ e. e ≡ error) = search rules in
    kept c.from_residual-in_err-builder.result error _ same (inr (stopped.0, stopped.1, stopped.2, stopped.3, stopped.4, stopped.5, stopped.6.0, stopped.7))
