use Rattle.std.proofs.Common.{◌≡◌, rules, inl}
use Rattle.std.specs.Result.{IsErrAnd}
use Rattle.document_index.proofs.CauseNames.{kept}
use Rattle.referencing.proofs.registry.Registry.from_meta_schemas.Goals as goal

pub returns-in_err-extend-clause-refused : goal.returns-in_err-extend-clause-refused
returns-in_err-extend-clause-refused g c =
    let error = c.in_err-extend.field-0.0.error in
    let stopped = c.in_err-extend.ensures.refused in
    let same : IsErrAnd c.from_residual.result (λ e. e ≡ error) = search rules in
    kept c.from_residual.result error _ same (inl (stopped.0, stopped.1, stopped.2, stopped.3, stopped.4, stopped.5, stopped.6.0, stopped.7))
