use Rattle.std.proofs.Common.{[], map, append-nil, ap, subst, sym}
use Rattle.std.specs.List.{AllZip}
use Rattle.serde_json.specs.View.{view}
use Rattle.schema_reports.specs.Left.{errors_left}
use Rattle.error_texts.specs.Objects.{IsObject}
use Rattle.error_texts.proofs.objects.error_values.Goals as goal

pub returns : goal.returns
returns c =
    let all = errors_left c.into_iter-error-iterator.result in
    let objects = map view c.loop-error.values.items in
    let last = c.loop-error.invariant [] (subst (λ es. AllZip IsObject es []) (sym c.in-None.ensures.steps.0) tt) in
    let whole = subst (AllZip IsObject all) (append-nil objects) last in
    subst (λ es. AllZip IsObject es objects) (ap errors_left c.into_iter-error-iterator.ensures.into_iter_gives) whole
