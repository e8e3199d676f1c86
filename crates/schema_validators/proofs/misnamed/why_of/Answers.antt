use Rattle.std.proofs.Common.{◌≡◌, ◌∙◌, ap, sym, subst}
use Rattle.std.proofs.lemmas.Slice.Eq.{bytes_eq-Decides}
use Rattle.document_index.specs.Checked.{unknown_by}
use Rattle.schema_validators.specs.Misnamed.{IsAskedIn}
use Rattle.schema_validators.proofs.misnamed.why_of.Goals as goal

pub returns-then-eq : goal.returns-then-eq
returns-then-eq c = λ docs all.
    let i = c.loop-one.one-index in
    let one = c.one-item.result in
    let here : IsAskedIn docs one = subst (IsAskedIn docs) (sym c.one-item.is) (all i one c.loop-one-test.true) in
    let same : one.uri ≡ c.args.uri.now =
    sym c.as_str.ensures.value ∙ (bytes_eq-Decides c.as_str.result.now c.as_str-in-loop-one.result.now).0 (sym c.eq.ensures ∙ c.if-eq.true) ∙ c.as_str-in-loop-one.ensures.value in
    here ∙ ap (unknown_by docs) same
