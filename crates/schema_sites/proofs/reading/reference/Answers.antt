use Rattle.std.proofs.Common.{◌∙◌, sym, ap, subst, Result}
use Rattle.serde_json.specs.View.{view}
use Rattle.schema_definitions.specs.Lookup.{LookupCause, Target}
use Rattle.referencing.specs.Resolved.{base_of, scope_of}
use Rattle.schema_definitions.specs.Rows.{Row, led_to}
use Rattle.schema_sites.specs.Errors.{IsRefusalOf}
use Rattle.schema_sites.specs.References.{kind_of, name_of, reference_row, looked_up}
use Rattle.schema_sites.specs.Refused.{Refuses}
use Rattle.schema_sites.specs.Seen.{documents_at}
use Rattle.schema_sites.proofs.ArmLemmas.{value-refused}
use Rattle.schema_sites.proofs.ReferredLemmas.{looked-up, lookup-refused}
use Rattle.schema_sites.proofs.MadeLemmas.{same-row}
use Rattle.schema_sites.proofs.ResultLemmas.{if-ok, if-err, kept}
use Rattle.schema_sites.proofs.reading.reference.Goals as goal

pub returns-in_err-target-in-Ok-clause-refused : goal.returns-in_err-target-in-Ok-clause-refused
returns-in_err-target-in-Ok-clause-refused c =
    let site = c.args.site.now in
    let w = c.args.keyword in
    let d = view c.args.value.now in
    let text = c.in-Ok.text.now in
    let e = c.in_err-target-in-Ok.field-0.0 in
    kept c.from_residual.result (IsRefusalOf e) _ c.from_residual.ensures.1
    (λ r is. λ ms x s there.
    let same = looked-up site ms w x d text s c.in-Ok.ensures.said in
    let found = looked_up w (documents_at site) (base_of site.resolver) (scope_of site.resolver) text in
    subst (λ (row : Row). Refuses x (name_of w) d row r) (sym same) (lookup-refused (name_of w) (kind_of w) x d text found e r is c.in_err-target-in-Ok.ensures.refused))

pub returns-in_ok-target-in-Ok-clause-read : goal.returns-in_ok-target-in-Ok-clause-read
returns-in_ok-target-in-Ok-clause-read c =
    let site = c.args.site.now in
    let w = c.args.keyword in
    let d = view c.args.value.now in
    let text = c.in-Ok.text.now in
    if-ok _ _ c.led_to.result
    (λ k h. λ ms x s.
    let same = looked-up site ms w x d text s c.in-Ok.ensures.said in
    let led = ap (λ (a : Result Target LookupCause). led_to x (name_of w) (kind_of w) text a) c.in_ok-target-in-Ok.ensures.ok in
    same-row x (name_of w) (reference_row w x d) _ k (same ∙ led) (h x))
    c.led_to.ensures.read

pub returns-in_ok-target-in-Ok-clause-refused : goal.returns-in_ok-target-in-Ok-clause-refused
returns-in_ok-target-in-Ok-clause-refused c =
    let site = c.args.site.now in
    let w = c.args.keyword in
    let d = view c.args.value.now in
    let text = c.in-Ok.text.now in
    if-err _ _ c.led_to.result
    (λ r h. λ ms x s there.
    let same = looked-up site ms w x d text s c.in-Ok.ensures.said in
    let led = ap (λ (a : Result Target LookupCause). led_to x (name_of w) (kind_of w) text a) c.in_ok-target-in-Ok.ensures.ok in
    subst (λ (row : Row). Refuses x (name_of w) d row r) (sym (same ∙ led)) (h x d))
    c.led_to.ensures.refused

pub returns-in-Err-clause-refused : goal.returns-in-Err-clause-refused
returns-in-Err-clause-refused c = λ ms x s there.
    value-refused x (name_of c.args.keyword) c.in-Err.expected.now (reference_row c.args.keyword x (view c.args.value.now)) (c.in-Err.ensures.refused x)
