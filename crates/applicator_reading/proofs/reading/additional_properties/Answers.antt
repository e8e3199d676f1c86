use Rattle.std.proofs.Common.{[], ◌∷◌, ◌∙◌, Some, codes, refl, sym, ap, subst}
use Rattle.serde_json.specs.View.{view}
use Rattle.schema_meaning.specs.Questions.{Declared}
use Rattle.schema_meaning.specs.Keywords.{additional_properties}
use Rattle.schema_definitions.specs.Rows.{Row, reads, at, declared_beside}
use Rattle.applicator_reading.specs.Reads.{ReadsAs, site_in}
use Rattle.applicator_reading.proofs.RowLemmas.{plainly}
use Rattle.applicator_reading.proofs.ArmLemmas.{others-row, others-allowed, others-refused, declared-there}
use Rattle.applicator_reading.proofs.reading.additional_properties.Goals as goal

pub returns-in-Some-true-clause-read : goal.returns-in-Some-true-clause-read
returns-in-Some-true-clause-read c = λ x s.
    others-allowed x (codes "additionalProperties") (view c.args.value.now) (ap Some (sym c.in-Some-true.field-0-test) ∙ c.in-Some-true.ensures)

pub returns-in-Some-false-clause-read : goal.returns-in-Some-false-clause-read
returns-in-Some-false-clause-read c = λ x s.
    plainly x (codes "additionalProperties") _ c.refusing_others.result c.refusing_others.ensures.patterns
    (others-refused x (codes "additionalProperties") (view c.args.value.now) c.refusing_others.result (ap Some (sym c.in-Some-false.field-0-test) ∙ c.in-Some-false.ensures)
    (c.refusing_others.ensures.shape x s) (c.refusing_others.ensures.leads x))

pub returns-in-None-clause-read : goal.returns-in-None-clause-read
returns-in-None-clause-read c = λ x s.
    let k = codes "additionalProperties" in
    let d = view c.args.value.now in
    let t = site_in x (at k) d in
    let declared = c.declared_beside.ensures ∙ sym (declared-there c.args.neighbours x s) in
    subst (λ (row : Row). ReadsAs x k row c.if_schema.result) (sym (others-row x k d c.in-None.ensures))
    (c.if_schema.ensures.read x k (λ s. additional_properties (declared_beside x) s ∷ [])
    (plainly x k _ _ refl (ap (λ (w : Declared). reads (t ∷ []) (additional_properties w t ∷ [])) (sym declared))))
