use Rattle.std.proofs.Common.{[], ◌∙◌, codes, refl, sym, ap, subst}
use Rattle.std.specs.Prelude.{is_some}
use Rattle.serde_json.specs.View.{view}
use Rattle.schema_definitions.specs.Rows.{Row}
use Rattle.applicator_reading.specs.Reads.{ReadsAs}
use Rattle.applicator_reading.proofs.RowLemmas.{neighbour}
use Rattle.applicator_reading.proofs.ArmLemmas.{consequent-there, consequent-alone}
use Rattle.applicator_reading.proofs.reading.consequent.Goals as goal

pub returns-then-is_beside-clause-read : goal.returns-then-is_beside-clause-read
returns-then-is_beside-clause-read c = λ x k s.
    let d = view c.args.value.now in
    subst (λ (row : Row). ReadsAs x k row c.if_schema.result)
    (sym (consequent-there x k d (ap is_some (neighbour c.args.neighbours x s (codes "if")) ∙ sym c.is_beside.ensures ∙ c.if-is_beside.true))) (c.if_schema.ensures.read x k (λ s. []) refl)

pub returns-else-is_beside-clause-read : goal.returns-else-is_beside-clause-read
returns-else-is_beside-clause-read c = λ x k s.
    consequent-alone x k (view c.args.value.now) (ap is_some (neighbour c.args.neighbours x s (codes "if")) ∙ sym c.is_beside.ensures ∙ c.if-is_beside.false)

pub returns-then-is_beside-clause-consequent : goal.returns-then-is_beside-clause-consequent
returns-then-is_beside-clause-consequent c = c.if_schema.ensures.consequent c.args.value refl
