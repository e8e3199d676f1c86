use Rattle.std.proofs.Common.{◌≡◌, [], ◌∷◌, ◌∙◌, ◌||◌, codes, refl, sym, ap, ap₂, subst}
use Rattle.std.specs.Prelude.{is_some}
use Rattle.serde_json.specs.View.{view}
use Rattle.schema_meaning.specs.Keywords.{condition}
use Rattle.schema_definitions.specs.Rows.{Row, Context, reads, at, beside}
use Rattle.applicator_reading.specs.Beside.{Surrounds, schema_in, beside_in}
use Rattle.applicator_reading.specs.Reads.{ReadsAs, site_in}
use Rattle.applicator_reading.specs.declared.neighbours.Neighbours.{Neighbours}
use Rattle.applicator_reading.proofs.RowLemmas.{neighbour, plainly}
use Rattle.applicator_reading.proofs.ArmLemmas.{condition-there, condition-alone, condition_shape, schema-there}
use Rattle.applicator_reading.proofs.reading.condition.Goals as goal

either-beside : (n : Neighbours) (x : Context) → Surrounds n x
    → (is_some (beside x (codes "then")) || is_some (beside x (codes "else"))) ≡ (is_some (beside_in n (codes "then")) || is_some (beside_in n (codes "else")))
either-beside n x s = ap₂ (λ a b. is_some a || is_some b) (neighbour n x s (codes "then")) (neighbour n x s (codes "else"))

pub returns-then-has_consequent-clause-read : goal.returns-then-has_consequent-clause-read
returns-then-has_consequent-clause-read c = λ x s.
    let n = c.args.neighbours in
    let d = view c.args.value.now in
    let t = site_in x (at (codes "if")) d in
    subst (λ (row : Row). ReadsAs x (codes "if") row c.if_schema.result) (sym (condition-there x (codes "if") d (either-beside n x s ∙ sym c.has_consequent.ensures ∙ c.if-has_consequent.true)))
    (c.if_schema.ensures.read x (codes "if") (condition_shape x (codes "if") d)
    (plainly x (codes "if") _ _ refl
    (ap₂ (λ a b. reads (t ∷ []) (condition t a b ∷ []))
    (schema-there x (codes "then") c.schema_beside-then_schema.result (c.schema_beside-then_schema.ensures ∙ sym (ap schema_in (neighbour n x s (codes "then")))))
    (schema-there x (codes "else") c.schema_beside-else_schema.result (c.schema_beside-else_schema.ensures ∙ sym (ap schema_in (neighbour n x s (codes "else"))))))))

pub returns-else-has_consequent-clause-read : goal.returns-else-has_consequent-clause-read
returns-else-has_consequent-clause-read c = λ x s. condition-alone x (codes "if") (view c.args.value.now) (either-beside c.args.neighbours x s ∙ sym c.has_consequent.ensures ∙ c.if-has_consequent.false)

pub returns-then-has_consequent-clause-condition : goal.returns-then-has_consequent-clause-condition
returns-then-has_consequent-clause-condition c =
    c.if_schema.ensures.condition c.args.value (record { then_schema = c.schema_beside-then_schema.result; else_schema = c.schema_beside-else_schema.result; named = refl; asked = refl; combined = refl })
