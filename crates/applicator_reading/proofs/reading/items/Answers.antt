use Rattle.std.proofs.Common.{◌≡◌, ◌∙◌, Bool, true, false, codes, refl, sym, ap, subst}
use Rattle.serde_json.specs.View.{view}
use Rattle.schema_definitions.specs.Places.{Dialect}
use Rattle.schema_definitions.specs.Rows.{Row, Context, length_of_list, takes_list}
use Rattle.applicator_reading.specs.Beside.{Surrounds}
use Rattle.applicator_reading.specs.Reads.{ReadsAs}
use Rattle.applicator_reading.specs.declared.neighbours.Neighbours.{Neighbours}
use Rattle.applicator_reading.proofs.RowLemmas.{neighbour, plainly}
use Rattle.applicator_reading.proofs.ArmLemmas.{items-one, items-list, items-refused}
use Rattle.applicator_reading.proofs.reading.items.Goals as goal

takes-there : (n : Neighbours) (x : Context) (b : Bool) → Surrounds n x → takes_list n.dialect.draft ≡ b → takes_list x.site.dialect.draft ≡ b
takes-there n x b s h = ap (λ (y : Dialect). takes_list y.draft) s.dialect ∙ h

pub returns-then-is_schema-clause-read : goal.returns-then-is_schema-clause-read
returns-then-is_schema-clause-read c = λ x s.
    plainly x (codes "items") _ _ refl
    (items-one x (codes "items") (view c.args.value.now) c.prefix_length.result (sym c.is_schema.ensures ∙ c.if-is_schema.true)
    (c.prefix_length.ensures ∙ sym (ap length_of_list (neighbour c.args.neighbours x s (codes "prefixItems")))))

pub returns-then-takes_list-clause-read : goal.returns-then-takes_list-clause-read
returns-then-takes_list-clause-read c = λ x s.
    subst (λ (row : Row). ReadsAs x (codes "items") row c.list.result)
    (sym (items-list x (codes "items") (view c.args.value.now) (sym c.is_schema.ensures ∙ c.if-is_schema.false) (takes-there c.args.neighbours x true s (sym c.takes_list.ensures ∙ c.if-takes_list.true))))
    (c.list.ensures.read x)

pub returns-else-takes_list-clause-read : goal.returns-else-takes_list-clause-read
returns-else-takes_list-clause-read c = λ x s.
    items-refused x (codes "items") (view c.args.value.now) (sym c.is_schema.ensures ∙ c.if-is_schema.false) (takes-there c.args.neighbours x false s (sym c.takes_list.ensures ∙ c.if-takes_list.false))
