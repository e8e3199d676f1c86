use Rattle.std.proofs.Common.{◌≡◌, [], ◌∷◌, ◌∙◌, ℕ, Option, Some, None, option_map, codes, refl, sym, ap, subst}
use Rattle.std.specs.Prelude.{option_and_then}
use Rattle.serde_json.specs.Find.{as_array}
use Rattle.serde_json.specs.View.{view}
use Rattle.json_values.specs.Texts.{count_items}
use Rattle.schema_meaning.specs.Keywords.{additional_items, no_additional_items}
use Rattle.schema_definitions.specs.Rows.{Row, Context, reads, at, beside, is_false}
use Rattle.applicator_reading.specs.Beside.{Surrounds, list_in, beside_in}
use Rattle.applicator_reading.specs.Reads.{ReadsAs, site_in}
use Rattle.applicator_reading.specs.declared.neighbours.Neighbours.{Neighbours}
use Rattle.applicator_reading.proofs.RowLemmas.{neighbour, plainly, if-true, if-false}
use Rattle.applicator_reading.proofs.ArmLemmas.{behind-none, behind-some, behind_shape}
use Rattle.applicator_reading.proofs.reading.additional_items.Goals as goal

list-there : (n : Neighbours) (x : Context) (o : Option ℕ) → Surrounds n x → o ≡ option_map count_items (list_in (beside_in n (codes "items")))
    → o ≡ option_map (λ ds. count_items ds) (option_and_then as_array (beside x (codes "items")))
list-there n x o s h = h ∙ sym (ap (λ e. option_map count_items (option_and_then as_array e)) (neighbour n x s (codes "items")))

pub returns-in_default-clause-read : goal.returns-in_default-clause-read
returns-in_default-clause-read c = λ x s.
    behind-none x (codes "additionalItems") (view c.args.value.now) (option_and_then as_array (beside x (codes "items"))) (list-there c.args.neighbours x None s c.in_default.ensures)

pub returns-then-is_false-clause-read : goal.returns-then-is_false-clause-read
returns-then-is_false-clause-read c = λ x s.
    let k = codes "additionalItems" in
    let d = view c.args.value.now in
    let start = c.in-Some.start in
    let t = site_in x (at k) d in
    subst (λ (row : Row). ReadsAs x k row c.if_schema.result) (sym (behind-some x k d (option_and_then as_array (beside x (codes "items"))) start (list-there c.args.neighbours x (Some start) s c.in-Some.ensures)))
    (c.if_schema.ensures.read x k (behind_shape x k d start)
    (plainly x k _ _ refl (ap (λ shape. reads (t ∷ []) (shape ∷ [])) (if-true (is_false d) (no_additional_items start t) (additional_items start t) (sym c.is_false.ensures ∙ c.if-is_false.true)))))

pub returns-else-is_false-clause-read : goal.returns-else-is_false-clause-read
returns-else-is_false-clause-read c = λ x s.
    let k = codes "additionalItems" in
    let d = view c.args.value.now in
    let start = c.in-Some.start in
    let t = site_in x (at k) d in
    subst (λ (row : Row). ReadsAs x k row c.if_schema-else-is_false.result) (sym (behind-some x k d (option_and_then as_array (beside x (codes "items"))) start (list-there c.args.neighbours x (Some start) s c.in-Some.ensures)))
    (c.if_schema-else-is_false.ensures.read x k (behind_shape x k d start)
    (plainly x k _ _ refl (ap (λ shape. reads (t ∷ []) (shape ∷ [])) (if-false (is_false d) (no_additional_items start t) (additional_items start t) (sym c.is_false.ensures ∙ c.if-is_false.false)))))
