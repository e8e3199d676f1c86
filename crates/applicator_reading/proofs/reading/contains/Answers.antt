use Rattle.std.proofs.Common.{[], ◌∷◌, ◌∙◌, codes, refl, sym, ap, ap₂}
use Rattle.std.specs.Prelude.{option_and_then}
use Rattle.serde_json.specs.View.{view}
use Rattle.schema_meaning.specs.Keywords.{contains}
use Rattle.schema_definitions.specs.Values.{count_of}
use Rattle.schema_definitions.specs.Rows.{reads, at, beside}
use Rattle.applicator_reading.specs.Reads.{site_in}
use Rattle.applicator_reading.proofs.RowLemmas.{neighbour, plainly}
use Rattle.applicator_reading.proofs.reading.contains.Goals as goal

pub returns-clause-read : goal.returns-clause-read
returns-clause-read c = λ x s.
    let t = site_in x (at (codes "contains")) (view c.args.value.now) in
    c.if_schema.ensures.read x (codes "contains") (λ s. contains s (option_and_then count_of (beside x (codes "minContains"))) (option_and_then count_of (beside x (codes "maxContains"))) ∷ [])
    (plainly x (codes "contains") _ _ refl
    (ap₂ (λ least most. reads (t ∷ []) (contains t least most ∷ []))
    (ap (option_and_then count_of) (neighbour c.args.neighbours x s (codes "minContains")) ∙ sym c.count_beside-least.ensures)
    (ap (option_and_then count_of) (neighbour c.args.neighbours x s (codes "maxContains")) ∙ sym c.count_beside-most.ensures)))
