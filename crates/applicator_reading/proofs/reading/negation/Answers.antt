use Rattle.std.proofs.Common.{[], ◌∷◌, codes, refl}
use Rattle.serde_json.specs.View.{view}
use Rattle.schema_meaning.specs.Keywords.{negation}
use Rattle.applicator_reading.proofs.RowLemmas.{plainly}
use Rattle.applicator_reading.proofs.reading.negation.Goals as goal

pub returns-clause-read : goal.returns-clause-read
returns-clause-read c = λ x. c.if_schema.ensures.read x (codes "not") (λ s. negation (view c.args.value.now) s ∷ []) (plainly x (codes "not") _ _ refl refl)
