use Rattle.std.proofs.Common.{◌∙◌, codes, sym, ap}
use Rattle.std.specs.Prelude.{is_some}
use Rattle.serde_json.specs.View.{view}
use Rattle.applicator_reading.proofs.RowLemmas.{neighbour}
use Rattle.applicator_reading.proofs.ArmLemmas.{bound-refused}
use Rattle.applicator_reading.proofs.reading.bound.Goals as goal

pub returns-in-None-clause-read : goal.returns-in-None-clause-read
returns-in-None-clause-read c = λ x k s.
    bound-refused x k (view c.args.value.now) (ap is_some (neighbour c.args.neighbours x s (codes "contains")) ∙ sym c.is_beside.ensures ∙ c.if-is_beside.true) c.in-None.ensures
