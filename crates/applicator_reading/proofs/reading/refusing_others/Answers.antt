use Rattle.std.proofs.Common.{◌∙◌, codes, sym}
use Rattle.serde_json.specs.View.{view}
use Rattle.schema_definitions.specs.Rows.{at}
use Rattle.applicator_reading.specs.Reads.{site_in}
use Rattle.applicator_reading.proofs.ArmLemmas.{declared-there, alone-there, others-named, others-alone}
use Rattle.applicator_reading.proofs.reading.refusing_others.Goals as goal

pub returns-then-is_alone-clause-shape : goal.returns-then-is_alone-clause-shape
returns-then-is_alone-clause-shape c = λ x s.
    others-alone x (site_in x (at (codes "additionalProperties")) (view c.args.schema.now)) (alone-there c.args.neighbours x s ∙ sym c.is_alone.ensures ∙ c.if-is_alone.true)

pub returns-clause-shape : goal.returns-clause-shape
returns-clause-shape c = λ x s.
    others-named x (site_in x (at (codes "additionalProperties")) (view c.args.schema.now)) _ (alone-there c.args.neighbours x s ∙ sym c.is_alone.ensures ∙ c.if-is_alone.false)
    (c.declared_beside.ensures ∙ sym (declared-there c.args.neighbours x s))
