use Rattle.serde_json.specs.View.{view}
use Rattle.schema_validators.proofs.Agreeing.{verdicts_equal}
use Rattle.schema_validators.proofs.agreement.is_valid_by_both.Goals as goal

pub returns-clause-equal : goal.returns-clause-equal
returns-clause-equal g c = λ p r left right.
    verdicts_equal p r (view c.args.value.now) c.in_ok-first.first c.in_ok-second.second (c.in_ok-first.ensures.verdict p r left) (c.in_ok-second.ensures.verdict p r right)
