use Rattle.serde_json.specs.View.{view}
use Rattle.schema_registries.specs.Roots.{root_on}
use Rattle.json_schema_validator.proofs.Joining.{accepted_refused}
use Rattle.json_schema_validator.proofs.checking.check_path.Goals as goal

pub returns-clause-refused : goal.returns-clause-refused
returns-clause-refused g c = λ made is.
    let p = g.P.PatternMaker.patterns c.args.maker.now in
    let r = root_on c.args.registry.now c.args.root.now in
    let path = c.args.path in
    accepted_refused p r (view c.args.value.now) path.instance_path.now path.evaluation_path.now c.in_ok-answer.answer c.in_ok-verdict.verdict (c.in_ok-answer.ensures made.sound)
    (c.in_ok-verdict.ensures.certified p r made) is
