use Rattle.serde_json.specs.View.{view}
use Rattle.json_schema_validator.specs.Roads.{RefusesRootGiven, root_given}
use Rattle.json_schema_validator.proofs.Forming.{are_form}
use Rattle.json_schema_validator.proofs.roads.alone.Goals as goal

pub returns : goal.returns
returns g c =
    let m = c.args.moving.now in
    are_form _ _ _ c.args.options.now (root_given m) (RefusesRootGiven m) m.root_uri.now (view c.args.instance.now) c.one_document-documents.result c.one_document-documents.ensures.ok
    c.one_document-documents.ensures.refused c.answer_from.result c.answer_from.ensures
