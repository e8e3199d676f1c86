use Rattle.serde_json.specs.View.{view}
use Rattle.json_schema_validator.specs.Roads.{RefusesBothGiven, both_given}
use Rattle.json_schema_validator.proofs.Forming.{are_form}
use Rattle.json_schema_validator.proofs.roads.added.Goals as goal

pub returns : goal.returns
returns g c =
    let m = c.args.moving.now in
    are_form _ _ _ c.args.options.now (both_given m) (RefusesBothGiven m) m.root_uri.now (view c.args.instance.now) c.two_documents-documents.result c.two_documents-documents.ensures.ok
    c.two_documents-documents.ensures.refused c.answer_from.result c.answer_from.ensures
