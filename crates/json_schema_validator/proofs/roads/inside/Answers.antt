use Rattle.std.proofs.Common.{[], ◌∷◌, subst}
use Rattle.serde_json.specs.View.{view}
use Rattle.schema_registries.specs.Seen.{given_under}
use Rattle.moved_documents.specs.Joining.{IsJoined}
use Rattle.json_schema_validator.specs.Answers.{RefusesDocument}
use Rattle.json_schema_validator.proofs.Forming.{are_form, are_inside}
use Rattle.json_schema_validator.proofs.roads.inside.Goals as goal

pub returns-in-Whole : goal.returns-in-Whole
returns-in-Whole g c =
    let m = c.args.moving.now in
    let o = c.args.options.now in
    let d = view c.args.instance.now in
    let whole = view c.in-Whole.whole in
    let joined = subst (λ j. IsJoined (view m.root.now) (view m.moved.now) m.fresh.now j) c.in-Whole.is c.in_ok-whole.ensures in
    let formed = are_form _ _ _ o (given_under m.root_uri.now whole ∷ []) (RefusesDocument m.root_uri.now whole) m.root_uri.now d c.one_document-documents.result
    c.one_document-documents.ensures.ok c.one_document-documents.ensures.refused c.answer_from.result c.answer_from.ensures in
    are_inside _ _ _ o m d whole joined c.answer_from.result formed
