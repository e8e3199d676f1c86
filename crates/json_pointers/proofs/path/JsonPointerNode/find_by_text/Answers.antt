use Rattle.std.proofs.Common.{ap, ◌∙◌}
use Rattle.std.specs.Result.{result_ok}
use Rattle.serde_json.specs.View.{view}
use Rattle.json_values.specs.Pointers.{locate}
use Rattle.json_pointers.specs.Lent.{path_of}
use Rattle.json_pointers.proofs.PathLemmas.{locate_path}
use Rattle.json_pointers.proofs.path.JsonPointerNode.find_by_text.Goals as goal

pub returns-clause-same : goal.returns-clause-same
returns-clause-same c = λ d leads.
    c.pointer.ensures
    ∙ ap (λ t. result_ok (locate t (view c.args.document.now))) (c.as_str.ensures.value ∙ c.in_ok-text.ensures.text)
    ∙ ap result_ok (locate_path (path_of c.args.self.now) (view c.args.document.now) d c.in_ok-text.ensures.fits leads)
