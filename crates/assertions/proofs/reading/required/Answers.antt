use Rattle.std.proofs.Common.{ap}
use Rattle.serde_json.specs.View.{view, items_view}
use Rattle.assertions.proofs.NameLemmas.{required-list, required-other}
use Rattle.assertions.proofs.reading.required.Goals as goal

pub returns-in_ok-list-in-Some : goal.returns-in_ok-list-in-Some
returns-in_ok-list-in-Some c = λ x.
    required-list x (view c.args.value.now) (items_view c.in-Some.names.now.items) (items_view c.as_slice-in-Some.result.now) c.listed_names.result c.in-Some.ensures
    (ap items_view c.as_slice-in-Some.ensures.value) (c.listed_names.ensures x)

pub returns-in-None : goal.returns-in-None
returns-in-None c = λ x. required-other x (view c.args.value.now) c.asserted.result c.in-None.ensures c.asserted.ensures
