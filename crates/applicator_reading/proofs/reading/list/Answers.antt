use Rattle.std.proofs.Common.{◌∙◌, ◌≡◌, Some, ap}
use Rattle.serde_json.specs.Find.{as_array}
use Rattle.serde_json.specs.View.{view, items_view}
use Rattle.applicator_reading.specs.Reads.{site_in}
use Rattle.applicator_reading.specs.Arms.{list_name}
use Rattle.applicator_reading.proofs.RowLemmas.{plainly}
use Rattle.applicator_reading.proofs.ListLemmas.{list-right, list-wrong, list-other}
use Rattle.applicator_reading.proofs.reading.list.Goals as goal

pub returns-in_default-clause-read : goal.returns-in_default-clause-read
returns-in_default-clause-read c = λ x. list-other c.args.keyword x (view c.args.value.now) c.word.result.now c.in_default.ensures c.word.ensures

pub returns-in-Some-other_item-clause-read : goal.returns-in-Some-other_item-clause-read
returns-in-Some-other_item-clause-read c = λ x.
    let ds = items_view c.as_slice-schemas.result.now in
    let there : Some ds ≡ as_array (view c.args.value.now) = ap (λ vs. Some (items_view vs)) c.as_slice-schemas.ensures.value ∙ c.in-Some.ensures in
    list-wrong c.args.keyword x (view c.args.value.now) ds c.in-Some-other_item.index there c.in-Some-other_item.ensures

pub returns-in-None-clause-read : goal.returns-in-None-clause-read
returns-in-None-clause-read c = λ x.
    let ds = items_view c.as_slice-schemas.result.now in
    let there : Some ds ≡ as_array (view c.args.value.now) = ap (λ vs. Some (items_view vs)) c.as_slice-schemas.ensures.value ∙ c.in-Some.ensures in
    plainly x (list_name c.args.keyword) _ c.applied.result c.applied.ensures.patterns
    (list-right c.args.keyword x (view c.args.value.now) ds c.applied.result there c.in-None.ensures (c.applied.ensures.shape (site_in x)) (c.applied.ensures.leads (site_in x)))
