use Rattle.std.proofs.Common.{◌≡◌, ap, drop, arith}
use Rattle.serde_json.specs.View.{items_view, members_view}
use Rattle.std.proofs.lemmas.List.{drop_all}
use Rattle.schema_definitions.specs.Bearers.{schemas_named_in, schemas_named_among}
use Rattle.document_index.proofs.counting.+named.Goals as goal

pub schemas_named_among-returns : goal.schemas_named_among-returns
schemas_named_among-returns t c =
    let rest : schemas_named_among (members_view c.loop-name.name-iterator) ≡ 0 = ap (λ es. schemas_named_among (members_view es)) c.in-None.ensures.steps.0 in
    (omega (arith, c.loop-name.invariant.counted, c.loop-name.invariant.fits, rest), omega (arith, c.loop-name.invariant.counted, rest))

pub schemas_named_in-returns : goal.schemas_named_in-returns
schemas_named_in-returns t c =
    let is = c.args.items.now in
    let rest : schemas_named_in (items_view (drop c.loop-item.item-index is)) ≡ 0 =
    ap (λ l. schemas_named_in (items_view l)) (drop_all c.loop-item.item-index is c.loop-item-test.false) in
    (omega (arith, c.loop-item.invariant.counted, c.loop-item.invariant.fits, rest), omega (arith, c.loop-item.invariant.counted, rest))
