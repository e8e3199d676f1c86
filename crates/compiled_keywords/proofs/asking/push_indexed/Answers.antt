use Rattle.std.proofs.Common.{◌∙◌, ap, drop, map, arith}
use Rattle.std.proofs.lemmas.List.{at_drop_all}
use Rattle.serde_json.specs.View.{items_view}
use Rattle.schema_meaning.specs.Questions.{item_by_item}
use Rattle.compiled_keywords.specs.Forms.{alone, index_at}
use Rattle.compiled_keywords.proofs.PushLemmas.{put_done, no_items_left}
use Rattle.compiled_keywords.proofs.asking.push_indexed.Goals as goal

pub returns-then-index-items : goal.returns-then-index-items
returns-then-index-items c = λ k.
    let i = c.loop-index.index in
    let nodes = drop i c.args.nodes.now in
    put_done (index_at k) _ _ _ _
    (at_drop_all (λ vs. map alone (item_by_item k nodes i (items_view vs))) c.args.items.now i (omega (arith, c.if-index-items.true)) ∙ ap (map alone) (no_items_left k nodes i)) (c.loop-index.invariant k)

pub returns : goal.returns
returns c = λ k.
    let i = c.loop-index.index in
    put_done (index_at k) _ _ _ _ (at_drop_all (λ ns. map alone (item_by_item k ns i (items_view (drop i c.args.items.now)))) c.args.nodes.now i (omega (arith, c.loop-index-test.false))) (c.loop-index.invariant k)
