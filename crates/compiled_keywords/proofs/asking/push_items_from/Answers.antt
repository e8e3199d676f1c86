use Rattle.std.proofs.Common.{ap, map, arith}
use Rattle.std.proofs.lemmas.List.{at_drop_all}
use Rattle.serde_json.specs.View.{items_view}
use Rattle.schema_meaning.specs.Questions.{each_item}
use Rattle.compiled_keywords.specs.Forms.{alone, whole_at}
use Rattle.compiled_keywords.proofs.PushLemmas.{put_start, put_done, drop_items}
use Rattle.compiled_keywords.proofs.asking.push_items_from.Goals as goal

pub loop-index-init : goal.loop-index-init
loop-index-init c = λ k. put_start (whole_at k) _ _ _ (ap (λ ds. map alone (each_item k c.args.node c.args.start ds)) (drop_items c.args.start c.args.items.now))

pub returns : goal.returns
returns c = λ k.
    let i = c.loop-index.index in
    put_done (whole_at k) _ _ _ _ (at_drop_all (λ vs. map alone (each_item k c.args.node i (items_view vs))) c.args.items.now i (omega (arith, c.loop-index-test.false))) (c.loop-index.invariant k)
