use Rattle.std.proofs.Common.{arith, bytes_eq, ap, ◌∙◌}
use Rattle.std.specs.List.{list_any}
use Rattle.schema_patterns.proofs.Found.{key_inserted, one_more}
use Rattle.schema_patterns.proofs.texts.distinct.Goals as goal

pub loop-text-preserved : goal.loop-text-preserved
loop-text-preserved c = λ t.
    one_more (λ k. bytes_eq t k.now) c.args.texts.now c.loop-text.text-index _ _ _ (omega arith) (c.loop-text.invariant t)
    (ap (λ ks. list_any (λ k. bytes_eq t k.now) ks) c.in_ok-insert.ensures.keys ∙ key_inserted c.loop-text.seen.keys _ t)
