use Rattle.std.proofs.Common.{◌≡◌, ℕ, ◌<◌, ◌≤◌, List, [], ◌∷◌, length, drop, Less, refl, sym, ◌∙◌, arith, drop-cons}
use Rattle.std.proofs.lemmas.List.{drop_all}
use Rattle.serde_json.specs.declared.value.Value.{Value}
use Rattle.serde_json.specs.View.{items_view}
use Rattle.value_checks.specs.Order.{items_order}
use Rattle.value_checks.proofs.order.+order.Goals as goal

shorter : (xs ys : List Value) (i : ℕ) → length xs ≤ i → i < length ys → items_order (items_view (drop i xs)) (items_view (drop i ys)) ≡ Less
shorter xs [] i p q = absurd (omega arith)
shorter xs (y ∷ ys) i p q = rw (drop_all i xs, drop-cons (y ∷ ys) i y) refl

pub compare_items-returns-then-ones-others : goal.compare_items-returns-then-ones-others
compare_items-returns-then-ones-others t c =
    let l = c.loop-index in
    sym (l.invariant.same ∙ shorter c.args.ones.now c.args.others.now l.index (omega arith) (omega arith))
