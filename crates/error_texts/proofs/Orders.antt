-- The order of pairs of texts, and lists in that order.
use Rattle.std.proofs.Common.{◌≡◌, ◌∙◌, ℕ, List, true, false, Ordering, Less, Equal, Greater, nat_cmp, is_eq, is_le, is_lt, is_gt, refl, sym, ap}
use Rattle.std.specs.Ordering.{ordering_then, ordering_reverse}
use Rattle.std.specs.Cmp.{IsTotalOrder}
use Rattle.std.specs.Cmp.Lexicographic.{slice_cmp, bytes_decides, texts_ties}
use Rattle.std.proofs.lemmas.Bool.{false≢true}
use Rattle.std.proofs.lemmas.Cmp.{nat_list_cmp_total, on_total, then_total, upto, tied_itself}
use Rattle.schema_definitions.specs.Lines.{comes_first}

abbrev pub Pair : Type 0
Pair = List ℕ × List ℕ

abbrev pub pair_cmp : Pair → Pair → Ordering
pair_cmp p q = ordering_then (slice_cmp nat_cmp p.0 q.0) (slice_cmp nat_cmp p.1 q.1)

pub pairs_total : IsTotalOrder pair_cmp
pairs_total = then_total (on_total (λ (p : Pair). p.0) nat_list_cmp_total) (on_total (λ (p : Pair). p.1) nat_list_cmp_total)

by_first : (o r : Ordering) → (elim o [ Less ↦ true | Equal ↦ is_le r | Greater ↦ false ]) ≡ is_le (ordering_then o r)
by_first Less r = refl
by_first Equal r = refl
by_first Greater r = refl

first-cmp : (p q : Pair) → comes_first p q ≡ is_le (pair_cmp p q)
first-cmp p q = by_first (slice_cmp nat_cmp p.0 q.0) (slice_cmp nat_cmp p.1 q.1)

-- ---- the order's laws

either_way : (o : Ordering) → is_le o ≡ false → is_le (ordering_reverse o) ≡ true
either_way Less e = absurd (false≢true (sym e))
either_way Equal e = refl
either_way Greater e = refl

pub turned : (p q : Pair) → comes_first p q ≡ false → comes_first q p ≡ true
turned p q e = first-cmp q p ∙ ap is_le (pairs_total.antisymm q p) ∙ either_way (pair_cmp p q) (sym (first-cmp p q) ∙ e)

not_gt : (o : Ordering) → is_le o ≡ true → is_gt o ≡ false
not_gt Less e = refl
not_gt Equal e = refl
not_gt Greater e = absurd (false≢true e)

of_not_gt : (o : Ordering) → is_gt o ≡ false → is_le o ≡ true
of_not_gt Less e = refl
of_not_gt Equal e = refl
of_not_gt Greater e = absurd (false≢true (sym e))

pub along : (p q r : Pair) → comes_first p q ≡ true → comes_first q r ≡ true → comes_first p r ≡ true
along p q r a b =
    first-cmp p r ∙ of_not_gt (pair_cmp p r) (upto pairs_total p q r (not_gt (pair_cmp p q) (sym (first-cmp p q) ∙ a)) (not_gt (pair_cmp q r) (sym (first-cmp q r) ∙ b)))

pub itself : (p : Pair) → comes_first p p ≡ true
itself p = first-cmp p p ∙ ap is_le (tied_itself pairs_total p)

tied : (o : Ordering) → is_le o ≡ true → is_le (ordering_reverse o) ≡ true → is_eq o ≡ true
tied Less a b = absurd (false≢true b)
tied Equal a b = refl
tied Greater a b = absurd (false≢true a)

tied_first : (o r : Ordering) → is_eq (ordering_then o r) ≡ true → is_eq o ≡ true
tied_first Less r e = absurd (false≢true e)
tied_first Equal r e = refl
tied_first Greater r e = absurd (false≢true e)

tied_second : (o r : Ordering) → is_eq (ordering_then o r) ≡ true → is_eq r ≡ true
tied_second Less r e = absurd (false≢true e)
tied_second Equal r e = e
tied_second Greater r e = absurd (false≢true e)

same_text : (s t : List ℕ) → is_eq (slice_cmp nat_cmp s t) ≡ true → s ≡ t
same_text s t e = (bytes_decides s t).0 (texts_ties s t ∙ e)

pub one_place : (p q : Pair) → comes_first p q ≡ true → comes_first q p ≡ true → p ≡ q
one_place p q a b =
    let level = tied (pair_cmp p q) (sym (first-cmp p q) ∙ a) (ap is_le (sym (pairs_total.antisymm q p)) ∙ sym (first-cmp q p) ∙ b) in
    let one = same_text p.0 q.0 (tied_first (slice_cmp nat_cmp p.0 q.0) (slice_cmp nat_cmp p.1 q.1) level) in
    let other = same_text p.1 q.1 (tied_second (slice_cmp nat_cmp p.0 q.0) (slice_cmp nat_cmp p.1 q.1) level) in
    λ i. (one i, other i)

not_below : (o : Ordering) → is_lt o ≡ false → is_le (ordering_reverse o) ≡ true
not_below Less e = absurd (false≢true (sym e))
not_below Equal e = refl
not_below Greater e = refl

pub from_not_below : (p q : Pair) → is_lt (pair_cmp q p) ≡ false → comes_first p q ≡ true
from_not_below p q e = first-cmp p q ∙ ap is_le (pairs_total.antisymm p q) ∙ not_below (pair_cmp q p) e
