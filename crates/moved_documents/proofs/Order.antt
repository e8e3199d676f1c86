-- Faults that are the same up to order, wherever their schema paths are, have one line text.
use Rattle.std.proofs.Common.{◌≡◌, ◌∙◌, ℕ, List, [], ◌∷◌, Bool, true, false, if◌then◌else◌, Ordering, Less, Equal, Greater, nat_cmp, is_eq, is_le, is_gt, refl, sym, ap, ap₂}
use Rattle.std.specs.Ordering.{ordering_then, ordering_reverse}
use Rattle.std.specs.Cmp.{IsTotalOrder}
use Rattle.std.specs.Cmp.Lexicographic.{slice_cmp, bytes_decides, texts_ties}
use Rattle.std.proofs.lemmas.Bool.{false≢true}
use Rattle.std.proofs.lemmas.Cmp.{nat_list_cmp_total, on_total, then_total, upto}
use Rattle.serde_json.specs.Data.{array}
use Rattle.serde_json.specs.Written.{compact_text}
use Rattle.json_values.specs.Parts.{Part}
use Rattle.schema_meaning.specs.Faults.{Faults, none, also, fault, instance_path, evaluation_path}
use Rattle.schema_meaning.specs.Order.{same_fault, SameFaults, same_none, same_also, swapped, by_way_of}
use Rattle.schema_definitions.specs.Lines.{paths_of, comes_first, among, in_order, pairs_data, faults_text}
use Rattle.schema_definitions.specs.PathTexts.{path_text}
use Rattle.linked_meanings.specs.Moved.{moved}

abbrev Pair : Type 0
Pair = List ℕ × List ℕ

-- ---- the order of pairs is total

pair_cmp : Pair → Pair → Ordering
pair_cmp p q = ordering_then (slice_cmp nat_cmp p.0 q.0) (slice_cmp nat_cmp p.1 q.1)

pairs_total : IsTotalOrder pair_cmp
unfolding pair_cmp
pairs_total = then_total (on_total (λ (p : Pair). p.0) nat_list_cmp_total) (on_total (λ (p : Pair). p.1) nat_list_cmp_total)

by_first : (o r : Ordering) → (elim o [ Less ↦ true | Equal ↦ is_le r | Greater ↦ false ]) ≡ is_le (ordering_then o r)
by_first Less r = refl
by_first Equal r = refl
by_first Greater r = refl

first_cmp : (p q : Pair) → comes_first p q ≡ is_le (pair_cmp p q)
unfolding pair_cmp
first_cmp p q = by_first (slice_cmp nat_cmp p.0 q.0) (slice_cmp nat_cmp p.1 q.1)

either_way : (o : Ordering) → is_le o ≡ false → is_le (ordering_reverse o) ≡ true
either_way Less e = absurd (false≢true (sym e))
either_way Equal e = refl
either_way Greater e = refl

turned : (p q : Pair) → comes_first p q ≡ false → comes_first q p ≡ true
turned p q e = first_cmp q p ∙ ap is_le (pairs_total.antisymm q p) ∙ either_way (pair_cmp p q) (sym (first_cmp p q) ∙ e)

not_gt : (o : Ordering) → is_le o ≡ true → is_gt o ≡ false
not_gt Less e = refl
not_gt Equal e = refl
not_gt Greater e = absurd (false≢true e)

of_not_gt : (o : Ordering) → is_gt o ≡ false → is_le o ≡ true
of_not_gt Less e = refl
of_not_gt Equal e = refl
of_not_gt Greater e = absurd (false≢true (sym e))

along : (p q r : Pair) → comes_first p q ≡ true → comes_first q r ≡ true → comes_first p r ≡ true
along p q r a b =
    first_cmp p r
    ∙ of_not_gt (pair_cmp p r) (upto pairs_total p q r (not_gt (pair_cmp p q) (sym (first_cmp p q) ∙ a)) (not_gt (pair_cmp q r) (sym (first_cmp q r) ∙ b)))

tied : (o : Ordering) → is_le o ≡ true → is_le (ordering_reverse o) ≡ true → is_eq o ≡ true
tied Less a b = absurd (false≢true b)
tied Equal a b = refl
tied Greater a b = absurd (false≢true a)

tied_first : (o r : Ordering) → is_eq (ordering_then o r) ≡ true → is_eq o ≡ true
tied_first Less r e = absurd (false≢true e)
tied_first Equal r e = refl
tied_first Greater r e = absurd (false≢true e)

tied_second : (o r : Ordering) → is_eq (ordering_then o r) ≡ true → is_eq r ≡ true
tied_second Less r e = absurd (false≢true e)
tied_second Equal r e = e
tied_second Greater r e = absurd (false≢true e)

same_text : (s t : List ℕ) → is_eq (slice_cmp nat_cmp s t) ≡ true → s ≡ t
same_text s t e = (bytes_decides s t).0 (texts_ties s t ∙ e)

one_place : (p q : Pair) → comes_first p q ≡ true → comes_first q p ≡ true → p ≡ q
unfolding pair_cmp
one_place p q a b =
    let level = tied (pair_cmp p q) (sym (first_cmp p q) ∙ a) (ap is_le (sym (pairs_total.antisymm q p)) ∙ sym (first_cmp q p) ∙ b) in
    let one = same_text p.0 q.0 (tied_first (slice_cmp nat_cmp p.0 q.0) (slice_cmp nat_cmp p.1 q.1) level) in
    let other = same_text p.1 q.1 (tied_second (slice_cmp nat_cmp p.0 q.0) (slice_cmp nat_cmp p.1 q.1) level) in
    ap₂ (λ x y. (x, y)) one other

-- ---- two that are put among others, in either order

two : (p q : Pair) (rest : List Pair) (b d : Bool) → comes_first p q ≡ b → comes_first q p ≡ d
    → (if b then p ∷ q ∷ rest else q ∷ p ∷ rest) ≡ (if d then q ∷ p ∷ rest else p ∷ q ∷ rest)
two p q rest true true e f = ap₂ (λ x y. x ∷ y ∷ rest) (one_place p q e f) (sym (one_place p q e f))
two p q rest true false e f = refl
two p q rest false true e f = refl
two p q rest false false e f = (let no : false ≡ true = sym f ∙ turned p q e in absurd (cc))

-- q comes behind x, and p does not: so q comes behind p
behind : (p q x : Pair) → comes_first p x ≡ true → comes_first q x ≡ false → comes_first q p ≡ false
behind p q x e f = by (comes_first q p) refl
  where
    by : (b : Bool) → comes_first q p ≡ b → b ≡ false
    by false is = refl
    by true is = (let no : true ≡ false = sym (along q p x is e) ∙ f in cc)

commute : (p q : Pair) (xs : List Pair) → among p (among q xs) ≡ among q (among p xs)
commute p q [] = two p q [] (comes_first p q) (comes_first q p) refl refl
commute p q (x ∷ xs) = by (comes_first p x) (comes_first q x) refl refl (commute p q xs)
  where
    by : (b d : Bool) → comes_first p x ≡ b → comes_first q x ≡ d → among p (among q xs) ≡ among q (among p xs)
        → among p (if d then q ∷ x ∷ xs else x ∷ among q xs) ≡ among q (if b then p ∷ x ∷ xs else x ∷ among p xs)
    by true true e f more =
        let left : among p (x ∷ xs) ≡ p ∷ x ∷ xs = ap (λ (b : Bool). if b then p ∷ x ∷ xs else x ∷ among p xs) e in
        let right : among q (x ∷ xs) ≡ q ∷ x ∷ xs = ap (λ (b : Bool). if b then q ∷ x ∷ xs else x ∷ among q xs) f in
        ap (λ (ys : List Pair). if comes_first p q then p ∷ q ∷ x ∷ xs else q ∷ ys) left
        ∙ two p q (x ∷ xs) (comes_first p q) (comes_first q p) refl refl
        ∙ sym (ap (λ (ys : List Pair). if comes_first q p then q ∷ p ∷ x ∷ xs else p ∷ ys) right)
    by true false e f more =
        let right : among q (x ∷ xs) ≡ x ∷ among q xs = ap (λ (b : Bool). if b then q ∷ x ∷ xs else x ∷ among q xs) f in
        ap (λ (b : Bool). if b then p ∷ x ∷ among q xs else x ∷ among p (among q xs)) e
        ∙ sym (ap (λ (b : Bool). if b then q ∷ p ∷ x ∷ xs else p ∷ among q (x ∷ xs)) (behind p q x e f) ∙ ap (λ (ys : List Pair). p ∷ ys) right)
    by false true e f more =
        let left : among p (x ∷ xs) ≡ x ∷ among p xs = ap (λ (b : Bool). if b then p ∷ x ∷ xs else x ∷ among p xs) e in
        ap (λ (b : Bool). if b then p ∷ q ∷ x ∷ xs else q ∷ among p (x ∷ xs)) (behind q p x f e)
        ∙ ap (λ (ys : List Pair). q ∷ ys) left
        ∙ sym (ap (λ (b : Bool). if b then q ∷ x ∷ among p xs else x ∷ among q (among p xs)) f)
    by false false e f more =
        ap (λ (b : Bool). if b then p ∷ x ∷ among q xs else x ∷ among p (among q xs)) e
        ∙ ap (λ (ys : List Pair). x ∷ ys) more
        ∙ sym (ap (λ (b : Bool). if b then q ∷ x ∷ among p xs else x ∷ among q (among p xs)) f)

-- ---- texts

same_order : {fs gs : Faults} → SameFaults fs gs → in_order (paths_of fs) ≡ in_order (paths_of gs)
same_order same_none = refl
same_order (same_also (same_fault {i = i} {e = e} k) more) = ap (λ (ps : List Pair). among (path_text i, path_text e) ps) (same_order more)
same_order (swapped {f = f} {g = g} {fs = fs}) =
    commute (path_text (instance_path f), path_text (evaluation_path f)) (path_text (instance_path g), path_text (evaluation_path g)) (in_order (paths_of fs))
same_order (by_way_of h g) = same_order h ∙ same_order g

pub one_text : (fs gs : Faults) → SameFaults fs gs → faults_text fs ≡ faults_text gs
one_text fs gs h = ap (λ ps. compact_text (array (pairs_data ps))) (same_order h)

moved_paths : (f : List Part → List Part) (fs : Faults) → paths_of (moved f fs) ≡ paths_of fs
moved_paths f none = refl
moved_paths f (also (fault k d i s e) fs) = ap (λ (ps : List Pair). (path_text i, path_text e) ∷ ps) (moved_paths f fs)

pub moved_text : (f : List Part → List Part) (fs : Faults) → faults_text (moved f fs) ≡ faults_text fs
moved_text f fs = ap (λ ps. compact_text (array (pairs_data (in_order ps)))) (moved_paths f fs)
