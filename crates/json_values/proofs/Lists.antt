-- Items of lists, equal and distinct.
use Rattle.std.proofs.Common.{◌≡◌, ℕ, zero, suc, ◌<◌, Bool, true, false, ◌||◌, not, inl, inr, ◌⊎◌, Some, refl, sym, ap, ◌∙◌, arith}
use Rattle.std.specs.Cmp.{first_so, second_so}
use Rattle.serde_json.specs.Data.{Data, Items, no_items, item}
use Rattle.serde_json.specs.Find.{get_item}
use Rattle.json_values.specs.Equality.{equal, is_among, all_distinct}
use Rattle.json_values.proofs.Names.{both, not_true}

either : (a b : Bool) → (a || b) ≡ true → (a ≡ true) ⊎ (b ≡ true)
either true b h = inl refl
either false b h = inr h

right_so : (a b : Bool) → b ≡ true → (a || b) ≡ true
right_so true b h = refl
right_so false b h = h

neither : (a b : Bool) → (a || b) ≡ false → (a ≡ false) × (b ≡ false)
neither true b h = cc
neither false b h = (refl, h)

pub among_at : (d : Data) (ds : Items) → is_among d ds ≡ true → (i : ℕ) × (e : Data) × (get_item i ds ≡ Some e) × (equal d e ≡ true)
among_at d no_items h = cc
among_at d (item e es) h =
    elim (either (equal d e) (is_among d es) h) [
      | inl a ↦ (0, e, refl, a)
      | inr b ↦ (let f = among_at d es b in (suc f.0, f.1, f.2, f.3))
    ]

among_by : (d : Data) (ds : Items) (i : ℕ) (e : Data) → get_item i ds ≡ Some e → equal d e ≡ true → is_among d ds ≡ true
among_by d no_items i e h g = cc
among_by d (item x xs) zero e h g = (let s : x ≡ e = cc in rw (s, g) refl)
among_by d (item x xs) (suc i) e h g = right_so (equal d x) (is_among d xs) (among_by d xs i e h g)

pub among_from : (d : Data) (ds : Items) → (i : ℕ) × (e : Data) × (get_item i ds ≡ Some e) × (equal d e ≡ true) → is_among d ds ≡ true
among_from d ds f = among_by d ds f.0 f.1 f.2 f.3

not_among : (d : Data) (ds : Items) → is_among d ds ≡ false → (i : ℕ) (e : Data) → get_item i ds ≡ Some e → equal d e ≡ false
not_among d no_items h i e g = cc
not_among d (item x xs) h zero e g = (let s : x ≡ e = cc in ap (equal d) (sym s) ∙ (neither (equal d x) (is_among d xs) h).0)
not_among d (item x xs) h (suc i) e g = not_among d xs (neither (equal d x) (is_among d xs) h).1 i e g

none_among : (d : Data) (ds : Items) → ((i : ℕ) (e : Data) → get_item i ds ≡ Some e → equal d e ≡ false) → is_among d ds ≡ false
none_among d no_items f = refl
none_among d (item x xs) f = rw (f 0 x refl) (none_among d xs (λ i. f (suc i)))

pub distinct_at : (ds : Items) → all_distinct ds ≡ true → (i j : ℕ) (d e : Data) → i < j → get_item i ds ≡ Some d → get_item j ds ≡ Some e → equal d e ≡ false
distinct_at no_items h i j d e l g k = cc
distinct_at (item x xs) h i zero d e l g k = absurd (omega arith)
distinct_at (item x xs) h zero (suc j) d e l g k =
    let s : x ≡ d = cc in
    ap (λ y. equal y e) (sym s) ∙ not_among x xs (not_true (is_among x xs) (first_so (not (is_among x xs)) (all_distinct xs) h)) j e k
distinct_at (item x xs) h (suc i) (suc j) d e l g k = distinct_at xs (second_so (not (is_among x xs)) (all_distinct xs) h) i j d e (omega arith) g k

pub distinct_by : (ds : Items) → ((i j : ℕ) (d e : Data) → i < j → get_item i ds ≡ Some d → get_item j ds ≡ Some e → equal d e ≡ false) → all_distinct ds ≡ true
distinct_by no_items f = refl
distinct_by (item x xs) f =
    both (not (is_among x xs)) (all_distinct xs)
    (ap not (none_among x xs (λ j e g. f 0 (suc j) x e (omega arith) refl g)))
    (distinct_by xs (λ i j d e l. f (suc i) (suc j) d e (omega arith)))
