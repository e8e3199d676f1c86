-- Names sought by halves.
use borrow.Author.Tests.{ltb-true, ltb-false}
use native.Mathlib.Numerals.{unary_clauses}
use Rattle.std.proofs.Common.{◌≡◌, ◌≢◌, ◌⊎◌, inl, inr, ℕ, zero, suc, ◌<◌, ◌≤◌, List, [], ◌∷◌, length, map, Bool, true, false, ◌||◌, Ordering, Less, Equal, Greater, nat_cmp, nat_lt, refl, sym, ap, ◌∙◌, arith, get_or, string_bytes, bytes_eq, String, Global}
use Rattle.std.proofs.lemmas.Cmp.{nat_list_cmp_total, tied_itself}
use Rattle.std.proofs.lemmas.List.Sorted.{searchable_from_sorted}
use Rattle.std.proofs.lemmas.Slice.Eq.{bytes_eq-Decides}
use Rattle.std.specs.Cmp.{first_so, second_so}
use Rattle.std.specs.Cmp.Lexicographic.{slice_cmp}
use Rattle.std.specs.List.Sorted.{IsPartitionPoint, IsNonDecreasingBy}
use Rattle.std.specs.Ordering.{is_lt, ordering_index, ordering_reverse}
use Rattle.json_values.proofs.Names.{name_same}
use Rattle.schema_meaning.specs.Members.{is_listed}
use Rattle.compiled_keywords.specs.Sorted.{rise_behind, names_rise}

abbrev Text : Type 0
Text = String Global

abbrev pub against : List ℕ → Text → Ordering
against name s = slice_cmp nat_cmp (string_bytes s) name

is_less : (o : Ordering) → is_lt o ≡ true → o ≡ Less
is_less Less h = refl
is_less Equal h = cc
is_less Greater h = cc

less_back : (a b : List ℕ) → is_lt (slice_cmp nat_cmp a b) ≡ true → is_lt (slice_cmp nat_cmp b a) ≡ false
less_back a b h = ap is_lt (nat_list_cmp_total.antisymm b a ∙ ap ordering_reverse (is_less _ h))

sorted : (xs : List Text) → names_rise (map string_bytes xs) ≡ true → (k : ℕ) (d : Text) → suc k < length xs
    → is_lt (slice_cmp nat_cmp (string_bytes (get_or xs (suc k) d)) (string_bytes (get_or xs k d))) ≡ false
sorted [] h k d l = absurd (omega arith)
sorted (x ∷ []) h k d l = absurd (omega arith)
sorted (x ∷ y ∷ xs) h zero d l = less_back (string_bytes x) (string_bytes y) (first_so (is_lt (slice_cmp nat_cmp (string_bytes x) (string_bytes y))) (rise_behind (string_bytes y) (map string_bytes xs)) h)
sorted (x ∷ y ∷ xs) h (suc k) d l =
    sorted (y ∷ xs) (second_so (is_lt (slice_cmp nat_cmp (string_bytes x) (string_bytes y))) (rise_behind (string_bytes y) (map string_bytes xs)) h) k d (omega arith)

pub searchable : (xs : List Text) (name : List ℕ) → names_rise (map string_bytes xs) ≡ true → IsNonDecreasingBy (λ s. ordering_index (against name s)) xs
searchable xs name h = searchable_from_sorted nat_list_cmp_total string_bytes xs name (λ k d low high. simp unary_clauses (sorted xs h k d (omega arith)))

pub found : (xs : List Text) (name : List ℕ) (i : ℕ) → i < length xs → ((d : Text) → against name (get_or xs i d) ≡ Equal) → is_listed name (map string_bytes xs) ≡ true
found [] name i l e = absurd (omega arith)
found (x ∷ xs) name zero l e = rw ((bytes_eq-Decides name (string_bytes x)).1 (sym (name_same (string_bytes x) name (e x)))) refl
found (x ∷ xs) name (suc i) l e = or_true (bytes_eq name (string_bytes x)) (is_listed name (map string_bytes xs)) (found xs name i (omega arith) e)
  where
    or_true : (b c : Bool) → c ≡ true → (b || c) ≡ true
    or_true true c h = refl
    or_true false c h = h

none_listed : (xs : List Text) (name : List ℕ) → ((k : ℕ) (d : Text) → k < length xs → against name (get_or xs k d) ≢ Equal) → is_listed name (map string_bytes xs) ≡ false
none_listed [] name h = refl
none_listed (x ∷ xs) name h = by (none_listed xs name (λ k d l. h (suc k) d (omega arith))) (bytes_eq name (string_bytes x)) refl
  where
    by : is_listed name (map string_bytes xs) ≡ false → (b : Bool) → bytes_eq name (string_bytes x) ≡ b → is_listed name (map string_bytes (x ∷ xs)) ≡ false
    by rest true e = absurd (h 0 x (omega arith) (ap (λ n. slice_cmp nat_cmp (string_bytes x) n) ((bytes_eq-Decides name (string_bytes x)).0 e) ∙ tied_itself nat_list_cmp_total (string_bytes x)))
    by rest false e = rw e rest

pub missed : (xs : List Text) (name : List ℕ) (i : ℕ) → i ≤ length xs → IsPartitionPoint (λ s. against name s ≡ Less) (λ s. against name s ≡ Greater) xs i
    → is_listed name (map string_bytes xs) ≡ false
missed xs name i b parts = none_listed xs name at
  where
    split : (k : ℕ) (t : Bool) → nat_lt k i ≡ t → (k < i) ⊎ (i ≤ k)
    split k true e = inl (ltb-true k i e)
    split k false e = inr (ltb-false k i e)

    at : (k : ℕ) (d : Text) → k < length xs → against name (get_or xs k d) ≢ Equal
    at k d l e = cases (split k (nat_lt k i) refl)
      where
        cases : (k < i) ⊎ (i ≤ k) → ⊥
        cases (inl s) = (let f : against name (get_or xs k d) ≡ Less = parts.0 k d (omega arith) s in cc)
        cases (inr s) = (let f : against name (get_or xs k d) ≡ Greater = parts.1 k d s l in cc)
