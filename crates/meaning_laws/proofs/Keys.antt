-- Keys in progress, and how many are left.
use Rattle.std.proofs.Common.{◌≡◌, ◌<◌, ◌≤◌, ℕ, suc, List, [], ◌∷◌, Bool, true, false, ◌&&◌, ◌||◌, Option, Some, None, bytes_eq, eqb-true, eq-eqb, length, refl, ap, ap₂, subst, arith}
use Rattle.std.proofs.lemmas.Slice.Eq.{bytes_eq-Decides}
use Rattle.schema_meaning.specs.Members.{In, first, later}
use Rattle.json_values.specs.Parts.{Part, name, index}
use Rattle.schema_meaning.specs.Places.{SchemaPlace, Key}
use Rattle.schema_meaning.specs.Cut.{same_part, same_path, same_name, same_key, is_in_progress, one_unless, left}

and_both : (b c : Bool) → (b && c) ≡ true → (b ≡ true) × (c ≡ true)
and_both true true e = (refl, refl)
and_both true false e = cc
and_both false c e = cc

same_part-is : (p q : Part) → same_part p q ≡ true → p ≡ q
same_part-is (name a) (name b) e = ap name ((bytes_eq-Decides a b).0 e)
same_part-is (name a) (index j) e = cc
same_part-is (index i) (name b) e = cc
same_part-is (index i) (index j) e = ap index (eqb-true i j e)

same_path-is : (p q : List Part) → same_path p q ≡ true → p ≡ q
same_path-is [] [] e = refl
same_path-is [] (y ∷ q) e = cc
same_path-is (x ∷ p) [] e = cc
same_path-is (x ∷ p) (y ∷ q) e = let h = and_both (same_part x y) (same_path p q) e in ap₂ (λ x p. x ∷ p) (same_part-is x y h.0) (same_path-is p q h.1)

same_name-is : (a b : Option (List ℕ)) → same_name a b ≡ true → a ≡ b
same_name-is None None e = refl
same_name-is None (Some b) e = cc
same_name-is (Some a) None e = cc
same_name-is (Some a) (Some b) e = ap Some ((bytes_eq-Decides a b).0 e)

key_of : SchemaPlace → List Part → Option (List ℕ) → Key
key_of t p c = record { target = t; path = p; called = c }

place_of : List ℕ → List Part → SchemaPlace
place_of d p = record { document = d; path = p }

pub same_key-is : (k l : Key) → same_key k l ≡ true → k ≡ l
unfolding key_of place_of
same_key-is k l e =
    let a = and_both (bytes_eq k.target.document l.target.document && same_path k.target.path l.target.path && same_path k.path l.path) (same_name k.called l.called) e in
    let b = and_both (bytes_eq k.target.document l.target.document && same_path k.target.path l.target.path) (same_path k.path l.path) a.0 in
    let c = and_both (bytes_eq k.target.document l.target.document) (same_path k.target.path l.target.path) b.0 in
    let t : k.target ≡ l.target = ap₂ place_of ((bytes_eq-Decides k.target.document l.target.document).0 c.0) (same_path-is k.target.path l.target.path c.1) in
    ap₂ (λ f x. f x) (ap₂ key_of t (same_path-is k.path l.path b.1)) (same_name-is k.called l.called a.1)

same_part-itself : (p : Part) → same_part p p ≡ true
same_part-itself (name a) = (bytes_eq-Decides a a).1 refl
same_part-itself (index i) = eq-eqb i i refl

same_path-itself : (p : List Part) → same_path p p ≡ true
same_path-itself [] = refl
same_path-itself (x ∷ p) = rw (same_part-itself x, same_path-itself p) refl

same_name-itself : (a : Option (List ℕ)) → same_name a a ≡ true
same_name-itself None = refl
same_name-itself (Some a) = (bytes_eq-Decides a a).1 refl

same_key-itself : (k : Key) → same_key k k ≡ true
same_key-itself k = rw ((bytes_eq-Decides k.target.document k.target.document).1 refl, same_path-itself k.target.path, same_path-itself k.path, same_name-itself k.called) refl

progress_cases : (b : Bool) (k l : Key) (ks : List Key) → same_key k l ≡ b → (is_in_progress k ks ≡ true → In k ks) → (b || is_in_progress k ks) ≡ true → In k (l ∷ ks)
progress_cases true k l ks is rest e = subst (λ m. In k (m ∷ ks)) (same_key-is k l is) first
progress_cases false k l ks is rest e = later (rest e)

pub in_progress-in : (k : Key) (ks : List Key) → is_in_progress k ks ≡ true → In k ks
in_progress-in k [] e = cc
in_progress-in k (l ∷ ks) e = progress_cases (same_key k l) k l ks refl (in_progress-in k ks) e

-- ---- how many are left

pub left-none : (all : List Key) → left [] all ≡ length all
left-none [] = refl
left-none (k ∷ all) = ap suc (left-none all)

no_more : (b c : Bool) (m n : ℕ) → m ≤ n → one_unless (b || c) m ≤ one_unless c n
no_more true true m n h = h
no_more true false m n h = omega (arith, h)
no_more false true m n h = h
no_more false false m n h = omega (arith, h)

less : (b c : Bool) (m n : ℕ) → m < n → one_unless (b || c) m < one_unless c n
less true true m n h = h
less true false m n h = omega (arith, h)
less false true m n h = h
less false false m n h = omega (arith, h)

less_here : (m n : ℕ) → m ≤ n → m < suc n
less_here m n h = omega (arith, h)

left_no_more : (k : Key) (ks all : List Key) → left (k ∷ ks) all ≤ left ks all
left_no_more k ks [] = omega arith
left_no_more k ks (l ∷ all) = no_more (same_key l k) (is_in_progress l ks) _ _ (left_no_more k ks all)

pub left_falls : (k : Key) (ks all : List Key) → In k all → is_in_progress k ks ≡ false → left (k ∷ ks) all < left ks all
left_falls k ks [] h new = elim h [ ]
left_falls k ks (l ∷ all) first new = rw (same_key-itself k, new) (less_here _ _ (left_no_more k ks all))
left_falls k ks (l ∷ all) (later h) new = less (same_key l k) (is_in_progress l ks) _ _ (left_falls k ks all h new)
