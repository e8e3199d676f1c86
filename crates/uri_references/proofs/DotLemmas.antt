-- What removal of dot segments keeps, and that once is enough.
use Rattle.std.proofs.Common.{◌≡◌, ◌≢◌, ◌==◌, ◌<◌, ◌-◌, ◌∙◌, ◌||◌, ◌++◌, List, [], ◌∷◌, ℕ, zero, suc, Bool, true, false, length, get_or, ap, refl, sym, subst, eq-eqb, arith, if◌then◌else◌, ◌⊎◌, inl, inr}
use Rattle.std.proofs.Math.Seq.{get_or-append_seam, get_or-append_right, take-append_seam}
use Rattle.std.proofs.lemmas.List.{length-append}
use Rattle.std.specs.List.{list_all}
use Rattle.std.specs.Prelude.{codes}
use Rattle.uri_grammar.specs.Texts.{has, is_empty}
use Rattle.uri_references.specs.Dots.{up, is_dot, is_dots, is_dot_segment, after_segment, after_segments, without_dots}
use Rattle.uri_references.proofs.Bools.{true_false, and_left, and_right, or_either, or_none_left, or_none_right, decided}
use Rattle.uri_references.proofs.Ups.{up_at, up_none}

pub from_test : (x c : ℕ) → (x == c) ≡ true → x ≡ c
from_test x c e = grind (arith, e)

-- ---- the last slash

not_there : (c : ℕ) (bs : List ℕ) → has c bs ≡ false → (k : ℕ) → k < length bs → get_or bs k 0 ≢ c
not_there c [] none k within e = absurd (omega (arith, within))
not_there c (x ∷ xs) none zero within e = true_false (sym (eq-eqb x c e) ∙ or_none_left (x == c) (has c xs) none)
not_there c (x ∷ xs) none (suc k) within e = not_there c xs (or_none_right (x == c) (has c xs) none) k (omega (arith, within)) e

pub up_without : (t : List ℕ) → has 47 t ≡ false → up t ≡ []
up_without t none = up_none t (λ k within. not_there 47 t none k within)

after_seam : (a b : List ℕ) (k : ℕ) → has 47 b ≡ false → length a < k → k < length (a ++ 47 ∷ b) → get_or (a ++ 47 ∷ b) k 0 ≢ 47
after_seam a b k none above below e =
    let right = get_or-append_right a (47 ∷ b) k 0 (omega arith) in
    let next : k - length a ≡ suc (k - length a - 1) = omega arith in
    let size = length-append a (47 ∷ b) in
    let within : k - length a - 1 < length b = omega (arith, size) in
    not_there 47 b none (k - length a - 1) within (sym (ap (λ n. get_or (47 ∷ b) n 0) next) ∙ sym right ∙ e)

pub up_last : (a b : List ℕ) → has 47 b ≡ false → up (a ++ 47 ∷ b) ≡ a
up_last a b none =
    let size = length-append a (47 ∷ b) in
    up_at (a ++ 47 ∷ b) (length a) (omega (arith, size)) (get_or-append_seam a 47 b 0) (λ k above below. after_seam a b k none above below)
    ∙ take-append_seam a (47 ∷ b)

pub last_slash : (t : List ℕ) → has 47 t ≡ true → (a : List ℕ) × (b : List ℕ) × (t ≡ a ++ 47 ∷ b) × (has 47 b ≡ false)
last_slash [] e = absurd (true_false (sym e))
last_slash (x ∷ xs) e = by_rest (decided (has 47 xs)) (λ h. last_slash xs h)
  where
    by_rest : (has 47 xs ≡ true) ⊎ (has 47 xs ≡ false) → (has 47 xs ≡ true → (a : List ℕ) × (b : List ℕ) × (xs ≡ a ++ 47 ∷ b) × (has 47 b ≡ false))
        → (a : List ℕ) × (b : List ℕ) × (x ∷ xs ≡ a ++ 47 ∷ b) × (has 47 b ≡ false)
    by_rest (inl h) more = let m = more h in (x ∷ m.0, m.1, ap (λ t. x ∷ t) m.2, m.3)
    by_rest (inr h) more =
        let here : (x == 47) ≡ true = elim (or_either (x == 47) (has 47 xs) e) [ inl y ↦ y | inr y ↦ absurd (true_false (sym y ∙ h)) ] in
        ([], xs, ap (λ n. n ∷ xs) (from_test x 47 here), h)

-- ---- what the output keeps: p of outputs, q of segments

pub up-keeps : (p : List ℕ → Bool) → p [] ≡ true → ((a b : List ℕ) → p (a ++ 47 ∷ b) ≡ true → p a ≡ true) → (t : List ℕ) → p t ≡ true → p (up t) ≡ true
up-keeps p none back t h = elim (decided (has 47 t)) [
  | inl e ↦ let l = last_slash t e in subst (λ x. p x ≡ true) (sym (ap up l.2 ∙ up_last l.0 l.1 l.3)) (back l.0 l.1 (subst (λ x. p x ≡ true) l.2 h))
  | inr e ↦ subst (λ x. p x ≡ true) (sym (up_without t e)) none
]

pub segment-keeps : (p q : List ℕ → Bool) → p [] ≡ true → q [] ≡ true → ((a b : List ℕ) → p a ≡ true → q b ≡ true → p (a ++ 47 ∷ b) ≡ true)
    → ((a b : List ℕ) → p (a ++ 47 ∷ b) ≡ true → p a ≡ true)
    → (out s : List ℕ) (last : Bool) → p out ≡ true → (is_dot_segment s || q s) ≡ true → p (after_segment out s last) ≡ true
segment-keeps p q p-none q-none join back out s last h e = by_dot (is_dot s) refl
  where
    by_dots : (dots : Bool) → dots ≡ is_dots s → is_dot s ≡ false → p (if dots then (if last then up out ++ codes "/" else up out) else out ++ 47 ∷ s) ≡ true
    by_dots true f g = elim last as (λ l. p (if l then up out ++ codes "/" else up out) ≡ true) [
      | true ↦ join (up out) [] (up-keeps p p-none back out h) q-none
      | false ↦ up-keeps p p-none back out h
    ]
    by_dots false f g = join out s h (elim (or_either (is_dot_segment s) (q s) e) [
      | inl y ↦ absurd (true_false (sym y ∙ ap (λ t. t || is_dots s) g ∙ sym f))
      | inr y ↦ y
    ])

    by_dot : (dot : Bool) → dot ≡ is_dot s → p (if dot then (if last then out ++ codes "/" else out) else (if is_dots s then (if last then up out ++ codes "/" else up out) else out ++ 47 ∷ s)) ≡ true
    by_dot true f = elim last as (λ l. p (if l then out ++ codes "/" else out) ≡ true) [ true ↦ join out [] h q-none | false ↦ h ]
    by_dot false f = by_dots (is_dots s) refl (sym f)

pub segments-keep : (p q : List ℕ → Bool) → p [] ≡ true → q [] ≡ true → ((a b : List ℕ) → p a ≡ true → q b ≡ true → p (a ++ 47 ∷ b) ≡ true)
    → ((a b : List ℕ) → p (a ++ 47 ∷ b) ≡ true → p a ≡ true)
    → (out : List ℕ) (ss : List (List ℕ)) → p out ≡ true → list_all (λ s. is_dot_segment s || q s) ss ≡ true → p (after_segments out ss) ≡ true
segments-keep p q p-none q-none join back out [] h e = h
segments-keep p q p-none q-none join back out (s ∷ rest) h e =
    segments-keep p q p-none q-none join back (after_segment out s (is_empty rest)) rest
    (segment-keeps p q p-none q-none join back out s (is_empty rest) h (and_left _ _ e)) (and_right _ _ e)

-- the first segment may be an output
pub without-keeps : (p q : List ℕ → Bool) → p [] ≡ true → q [] ≡ true → ((a b : List ℕ) → p a ≡ true → q b ≡ true → p (a ++ 47 ∷ b) ≡ true)
    → ((a b : List ℕ) → p (a ++ 47 ∷ b) ≡ true → p a ≡ true) → ((s : List ℕ) → q s ≡ true → p s ≡ true)
    → (ss : List (List ℕ)) → list_all (λ s. is_dot_segment s || q s) ss ≡ true → p (without_dots ss) ≡ true
without-keeps p q p-none q-none join back front [] e = p-none
without-keeps p q p-none q-none join back front (s ∷ rest) e = by_dot (is_dot_segment s) refl (without-keeps p q p-none q-none join back front rest (and_right _ _ e))
  where
    by_dot : (dot : Bool) → dot ≡ is_dot_segment s → p (without_dots rest) ≡ true → p (if dot then without_dots rest else after_segments s rest) ≡ true
    by_dot true f more = more
    by_dot false f more =
        segments-keep p q p-none q-none join back s rest
        (front s (elim (or_either (is_dot_segment s) (q s) (and_left _ _ e)) [ inl y ↦ absurd (true_false (sym y ∙ sym f)) | inr y ↦ y ])) (and_right _ _ e)
