-- Paths and their segments; once without dot segments, always.
use Rattle.std.proofs.Common.{◌≡◌, ◌==◌, ◌∙◌, ◌&&◌, ◌||◌, ◌++◌, List, [], ◌∷◌, ℕ, Bool, true, false, not, ap, refl, sym, subst, if◌then◌else◌}
use Rattle.std.proofs.lemmas.List.Folds.{list_all-append}
use Rattle.std.specs.List.{list_all, onto_first}
use Rattle.std.specs.Prelude.{codes}
use Rattle.uri_grammar.specs.Texts.{has, is_empty, pieces}
use Rattle.uri_grammar.specs.Grammar.{begins_slashed}
use Rattle.uri_references.specs.Dots.{is_dot, is_dots, is_dot_segment, after_segment, after_segments, without_dots, remove_dots}
use Rattle.uri_references.proofs.Bools.{true_false, and_left, and_right, and_both, or_right}
use Rattle.uri_references.proofs.Segments.{segments-filled}
use Rattle.uri_references.proofs.DotLemmas.{segments-keep, without-keeps, from_test}

-- segments behind a slash each, after a text
written : List ℕ → List (List ℕ) → List ℕ
written out [] = out
written out (s ∷ rest) = written (out ++ 47 ∷ s) rest

whole : List (List ℕ) → List ℕ
whole [] = []
whole (s ∷ rest) = written s rest

written-cons : (x : ℕ) (out : List ℕ) (ss : List (List ℕ)) → written (x ∷ out) ss ≡ x ∷ written out ss
unfolding written
written-cons x out [] = refl
written-cons x out (s ∷ rest) = written-cons x (out ++ 47 ∷ s) rest

whole-onto : (x : ℕ) (ss : List (List ℕ)) → whole (onto_first x ss) ≡ x ∷ whole ss
unfolding whole written
whole-onto x [] = refl
whole-onto x (s ∷ rest) = written-cons x s rest

whole-slash : (ss : List (List ℕ)) → is_empty ss ≡ false → whole ([] ∷ ss) ≡ 47 ∷ whole ss
unfolding whole written
whole-slash [] e = absurd (true_false e)
whole-slash (s ∷ rest) e = written-cons 47 s rest

whole-pieces : (path : List ℕ) → whole (pieces 47 path) ≡ path
unfolding whole written
whole-pieces [] = refl
whole-pieces (x ∷ xs) = by_test (x == 47) refl (whole-pieces xs)
  where
    by_test : (b : Bool) → b ≡ (x == 47) → whole (pieces 47 xs) ≡ xs → whole (if b then [] ∷ pieces 47 xs else onto_first x (pieces 47 xs)) ≡ x ∷ xs
    by_test true f more = whole-slash (pieces 47 xs) (segments-filled xs) ∙ ap (λ t. 47 ∷ t) more ∙ ap (λ n. n ∷ xs) (sym (from_test x 47 (sym f)))
    by_test false f more = whole-onto x (pieces 47 xs) ∙ ap (λ t. x ∷ t) more

-- what a path is, its segments are
written-parts : (p : List ℕ → Bool) → ((a b : List ℕ) → p (a ++ 47 ∷ b) ≡ true → p a ≡ true) → ((a b : List ℕ) → p (a ++ 47 ∷ b) ≡ true → p b ≡ true)
    → (out : List ℕ) (ss : List (List ℕ)) → p (written out ss) ≡ true → (p out ≡ true) × (list_all p ss ≡ true)
unfolding written
written-parts p left right out [] h = (h, refl)
written-parts p left right out (s ∷ rest) h =
    let more = written-parts p left right (out ++ 47 ∷ s) rest h in
    (left out s more.0, and_both (p s) (list_all p rest) (right out s more.0) more.1)

whole-parts : (p : List ℕ → Bool) → ((a b : List ℕ) → p (a ++ 47 ∷ b) ≡ true → p a ≡ true) → ((a b : List ℕ) → p (a ++ 47 ∷ b) ≡ true → p b ≡ true)
    → (ss : List (List ℕ)) → p (whole ss) ≡ true → list_all p ss ≡ true
unfolding whole written
whole-parts p left right [] h = refl
whole-parts p left right (s ∷ rest) h = let more = written-parts p left right s rest h in and_both (p s) (list_all p rest) more.0 more.1

pub pieces-keep : (p : List ℕ → Bool) → ((a b : List ℕ) → p (a ++ 47 ∷ b) ≡ true → p a ≡ true) → ((a b : List ℕ) → p (a ++ 47 ∷ b) ≡ true → p b ≡ true)
    → (path : List ℕ) → p path ≡ true → list_all p (pieces 47 path) ≡ true
pieces-keep p left right path h = whole-parts p left right (pieces 47 path) (subst (λ t. p t ≡ true) (sym (whole-pieces path)) h)

all-weaker : (p q : List ℕ → Bool) → ((s : List ℕ) → p s ≡ true → q s ≡ true) → (ss : List (List ℕ)) → list_all p ss ≡ true → list_all q ss ≡ true
all-weaker p q f [] h = refl
all-weaker p q f (s ∷ rest) h = and_both (q s) (list_all q rest) (f s (and_left (p s) (list_all p rest) h)) (all-weaker p q f rest (and_right (p s) (list_all p rest) h))

-- ---- without its dot segments a path keeps what goes over slashes

pub remove-keeps : (p : List ℕ → Bool) → p [] ≡ true → ((a b : List ℕ) → p a ≡ true → p b ≡ true → p (a ++ 47 ∷ b) ≡ true)
    → ((a b : List ℕ) → p (a ++ 47 ∷ b) ≡ true → p a ≡ true) → ((a b : List ℕ) → p (a ++ 47 ∷ b) ≡ true → p b ≡ true)
    → (path : List ℕ) → p path ≡ true → p (remove_dots path) ≡ true
unfolding remove_dots
remove-keeps p none join left right path h =
    without-keeps p p none none join left (λ s e. e) (pieces 47 path)
    (all-weaker p (λ s. is_dot_segment s || p s) (λ s e. or_right (is_dot_segment s) (p s) e) (pieces 47 path) (pieces-keep p left right path h))

-- ---- empty, or with a slash in front

unfoldable pub is_abempty : List ℕ → Bool
is_abempty path = is_empty path || begins_slashed path

pub abempty-join : (a b : List ℕ) → is_abempty a ≡ true → is_abempty (a ++ 47 ∷ b) ≡ true
unfolding is_abempty
abempty-join [] b h = refl
abempty-join (x ∷ xs) b h = h

pub abempty-back : (a b : List ℕ) → is_abempty (a ++ 47 ∷ b) ≡ true → is_abempty a ≡ true
unfolding is_abempty
abempty-back [] b h = refl
abempty-back (x ∷ xs) b h = h

all-true : (ss : List (List ℕ)) → list_all (λ s. is_dot_segment s || true) ss ≡ true
all-true [] = refl
all-true (s ∷ rest) = and_both (is_dot_segment s || true) (list_all (λ s. is_dot_segment s || true) rest) (or_right (is_dot_segment s) true refl) (all-true rest)

pub remove-abempty : (path : List ℕ) → is_abempty path ≡ true → is_abempty (remove_dots path) ≡ true
unfolding remove_dots is_abempty
remove-abempty [] h = refl
remove-abempty (x ∷ xs) h =
    subst (λ n. is_abempty (remove_dots (n ∷ xs)) ≡ true) (sym (from_test x 47 h))
    (segments-keep is_abempty (λ s. true) refl refl (λ a b f g. abempty-join a b f) abempty-back [] (pieces 47 xs) refl (all-true (pieces 47 xs)))

-- ---- once

is_clean : List ℕ → Bool
is_clean path = list_all (λ s. not (is_dot_segment s)) (pieces 47 path)

onto-append : (x : ℕ) (ps qs : List (List ℕ)) → is_empty ps ≡ false → onto_first x (ps ++ qs) ≡ onto_first x ps ++ qs
onto-append x [] qs e = absurd (true_false e)
onto-append x (p ∷ ps) qs e = refl

pieces-append : (a b : List ℕ) → pieces 47 (a ++ 47 ∷ b) ≡ pieces 47 a ++ pieces 47 b
pieces-append [] b = refl
pieces-append (x ∷ xs) b = by_test (x == 47) (pieces-append xs b)
  where
    by_test : (t : Bool) → pieces 47 (xs ++ 47 ∷ b) ≡ pieces 47 xs ++ pieces 47 b
        → (if t then [] ∷ pieces 47 (xs ++ 47 ∷ b) else onto_first x (pieces 47 (xs ++ 47 ∷ b))) ≡ (if t then [] ∷ pieces 47 xs else onto_first x (pieces 47 xs)) ++ pieces 47 b
    by_test true more = ap (λ t. [] ∷ t) more
    by_test false more = ap (onto_first x) more ∙ onto-append x (pieces 47 xs) (pieces 47 b) (segments-filled xs)

clean-append : (a b : List ℕ) → is_clean (a ++ 47 ∷ b) ≡ (is_clean a && is_clean b)
unfolding is_clean
clean-append a b = ap (list_all (λ s. not (is_dot_segment s))) (pieces-append a b) ∙ list_all-append (λ s. not (is_dot_segment s)) (pieces 47 a) (pieces 47 b)

clean-join : (a b : List ℕ) → is_clean a ≡ true → is_clean b ≡ true → is_clean (a ++ 47 ∷ b) ≡ true
clean-join a b f g = clean-append a b ∙ and_both (is_clean a) (is_clean b) f g

clean-left : (a b : List ℕ) → is_clean (a ++ 47 ∷ b) ≡ true → is_clean a ≡ true
clean-left a b h = and_left (is_clean a) (is_clean b) (sym (clean-append a b) ∙ h)

clean-none : is_clean [] ≡ true
unfolding is_clean
clean-none = refl

-- a segment has no slash
lone : List ℕ → Bool
lone s = not (has 47 s)

lone-pieces : (s : List ℕ) → lone s ≡ true → pieces 47 s ≡ s ∷ []
unfolding lone
lone-pieces [] h = refl
lone-pieces (x ∷ xs) h = by_test (x == 47) refl (λ g. lone-pieces xs g)
  where
    by_test : (t : Bool) → t ≡ (x == 47) → (lone xs ≡ true → pieces 47 xs ≡ xs ∷ []) → (if t then [] ∷ pieces 47 xs else onto_first x (pieces 47 xs)) ≡ (x ∷ xs) ∷ []
    by_test true f more = absurd (true_false (sym h ∙ ap (λ t. not (t || has 47 xs)) (sym f)))
    by_test false f more = ap (onto_first x) (more (ap (λ t. not (t || has 47 xs)) f ∙ h))

onto-lone : (x : ℕ) (ss : List (List ℕ)) → (x == 47) ≡ false → list_all lone ss ≡ true → list_all lone (onto_first x ss) ≡ true
unfolding lone
onto-lone x [] e h = ap (λ t. not (t || false) && true) e
onto-lone x (s ∷ rest) e h = ap (λ t. not (t || has 47 s) && list_all lone rest) e ∙ h

all-lone : (path : List ℕ) → list_all lone (pieces 47 path) ≡ true
unfolding lone
all-lone [] = refl
all-lone (x ∷ xs) = by_test (x == 47) refl (all-lone xs)
  where
    by_test : (t : Bool) → t ≡ (x == 47) → list_all lone (pieces 47 xs) ≡ true → list_all lone (if t then [] ∷ pieces 47 xs else onto_first x (pieces 47 xs)) ≡ true
    by_test true f more = more
    by_test false f more = onto-lone x (pieces 47 xs) (sym f) more

clean-segment : (s : List ℕ) → lone s ≡ true → (is_dot_segment s || is_clean s) ≡ true
unfolding is_clean
clean-segment s h = ap (λ ps. is_dot_segment s || list_all (λ t. not (is_dot_segment t)) ps) (lone-pieces s h)
    ∙ elim (is_dot_segment s) as (λ t. (t || (not t && true)) ≡ true) [ true ↦ refl | false ↦ refl ]

remove-clean : (path : List ℕ) → is_clean (remove_dots path) ≡ true
unfolding remove_dots
remove-clean path =
    without-keeps is_clean is_clean clean-none clean-none clean-join clean-left (λ s e. e) (pieces 47 path)
    (all-weaker lone (λ s. is_dot_segment s || is_clean s) clean-segment (pieces 47 path) (all-lone path))

kept : (out s : List ℕ) (last : Bool) → not (is_dot_segment s) ≡ true → after_segment out s last ≡ out ++ 47 ∷ s
kept out s last h = by_dot (is_dot s) (is_dots s) refl refl
  where
    by_dot : (d e : Bool) → d ≡ is_dot s → e ≡ is_dots s → after_segment out s last ≡ out ++ 47 ∷ s
    by_dot true e f g = absurd (true_false (sym h ∙ ap (λ t. not (t || is_dots s)) (sym f)))
    by_dot false true f g = absurd (true_false (sym h ∙ ap (λ t. not (t || is_dots s)) (sym f) ∙ ap not (sym g)))
    by_dot false false f g = rw (sym f, sym g) refl

after-clean : (out : List ℕ) (ss : List (List ℕ)) → list_all (λ s. not (is_dot_segment s)) ss ≡ true → after_segments out ss ≡ written out ss
unfolding written
after-clean out [] h = refl
after-clean out (s ∷ rest) h =
    ap (λ o. after_segments o rest) (kept out s (is_empty rest) (and_left (not (is_dot_segment s)) _ h)) ∙ after-clean (out ++ 47 ∷ s) rest (and_right (not (is_dot_segment s)) _ h)

without-clean : (ss : List (List ℕ)) → list_all (λ s. not (is_dot_segment s)) ss ≡ true → without_dots ss ≡ whole ss
unfolding whole
without-clean [] h = refl
without-clean (s ∷ rest) h = by_dot (is_dot_segment s) refl
  where
    by_dot : (d : Bool) → d ≡ is_dot_segment s → (if d then without_dots rest else after_segments s rest) ≡ written s rest
    by_dot true f = absurd (true_false (sym (and_left (not (is_dot_segment s)) _ h) ∙ ap not (sym f)))
    by_dot false f = after-clean s rest (and_right (not (is_dot_segment s)) _ h)

remove-nothing : (path : List ℕ) → is_clean path ≡ true → remove_dots path ≡ path
unfolding remove_dots is_clean
remove-nothing path h = without-clean (pieces 47 path) h ∙ whole-pieces path

pub remove-again : (path : List ℕ) → remove_dots (remove_dots path) ≡ remove_dots path
remove-again path = remove-nothing (remove_dots path) (remove-clean path)

-- the guard is itself a dot segment
pub remove-guard : (path : List ℕ) → begins_slashed path ≡ true → remove_dots (codes "/." ++ path) ≡ remove_dots path
unfolding remove_dots
remove-guard [] h = absurd (true_false (sym h))
remove-guard (x ∷ xs) h = ap (λ n. without_dots (pieces 47 (47 ∷ 46 ∷ n ∷ xs))) (from_test x 47 h) ∙ ap (λ e. after_segments (after_segment [] (46 ∷ []) e) (pieces 47 xs)) (segments-filled xs) ∙ ap (λ n. without_dots (pieces 47 (n ∷ xs))) (sym (from_test x 47 h))
