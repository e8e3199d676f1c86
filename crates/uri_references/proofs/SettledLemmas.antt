-- Texts whose triplets are in normal form.
use Rattle.std.proofs.Common.{◌≡◌, ◌==◌, ◌∙◌, ◌&&◌, ◌||◌, ◌++◌, List, [], ◌∷◌, ℕ, zero, suc, Bool, true, false, not, ap, refl, sym, if◌then◌else◌, inl, inr, arith, eq-eqb}
use Rattle.std.specs.Char.{to_ascii_lowercase, to_ascii_uppercase}
use Rattle.uri_grammar.specs.Texts.{is_hex}
use Rattle.uri_grammar.specs.Addresses.{is_unreserved}
use Rattle.uri_grammar.specs.Grammar.{is_encoded, due_after}
use Rattle.uri_references.specs.NormalForm.{with_triplets, is_triplet, octet, lowered, normal_host}
use Rattle.uri_references.proofs.Bools.{true_false, and_left, and_right, and_both, or_either, or_left, or_right, not_false, and-three}
use Rattle.uri_references.proofs.DotLemmas.{from_test}
use Rattle.uri_references.proofs.TripletSteps.{triplet-first, plain-first}
use Rattle.uri_references.proofs.Characters.{upper-hex, value-upper, value-lower, lower-upper, lower-lower, upper-upper, lower-percent, lower-hex}

-- what comes next: a byte, the first digit of a triplet, the second one behind it
data Due : Type 0 where
  plain : Due
  high : Due
  low : ℕ → Due

-- no triplet is of an unreserved character, and the digits of each pass a test
is_settled : (ℕ → Bool) → Due → List ℕ → Bool
is_settled digit plain [] = true
is_settled digit high [] = false
is_settled digit (low y) [] = false
is_settled digit plain (b ∷ text) = if b == 37 then is_settled digit high text else is_settled digit plain text
is_settled digit high (y ∷ text) = digit y && is_settled digit (low y) text
is_settled digit (low y) (z ∷ text) = (digit z && not (is_unreserved (octet y z))) && is_settled digit plain text

abbrev is_capital : ℕ → Bool
is_capital y = is_hex y && (to_ascii_uppercase y == y)

capital-upper : (y : ℕ) → is_hex y ≡ true → is_capital (to_ascii_uppercase y) ≡ true
capital-upper y e = and_both (is_hex (to_ascii_uppercase y)) _ (upper-hex y e) (eq-eqb _ _ (upper-upper y))

unreserved-plain : (b : ℕ) → is_unreserved b ≡ true → (b == 37) ≡ false
unreserved-plain b e = grind arith

octet-upper : (y z : ℕ) → is_hex y ≡ true → is_hex z ≡ true → octet (to_ascii_uppercase y) (to_ascii_uppercase z) ≡ octet y z
octet-upper y z e f = rw (value-upper y e, value-upper z f) refl

-- ---- texts with slashes

settled-join : (digit : ℕ → Bool) → digit 47 ≡ false → (d : Due) (a b : List ℕ) → is_settled digit d (a ++ 47 ∷ b) ≡ (is_settled digit d a && is_settled digit plain b)
unfolding is_settled
settled-join digit none plain [] b = refl
settled-join digit none high [] b = ap (λ t. t && is_settled digit (low 47) b) none
settled-join digit none (low y) [] b = ap (λ t. (t && not (is_unreserved (octet y 47))) && is_settled digit plain b) none
settled-join digit none plain (x ∷ xs) b = by_test (x == 37) (settled-join digit none high xs b) (settled-join digit none plain xs b)
  where
    by_test : (t : Bool) → is_settled digit high (xs ++ 47 ∷ b) ≡ (is_settled digit high xs && is_settled digit plain b) → is_settled digit plain (xs ++ 47 ∷ b) ≡ (is_settled digit plain xs && is_settled digit plain b)
        → (if t then is_settled digit high (xs ++ 47 ∷ b) else is_settled digit plain (xs ++ 47 ∷ b)) ≡ ((if t then is_settled digit high xs else is_settled digit plain xs) && is_settled digit plain b)
    by_test true e f = e
    by_test false e f = f
settled-join digit none high (x ∷ xs) b = ap (λ t. digit x && t) (settled-join digit none (low x) xs b) ∙ and-three (digit x) (is_settled digit (low x) xs) (is_settled digit plain b)
settled-join digit none (low y) (x ∷ xs) b = ap (λ t. (digit x && not (is_unreserved (octet y x))) && t) (settled-join digit none plain xs b) ∙ and-three (digit x && not (is_unreserved (octet y x))) (is_settled digit plain xs) (is_settled digit plain b)

-- ---- any text with whole triplets has a normal form that is settled

is_complete : ℕ → List ℕ → Bool
is_complete due text = is_encoded (λ b. true) due text

with-settled : (digit : ℕ → Bool) → ((y : ℕ) → is_hex y ≡ true → digit (to_ascii_uppercase y) ≡ true) → (t : List ℕ) → is_complete 0 t ≡ true → is_settled digit plain (with_triplets t) ≡ true
unfolding is_settled is_complete
with-settled digit up [] h = refl
with-settled digit up (x ∷ []) h = by_test (x == 37) h
  where
    by_test : (t : Bool) → is_encoded (λ b. true) (if t then 2 else 0) [] ≡ true → (if t then is_settled digit high [] else is_settled digit plain []) ≡ true
    by_test true f = f
    by_test false f = refl
with-settled digit up (x ∷ y ∷ []) h = by_test (x == 37) h (λ f. with-settled digit up (y ∷ []) f)
  where
    by_test : (t : Bool) → is_encoded (λ b. true) (if t then 2 else 0) (y ∷ []) ≡ true
        → (is_encoded (λ b. true) 0 (y ∷ []) ≡ true → is_settled digit plain (y ∷ []) ≡ true)
        → (if t then is_settled digit high (y ∷ []) else is_settled digit plain (y ∷ [])) ≡ true
    by_test true f more = absurd (true_false (sym (and_right (is_hex y) false f)))
    by_test false f more = more f
with-settled digit up (x ∷ y ∷ z ∷ rest) h = by_test (x == 37) refl h (λ f. with-settled digit up rest f) (λ f. with-settled digit up (y ∷ z ∷ rest) f)
  where
    by_octet : (u : Bool) → u ≡ is_unreserved (octet y z) → is_hex y ≡ true → is_hex z ≡ true → is_settled digit plain (with_triplets rest) ≡ true
        → is_settled digit plain ((if u then octet y z ∷ [] else 37 ∷ to_ascii_uppercase y ∷ to_ascii_uppercase z ∷ []) ++ with_triplets rest) ≡ true
    by_octet true e a b more = ap (λ t. if t then is_settled digit high (with_triplets rest) else is_settled digit plain (with_triplets rest)) (unreserved-plain (octet y z) (sym e)) ∙ more
    by_octet false e a b more =
        and_both (digit (to_ascii_uppercase y)) _ (up y a)
        (and_both _ (is_settled digit plain (with_triplets rest))
        (and_both (digit (to_ascii_uppercase z)) _ (up z b) (ap (λ n. not (is_unreserved n)) (octet-upper y z a b) ∙ ap not (sym e))) more)

    by_test : (t : Bool) → t ≡ (x == 37) → is_encoded (λ b. true) (if t then 2 else 0) (y ∷ z ∷ rest) ≡ true
        → (is_encoded (λ b. true) 0 rest ≡ true → is_settled digit plain (with_triplets rest) ≡ true)
        → (is_encoded (λ b. true) 0 (y ∷ z ∷ rest) ≡ true → is_settled digit plain (with_triplets (y ∷ z ∷ rest)) ≡ true)
        → is_settled digit plain (with_triplets (x ∷ y ∷ z ∷ rest)) ≡ true
    by_test true e f short long =
        let a = and_left (is_hex y) _ f in
        let b = and_left (is_hex z) _ (and_right (is_hex y) _ f) in
        let c = and_right (is_hex z) _ (and_right (is_hex y) _ f) in
        let here : is_triplet x y z ≡ true = and_both (x == 37) _ (sym e) (and_both (is_hex y) (is_hex z) a b) in
        ap (is_settled digit plain) (triplet-first x y z rest here) ∙ by_octet (is_unreserved (octet y z)) refl a b (short c)
    by_test false e f short long =
        ap (is_settled digit plain) (plain-first x y z rest (ap (λ t. t && (is_hex y && is_hex z)) (sym e)))
        ∙ ap (λ t. if t then is_settled digit high (with_triplets (y ∷ z ∷ rest)) else is_settled digit plain (with_triplets (y ∷ z ∷ rest))) (sym e) ∙ long f

-- ---- a settled text is its own

settled-same : (t : List ℕ) → is_settled is_capital plain t ≡ true → with_triplets t ≡ t
unfolding is_settled
settled-same [] h = refl
settled-same (x ∷ []) h = refl
settled-same (x ∷ y ∷ []) h = refl
settled-same (x ∷ y ∷ z ∷ rest) h = by_test (x == 37) refl h (λ f. settled-same rest f) (λ f. settled-same (y ∷ z ∷ rest) f)
  where
    by_test : (t : Bool) → t ≡ (x == 37) → (if t then is_settled is_capital high (y ∷ z ∷ rest) else is_settled is_capital plain (y ∷ z ∷ rest)) ≡ true
        → (is_settled is_capital plain rest ≡ true → with_triplets rest ≡ rest)
        → (is_settled is_capital plain (y ∷ z ∷ rest) ≡ true → with_triplets (y ∷ z ∷ rest) ≡ y ∷ z ∷ rest)
        → with_triplets (x ∷ y ∷ z ∷ rest) ≡ x ∷ y ∷ z ∷ rest
    by_test true e f short long =
        let a = and_left (is_capital y) _ f in
        let g = and_right (is_capital y) _ f in
        let b = and_left (is_capital z) _ (and_left _ _ g) in
        let other = and_right (is_capital z) _ (and_left _ _ g) in
        let kept : is_unreserved (octet y z) ≡ false = not_false (is_unreserved (octet y z)) other in
        let here : is_triplet x y z ≡ true = and_both (x == 37) _ (sym e) (and_both (is_hex y) (is_hex z) (and_left (is_hex y) _ a) (and_left (is_hex z) _ b)) in
        triplet-first x y z rest here
        ∙ ap (λ t. (if t then octet y z ∷ [] else 37 ∷ to_ascii_uppercase y ∷ to_ascii_uppercase z ∷ []) ++ with_triplets rest) kept
        ∙ ap (λ n. 37 ∷ n ∷ to_ascii_uppercase z ∷ with_triplets rest) (from_test (to_ascii_uppercase y) y (and_right (is_hex y) _ a))
        ∙ ap (λ n. 37 ∷ y ∷ n ∷ with_triplets rest) (from_test (to_ascii_uppercase z) z (and_right (is_hex z) _ b))
        ∙ ap (λ t. 37 ∷ y ∷ z ∷ t) (short (and_right _ _ g))
        ∙ ap (λ n. n ∷ y ∷ z ∷ rest) (sym (from_test x 37 (sym e)))
    by_test false e f short long =
        plain-first x y z rest (ap (λ t. t && (is_hex y && is_hex z)) (sym e)) ∙ ap (λ t. x ∷ t) (long f)

pub is_normal : List ℕ → Bool
is_normal text = is_settled is_capital plain text

pub normal-same : (t : List ℕ) → is_normal t ≡ true → with_triplets t ≡ t
unfolding is_normal
normal-same t h = settled-same t h

complete-of : (allowed : ℕ → Bool) (due : ℕ) (t : List ℕ) → is_encoded allowed due t ≡ true → is_complete due t ≡ true
unfolding is_complete
complete-of allowed due [] h = h
complete-of allowed zero (b ∷ t) h = complete-of allowed (due_after zero b) t (and_right (allowed b || b == 37) _ h)
complete-of allowed (suc due) (b ∷ t) h = and_both (is_hex b) _ (and_left (is_hex b) _ h) (complete-of allowed due t (and_right (is_hex b) _ h))

pub with-normal : (allowed : ℕ → Bool) (t : List ℕ) → is_encoded allowed 0 t ≡ true → is_normal (with_triplets t) ≡ true
unfolding is_normal
with-normal allowed t h = with-settled is_capital capital-upper t (complete-of allowed 0 t h)

pub with-again : (allowed : ℕ → Bool) (t : List ℕ) → is_encoded allowed 0 t ≡ true → with_triplets (with_triplets t) ≡ with_triplets t
with-again allowed t h = normal-same (with_triplets t) (with-normal allowed t h)

-- ---- the grammar stays

pub with-encoded : (allowed : ℕ → Bool) → ((b : ℕ) → is_unreserved b ≡ true → allowed b ≡ true) → (t : List ℕ) → is_encoded allowed 0 t ≡ true → is_encoded allowed 0 (with_triplets t) ≡ true
with-encoded allowed un [] h = h
with-encoded allowed un (x ∷ []) h = h
with-encoded allowed un (x ∷ y ∷ []) h = h
with-encoded allowed un (x ∷ y ∷ z ∷ rest) h =
    by_test (x == 37) refl (and_right (allowed x || x == 37) _ h) (λ f. with-encoded allowed un rest f) (λ f. with-encoded allowed un (y ∷ z ∷ rest) f)
  where
    by_octet : (u : Bool) → u ≡ is_unreserved (octet y z) → is_hex y ≡ true → is_hex z ≡ true → is_encoded allowed 0 (with_triplets rest) ≡ true
        → is_encoded allowed 0 ((if u then octet y z ∷ [] else 37 ∷ to_ascii_uppercase y ∷ to_ascii_uppercase z ∷ []) ++ with_triplets rest) ≡ true
    by_octet true e a b more =
        and_both (allowed (octet y z) || octet y z == 37) _ (or_left (allowed (octet y z)) _ (un (octet y z) (sym e)))
        (ap (λ t. is_encoded allowed (if t then 2 else 0) (with_triplets rest)) (unreserved-plain (octet y z) (sym e)) ∙ more)
    by_octet false e a b more =
        and_both (allowed 37 || true) _ (or_right (allowed 37) true refl)
        (and_both (is_hex (to_ascii_uppercase y)) _ (upper-hex y a) (and_both (is_hex (to_ascii_uppercase z)) _ (upper-hex z b) more))

    by_test : (t : Bool) → t ≡ (x == 37) → is_encoded allowed (if t then 2 else 0) (y ∷ z ∷ rest) ≡ true
        → (is_encoded allowed 0 rest ≡ true → is_encoded allowed 0 (with_triplets rest) ≡ true)
        → (is_encoded allowed 0 (y ∷ z ∷ rest) ≡ true → is_encoded allowed 0 (with_triplets (y ∷ z ∷ rest)) ≡ true)
        → is_encoded allowed 0 (with_triplets (x ∷ y ∷ z ∷ rest)) ≡ true
    by_test true e f short long =
        let a = and_left (is_hex y) _ f in
        let b = and_left (is_hex z) _ (and_right (is_hex y) _ f) in
        let c = and_right (is_hex z) _ (and_right (is_hex y) _ f) in
        let here : is_triplet x y z ≡ true = and_both (x == 37) _ (sym e) (and_both (is_hex y) (is_hex z) a b) in
        ap (is_encoded allowed 0) (triplet-first x y z rest here) ∙ by_octet (is_unreserved (octet y z)) refl a b (short c)
    by_test false e f short long =
        ap (is_encoded allowed 0) (plain-first x y z rest (ap (λ t. t && (is_hex y && is_hex z)) (sym e)))
        ∙ and_both (allowed x || x == 37) _ (and_left (allowed x || x == 37) _ h)
        (ap (λ t. is_encoded allowed (if t then 2 else 0) (with_triplets (y ∷ z ∷ rest))) (sym e) ∙ long f)

pub lower-encoded : (allowed : ℕ → Bool) → ((b : ℕ) → allowed b ≡ true → allowed (to_ascii_lowercase b) ≡ true) → (due : ℕ) (t : List ℕ) → is_encoded allowed due t ≡ true → is_encoded allowed due (lowered t) ≡ true
lower-encoded allowed keeps due [] h = h
lower-encoded allowed keeps zero (b ∷ t) h =
    and_both (allowed (to_ascii_lowercase b) || to_ascii_lowercase b == 37) _
    (elim (or_either (allowed b) (b == 37) (and_left (allowed b || b == 37) _ h)) [
      | inl e ↦ or_left (allowed (to_ascii_lowercase b)) _ (keeps b e)
      | inr e ↦ or_right (allowed (to_ascii_lowercase b)) _ (lower-percent b ∙ e)
    ])
    (ap (λ t'. is_encoded allowed (if t' then 2 else 0) (lowered t)) (lower-percent b) ∙ lower-encoded allowed keeps (due_after zero b) t (and_right (allowed b || b == 37) _ h))
lower-encoded allowed keeps (suc due) (b ∷ t) h =
    and_both (is_hex (to_ascii_lowercase b)) _ (lower-hex b ∙ and_left (is_hex b) _ h) (lower-encoded allowed keeps due t (and_right (is_hex b) _ h))

-- ---- hosts

due_of : Due → ℕ
due_of plain = 0
due_of high = 2
due_of (low y) = 1

settled-complete : (d : Due) (t : List ℕ) → is_settled is_hex d t ≡ true → is_complete (due_of d) t ≡ true
unfolding is_settled is_complete due_of
settled-complete plain [] h = refl
settled-complete high [] h = h
settled-complete (low y) [] h = h
settled-complete plain (b ∷ t) h = by_test (b == 37) h (λ f. settled-complete high t f) (λ f. settled-complete plain t f)
  where
    by_test : (u : Bool) → (if u then is_settled is_hex high t else is_settled is_hex plain t) ≡ true
        → (is_settled is_hex high t ≡ true → is_encoded (λ n. true) 2 t ≡ true) → (is_settled is_hex plain t ≡ true → is_encoded (λ n. true) 0 t ≡ true)
        → is_encoded (λ n. true) (if u then 2 else 0) t ≡ true
    by_test true f two none = two f
    by_test false f two none = none f
settled-complete high (y ∷ t) h = and_both (is_hex y) _ (and_left (is_hex y) _ h) (settled-complete (low y) t (and_right (is_hex y) _ h))
settled-complete (low y) (z ∷ t) h = and_both (is_hex z) _ (and_left (is_hex z) _ (and_left _ _ h)) (settled-complete plain t (and_right _ _ h))

lower_due : Due → Due
lower_due plain = plain
lower_due high = high
lower_due (low y) = low (to_ascii_lowercase y)

is_due : Due → Bool
is_due plain = true
is_due high = true
is_due (low y) = is_hex y

octet-lower : (y z : ℕ) → is_hex y ≡ true → is_hex z ≡ true → octet (to_ascii_lowercase y) (to_ascii_lowercase z) ≡ octet y z
octet-lower y z e f = rw (value-lower y e, value-lower z f) refl

lower-settled : (d : Due) (t : List ℕ) → is_due d ≡ true → is_settled is_hex d t ≡ true → is_settled is_hex (lower_due d) (lowered t) ≡ true
unfolding is_settled lower_due is_due
lower-settled plain [] k h = refl
lower-settled high [] k h = h
lower-settled (low y) [] k h = h
lower-settled plain (b ∷ t) k h =
    ap (λ c. if c then is_settled is_hex high (lowered t) else is_settled is_hex plain (lowered t)) (lower-percent b)
    ∙ by_test (b == 37) h (λ f. lower-settled high t refl f) (λ f. lower-settled plain t refl f)
  where
    by_test : (u : Bool) → (if u then is_settled is_hex high t else is_settled is_hex plain t) ≡ true
        → (is_settled is_hex high t ≡ true → is_settled is_hex high (lowered t) ≡ true) → (is_settled is_hex plain t ≡ true → is_settled is_hex plain (lowered t) ≡ true)
        → (if u then is_settled is_hex high (lowered t) else is_settled is_hex plain (lowered t)) ≡ true
    by_test true f two none = two f
    by_test false f two none = none f
lower-settled high (y ∷ t) k h =
    let a = and_left (is_hex y) _ h in
    and_both (is_hex (to_ascii_lowercase y)) _ (lower-hex y ∙ a) (lower-settled (low y) t a (and_right (is_hex y) _ h))
lower-settled (low y) (z ∷ t) k h =
    let b = and_left (is_hex z) _ (and_left _ _ h) in
    and_both _ (is_settled is_hex plain (lowered t))
    (and_both (is_hex (to_ascii_lowercase z)) _ (lower-hex z ∙ b) (ap (λ n. not (is_unreserved n)) (octet-lower y z k b) ∙ and_right (is_hex z) _ (and_left _ _ h)))
    (lower-settled plain t refl (and_right _ _ h))

-- lowering forgets how the digits of triplets were written
lower-with : (t : List ℕ) → is_settled is_hex plain t ≡ true → lowered (with_triplets t) ≡ lowered t
unfolding is_settled
lower-with [] h = refl
lower-with (x ∷ []) h = refl
lower-with (x ∷ y ∷ []) h = refl
lower-with (x ∷ y ∷ z ∷ rest) h = by_test (x == 37) refl h (λ f. lower-with rest f) (λ f. lower-with (y ∷ z ∷ rest) f)
  where
    by_test : (t : Bool) → t ≡ (x == 37) → (if t then is_settled is_hex high (y ∷ z ∷ rest) else is_settled is_hex plain (y ∷ z ∷ rest)) ≡ true
        → (is_settled is_hex plain rest ≡ true → lowered (with_triplets rest) ≡ lowered rest)
        → (is_settled is_hex plain (y ∷ z ∷ rest) ≡ true → lowered (with_triplets (y ∷ z ∷ rest)) ≡ lowered (y ∷ z ∷ rest))
        → lowered (with_triplets (x ∷ y ∷ z ∷ rest)) ≡ lowered (x ∷ y ∷ z ∷ rest)
    by_test true e f short long =
        let a = and_left (is_hex y) _ f in
        let g = and_right (is_hex y) _ f in
        let b = and_left (is_hex z) _ (and_left _ _ g) in
        let kept : is_unreserved (octet y z) ≡ false = not_false (is_unreserved (octet y z)) (and_right (is_hex z) _ (and_left _ _ g)) in
        let here : is_triplet x y z ≡ true = and_both (x == 37) _ (sym e) (and_both (is_hex y) (is_hex z) a b) in
        ap lowered (triplet-first x y z rest here
        ∙ ap (λ t. (if t then octet y z ∷ [] else 37 ∷ to_ascii_uppercase y ∷ to_ascii_uppercase z ∷ []) ++ with_triplets rest) kept)
        ∙ ap (λ n. 37 ∷ n ∷ to_ascii_lowercase (to_ascii_uppercase z) ∷ lowered (with_triplets rest)) (lower-upper y a)
        ∙ ap (λ n. 37 ∷ to_ascii_lowercase y ∷ n ∷ lowered (with_triplets rest)) (lower-upper z b)
        ∙ ap (λ t. 37 ∷ to_ascii_lowercase y ∷ to_ascii_lowercase z ∷ t) (short (and_right _ _ g))
        ∙ ap (λ n. to_ascii_lowercase n ∷ to_ascii_lowercase y ∷ to_ascii_lowercase z ∷ lowered rest) (sym (from_test x 37 (sym e)))
    by_test false e f short long =
        ap lowered (plain-first x y z rest (ap (λ t. t && (is_hex y && is_hex z)) (sym e))) ∙ ap (λ t. to_ascii_lowercase x ∷ t) (long f)

pub lowered-again : (t : List ℕ) → lowered (lowered t) ≡ lowered t
lowered-again [] = refl
lowered-again (b ∷ t) = ap (λ n. n ∷ lowered (lowered t)) (lower-lower b) ∙ ap (λ s. to_ascii_lowercase b ∷ s) (lowered-again t)

host_again : (t : List ℕ) → is_complete 0 t ≡ true → normal_host (normal_host t) ≡ normal_host t
unfolding is_due lower_due is_complete due_of
host_again t h =
    let k = lowered (with_triplets t) in
    let settled = lower-settled plain (with_triplets t) refl (with-settled is_hex upper-hex t h) in
    let same = settled-same (with_triplets k) (with-settled is_capital capital-upper k (settled-complete plain k settled)) in
    ap (λ x. with_triplets (lowered x)) same ∙ ap with_triplets (lower-with k settled ∙ lowered-again (with_triplets t))

pub host-again : (allowed : ℕ → Bool) (t : List ℕ) → is_encoded allowed 0 t ≡ true → normal_host (normal_host t) ≡ normal_host t
host-again allowed t h = host_again t (complete-of allowed 0 t h)

-- a name in a host stays one
pub host-encoded : (allowed : ℕ → Bool) → ((b : ℕ) → is_unreserved b ≡ true → allowed b ≡ true) → ((b : ℕ) → allowed b ≡ true → allowed (to_ascii_lowercase b) ≡ true)
    → (t : List ℕ) → is_encoded allowed 0 t ≡ true → is_encoded allowed 0 (normal_host t) ≡ true
host-encoded allowed un keeps t h = with-encoded allowed un (lowered (with_triplets t)) (lower-encoded allowed keeps 0 (with_triplets t) (with-encoded allowed un t h))

-- over slashes
pub normal-joined : (a b : List ℕ) → is_normal (a ++ 47 ∷ b) ≡ (is_normal a && is_normal b)
unfolding is_normal
normal-joined a b = settled-join is_capital refl plain a b

pub normal-none : is_normal [] ≡ true
unfolding is_normal is_settled
normal-none = refl
