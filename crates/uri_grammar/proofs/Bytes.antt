-- Which bytes a text does not have.
use Rattle.std.proofs.Common.{◌≡◌, ◌==◌, ◌∙◌, List, [], ◌∷◌, ◌++◌, ℕ, Bool, true, false, ap, refl}
use Rattle.std.specs.List.{list_all}
use Rattle.std.proofs.lemmas.Bool.{eqb-true, or_parts, and_parts, false_from_ne_true, both_ways, or_from}
use Rattle.uri_grammar.specs.Texts.{has}

pub has_append : (c : ℕ) (xs ys : List ℕ) → has c xs ≡ false → has c ys ≡ false → has c (xs ++ ys) ≡ false
has_append c [] ys h k = k
has_append c (x ∷ xs) ys h k = let f = or_parts (x == c) (has c xs) h in or_from (x == c) (has c (xs ++ ys)) f.0 (has_append c xs ys f.1 k)

-- a byte that passes a test that c fails is not c
pub other : (test : ℕ → Bool) (c b : ℕ) → test c ≡ false → test b ≡ true → (b == c) ≡ false
other test c b fails passes = false_from_ne_true (b == c) (λ e. both_ways (test b) (ap test (eqb-true b c e) ∙ fails) passes)

pub all_lacks : (test : ℕ → Bool) (c : ℕ) → test c ≡ false → (bs : List ℕ) → list_all test bs ≡ true → has c bs ≡ false
all_lacks test c fails [] h = refl
all_lacks test c fails (b ∷ bs) h =
    let f = and_parts (test b) (list_all test bs) h in
    or_from (b == c) (has c bs) (other test c b fails f.0) (all_lacks test c fails bs f.1)
