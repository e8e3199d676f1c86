-- The marks at the ends of a pattern.
use borrow.Author.Tests.{eqb-true, eq-eqb}
use Rattle.std.proofs.Common.{◌≡◌, ℕ, List, [], ◌∷◌, ◌++◌, Bool, true, false, ◌==◌, Option, Some, None, option_map, option_and_then, Bor, MatchOption, ◌≢◌, refl, sym, ap, ◌∙◌}
use Rattle.std.specs.Prelude.{if◌then◌else◌}
use Rattle.json_values.specs.Patterns.{is_plain, unescaped, prefix, word, behind, before, or_else, closed_of, opened_of, literal_of}

by_same : (b : Bool) (c x : ℕ) (xs : List ℕ) → (x == c) ≡ b → (x ≡ c → ⊥) → (if b then Some xs else None) ≡ None
by_same true c x xs is n = absurd (n (eqb-true x c is))
by_same false c x xs is n = refl

pub behind_none : (c : ℕ) (bs : List ℕ) → ((rest : List ℕ) → bs ≡ c ∷ rest → ⊥) → behind c bs ≡ None
behind_none c [] n = refl
behind_none c (x ∷ xs) n = by_same (x == c) c x xs refl (λ e. n xs (ap (λ (y : ℕ). y ∷ xs) e))

pub behind_some : (c : ℕ) (bs rest : List ℕ) → bs ≡ c ∷ rest → behind c bs ≡ Some rest
behind_some c bs rest e = ap (behind c) e ∙ rw (eq-eqb c c refl) refl

pub before_none : (c : ℕ) (bs : List ℕ) → ((front : List ℕ) → bs ≡ front ++ c ∷ [] → ⊥) → before c bs ≡ None
before_none c [] n = refl
before_none c (x ∷ []) n = by_same (x == c) c x [] refl (λ e. n [] (ap (λ (y : ℕ). y ∷ []) e))
before_none c (x ∷ y ∷ xs) n = ap (option_map (λ t. x ∷ t)) (before_none c (y ∷ xs) (λ front e. n (x ∷ front) (ap (λ t. x ∷ t) e)))

pub before_last : (c : ℕ) (xs : List ℕ) → before c (xs ++ c ∷ []) ≡ Some xs
before_last c [] = rw (eq-eqb c c refl) refl
before_last c (x ∷ []) = ap (option_map (λ t. x ∷ t)) (before_last c [])
before_last c (x ∷ y ∷ xs) = ap (option_map (λ t. x ∷ t)) (before_last c (y ∷ xs))

pub before_some : (c : ℕ) (bs front : List ℕ) → bs ≡ front ++ c ∷ [] → before c bs ≡ Some front
before_some c bs front e = ap (before c) e ∙ before_last c front

pub opened_here : (pattern opened : List ℕ) → behind 94 pattern ≡ Some opened → literal_of pattern ≡ opened_of opened
opened_here pattern opened e = ap (option_and_then opened_of) e

pub closed_here : (opened : List ℕ) → word opened ≡ None → opened_of opened ≡ option_and_then closed_of (before 36 opened)
closed_here opened e = ap (λ o. or_else (option_map prefix o) (option_and_then closed_of (before 36 opened))) e

-- what `strip_prefix` and `strip_suffix` answer
pub stripped_start : (c : ℕ) (bs : List ℕ) (r : Option (Bor (List ℕ))) → MatchOption r ((rest : List ℕ) → bs ≢ c ∷ rest) (λ x. bs ≡ c ∷ x.now) → option_map (λ x. x.now) r ≡ behind c bs
stripped_start c bs None h = sym (behind_none c bs h)
stripped_start c bs (Some x) h = sym (behind_some c bs x.now h)

pub stripped_end : (c : ℕ) (bs : List ℕ) (r : Option (Bor (List ℕ))) → MatchOption r ((front : List ℕ) → bs ≢ front ++ c ∷ []) (λ x. bs ≡ x.now ++ c ∷ []) → option_map (λ x. x.now) r ≡ before c bs
stripped_end c bs None h = sym (before_none c bs h)
stripped_end c bs (Some x) h = sym (before_some c bs x.now h)

by_mark : (b : Bool) (c x : ℕ) (xs rest : List ℕ) → (x == c) ≡ b → (if b then Some xs else None) ≡ Some rest → x ∷ xs ≡ c ∷ rest
by_mark true c x xs rest is h = (let s : x ≡ c = eqb-true x c is in let r : xs ≡ rest = cc in cc)
by_mark false c x xs rest is h = cc

pub behind_from : (c : ℕ) (bs rest : List ℕ) → behind c bs ≡ Some rest → bs ≡ c ∷ rest
behind_from c [] rest h = cc
behind_from c (x ∷ xs) rest h = by_mark (x == c) c x xs rest refl h

end_by : (b : Bool) (c x : ℕ) (front : List ℕ) → (x == c) ≡ b → (if b then Some [] else None) ≡ Some front → x ∷ [] ≡ front ++ c ∷ []
end_by true c x front is h = (let s : x ≡ c = eqb-true x c is in let r : [] ≡ front = cc in ap (λ (y : ℕ). y ∷ []) s ∙ ap (λ f. f ++ c ∷ []) r)
end_by false c x front is h = cc

later_by : (o : Option (List ℕ)) (x : ℕ) (front : List ℕ) → option_map (λ t. x ∷ t) o ≡ Some front → (u : List ℕ) × (o ≡ Some u) × (x ∷ u ≡ front)
later_by None x front h = cc
later_by (Some u) x front h = (u, refl, cc)

pub before_from : (c : ℕ) (bs front : List ℕ) → before c bs ≡ Some front → bs ≡ front ++ c ∷ []
before_from c [] front h = cc
before_from c (x ∷ []) front h = end_by (x == c) c x front refl h
before_from c (x ∷ y ∷ xs) front h =
    let m = later_by (before c (y ∷ xs)) x front h in
    ap (λ t. x ∷ t) (before_from c (y ∷ xs) m.0 m.1) ∙ ap (λ f. f ++ c ∷ []) m.2

-- a plain character stands for itself
pub plain_first : (c : ℕ) (rest : List ℕ) → is_plain c ≡ true → unescaped (c ∷ rest) ≡ option_map (λ t. c ∷ t) (unescaped rest)
unfolding unescaped
plain_first c [] h = rw h refl
plain_first c (d ∷ rest) h = rw h refl
