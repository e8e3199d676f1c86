-- A list in which the first ones stand, then the children of each in turn, goes by levels.
use Rattle.std.proofs.Common.{◌≡◌, ◌∙◌, ◌<◌, ◌≤◌, ◌+◌, ℕ, zero, suc, List, [], ◌∷◌, ◌++◌, refl, sym, ap, subst, arith}
use Rattle.std.specs.List.{flat_map, AllByRecursion}
use Rattle.std.proofs.lemmas.Grind.{flat_map-append}
use Rattle.schema_definitions.specs.Words.{levels}

-- children have less height
pub record Falls (P : Type 0) (children : P → List P) (height : P → ℕ) : Type 0 where
  pub below : (p : P) → AllByRecursion (λ c. height c < height p) (children p)

module _ (P : Type 0) (height : P → ℕ) where
  weaker : (m n : ℕ) → m ≤ n → (ps : List P) → AllByRecursion (λ p. height p < m) ps → AllByRecursion (λ p. height p < n) ps
  weaker m n le [] h = tt
  weaker m n le (p ∷ ps) h = (omega (arith, h.0), weaker m n le ps h.1)

  pub both : (n : ℕ) (ps qs : List P) → AllByRecursion (λ p. height p < n) ps → AllByRecursion (λ p. height p < n) qs → AllByRecursion (λ p. height p < n) (ps ++ qs)
  both n [] qs g h = h
  both n (p ∷ ps) qs g h = (g.0, both n ps qs g.1 h)

  bound : List P → ℕ
  bound [] = 0
  bound (p ∷ ps) = suc (height p) + bound ps

  bounded : (ps : List P) → AllByRecursion (λ p. height p < bound ps) ps
  unfolding bound
  bounded [] = tt
  bounded (p ∷ ps) = (omega arith, weaker (bound ps) (suc (height p) + bound ps) (omega arith) ps (bounded ps))

module _ (P : Type 0) (children : P → List P) (height : P → ℕ) (falls : Falls P children height) where
  down : (n : ℕ) (ps : List P) → AllByRecursion (λ p. height p < suc n) ps → AllByRecursion (λ p. height p < n) (flat_map children ps)
  down n [] h = tt
  down n (p ∷ ps) h = both P height n (children p) (flat_map children ps) (weaker P height (height p) n (omega (arith, h.0)) (children p) (falls.below p)) (down n ps h.1)

  none : (n : ℕ) (ps : List P) → ps ≡ flat_map children ps → AllByRecursion (λ p. height p < n) ps → ps ≡ []
  none zero [] e h = refl
  none zero (p ∷ ps) e h = absurd (omega (arith, h.0))
  none (suc n) ps e h = none n ps e (subst (AllByRecursion (λ p. height p < n)) (sym e) (down n ps h))

  go : (n : ℕ) (now later : List P) → AllByRecursion (λ p. height p < n) now → later ≡ flat_map children (now ++ later) → now ++ later ≡ levels children n now
  go zero [] later h e = none (bound P height later) later e (bounded P height later)
  go zero (p ∷ now) later h e = absurd (omega (arith, h.0))
  go (suc n) now later h e =
      let parts : later ≡ flat_map children now ++ flat_map children later = e ∙ flat_map-append children now later in
      let next : flat_map children later ≡ flat_map children (flat_map children now ++ flat_map children later) = ap (flat_map children) parts in
      ap (λ x. now ++ x) (parts ∙ go n (flat_map children now) (flat_map children later) (down n now h) next)

  pub by_levels : (n : ℕ) (first found : List P) → AllByRecursion (λ p. height p < n) first → found ≡ first ++ flat_map children found → found ≡ levels children n first
  by_levels n first found h e = e ∙ go n first (flat_map children found) h (ap (flat_map children) e)
