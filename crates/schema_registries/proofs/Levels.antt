-- The paths of elements by levels, where the paths of those below each one part.
use Rattle.std.proofs.Common.{◌≡◌, ◌∙◌, ℕ, zero, suc, List, [], ◌∷◌, ◌⊎◌, inl, inr, refl, ap, sym}
use Rattle.std.specs.List.{flat_map, AllByRecursion}
use Rattle.json_values.specs.Parts.{Part}
use Rattle.schema_meaning.specs.Members.{In, first, later}
use Rattle.schema_definitions.specs.Words.{levels}
use Rattle.document_laws.proofs.Lists.{joined, below, by_levels}
use Rattle.schema_registries.proofs.Lists.{each_implied, of_each, at_one, Pairs, pairs_joined, pairs_implied}
use Rattle.schema_registries.proofs.PlacesApart.{Apart, Below, flipped, second_below, first_below, below_below, not_itself, not_same}

module _ {P : Type 0} (path : P → List Part) where
  pub record PathsPart (p q : P) : Type 0 where
    pub apart : Apart (path p) (path q)

  pub record PathsDiffer (p q : P) : Type 0 where
    pub differ : path p ≡ path q → ⊥

  pub record LiesBelow (p q : P) : Type 0 where
    pub below : Below (path p) (path q)

  abbrev pub PathsApart : List P → Type 0
  PathsApart ps = Pairs PathsPart ps

  abbrev pub PathsDistinct : List P → Type 0
  PathsDistinct ps = Pairs PathsDiffer ps

  -- two of a list whose paths part are one, or their paths part
  chosen : (ps : List P) → PathsApart ps → (p q : P) → In p ps → In q ps → (p ≡ q) ⊎ PathsPart p q
  chosen [] a p q i j = elim i [ ]
  chosen (x ∷ ps) a p q first first = inl refl
  chosen (x ∷ ps) a p q first (later j) = inr (at_one (PathsPart p) ps q j a.0)
  chosen (x ∷ ps) a p q (later i) first = inr (record { apart = flipped (path q) (path p) (at_one (PathsPart q) ps p i a.0).apart })
  chosen (x ∷ ps) a p q (later i) (later j) = chosen ps a.1 p q i j

  module _ (S : P → Type 0) where
    -- a child of which this still holds
    pub record IsChild (p q : P) : Type 0 where
      pub lies : LiesBelow p q
      pub sound : S q

    -- below one of these
    record IsUnder (ps : List P) (q : P) : Type 0 where
      over : P
      given : In over ps
      lies : LiesBelow over q
      sound : S q

    module _ (children : P → List P) (inside : (p : P) → S p → AllByRecursion (IsChild p) (children p)) (apart : (p : P) → S p → PathsApart (children p)) where
      kept : (p : P) → S p → AllByRecursion S (children p)
      kept p s = each_implied (IsChild p) S (children p) (λ q c. c.sound) (inside p s)

      over_one : (p q x : P) → S q → PathsPart p q → LiesBelow p x → AllByRecursion (PathsPart x) (children q)
      over_one p q x s a b =
          each_implied (IsChild q) (PathsPart x) (children q)
          (λ y c. record { apart = first_below (path p) (path y) (path x) (second_below (path p) (path q) (path y) a.apart c.lies.below) b.below }) (inside q s)

      over_each : (p x : P) → LiesBelow p x → (qs : List P) → AllByRecursion S qs → AllByRecursion (PathsPart p) qs → AllByRecursion (PathsPart x) (flat_map children qs)
      over_each p x b [] s h = tt
      over_each p x b (q ∷ qs) s h = joined (PathsPart x) (children q) (flat_map children qs) (over_one p q x s.0 h.0 b) (over_each p x b qs s.1 h.1)

      all_below : (ps : List P) → AllByRecursion S ps → PathsApart ps → PathsApart (flat_map children ps)
      all_below [] s a = tt
      all_below (p ∷ ps) s a =
          pairs_joined PathsPart (children p) (flat_map children ps) (apart p s.0) (all_below ps s.1 a.1)
          (each_implied (IsChild p) (λ x. AllByRecursion (PathsPart x) (flat_map children ps)) (children p) (λ x c. over_each p x c.lies ps s.1 a.0) (inside p s.0))

      first_under : (ps qs : List P) → AllByRecursion S qs → ((q : P) → In q qs → In q ps) → AllByRecursion (IsUnder ps) (flat_map children qs)
      first_under ps [] s f = tt
      first_under ps (q ∷ qs) s f =
          joined (IsUnder ps) (children q) (flat_map children qs)
          (each_implied (IsChild q) (IsUnder ps) (children q) (λ x c. record { over = q; given = f q first; lies = c.lies; sound = c.sound }) (inside q s.0))
          (first_under ps qs s.1 (λ r i. f r (later i)))

      under_still : (ps : List P) (x : P) → IsUnder ps x → AllByRecursion (IsUnder ps) (children x)
      under_still ps x u =
          each_implied (IsChild x) (IsUnder ps) (children x)
          (λ y c. record { over = u.over; given = u.given; lies = record { below = below_below (path u.over) (path x) (path y) u.lies.below c.lies.below }; sound = c.sound })
          (inside x u.sound)

      differ_from : (ps : List P) → PathsApart ps → (p : P) → In p ps → (x : P) → IsUnder ps x → PathsDiffer p x
      differ_from ps a p i x u =
          elim (chosen ps a p u.over i u.given) [
            | inl same ↦ record { differ = λ e. not_itself (path u.over) (path x) u.lies.below (ap path (sym same) ∙ e) }
            | inr part ↦ record { differ = not_same (path p) (path x) (second_below (path p) (path u.over) (path x) part.apart u.lies.below) }
          ]

      -- the paths of the elements differ
      pub levels_distinct : (n : ℕ) (ps : List P) → AllByRecursion S ps → PathsApart ps → PathsDistinct (levels children n ps)
      levels_distinct zero ps s a = tt
      levels_distinct (suc n) ps s a =
          let rest = levels children n (flat_map children ps) in
          pairs_joined PathsDiffer ps rest
          (pairs_implied PathsPart PathsDiffer ps (λ p q h. record { differ = not_same (path p) (path q) h.apart }) a)
          (levels_distinct n (flat_map children ps) (below S children kept ps s) (all_below ps s a))
          (of_each (λ p. AllByRecursion (PathsDiffer p) rest) ps
          (λ p i. each_implied (IsUnder ps) (PathsDiffer p) rest (differ_from ps a p i)
          (by_levels (IsUnder ps) children (under_still ps) n (flat_map children ps) (first_under ps ps s (λ q j. j)))))
