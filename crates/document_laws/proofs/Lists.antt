-- What holds of each element of lists put together.
use Rattle.std.proofs.Common.{ℕ, zero, suc, List, [], ◌∷◌, ◌++◌, Bool, true, false, Option, Some, None}
use Rattle.std.specs.Prelude.{if◌then◌else◌, IfSome}
use Rattle.std.specs.List.{flat_map, AllByRecursion}
use Rattle.schema_definitions.specs.Words.{levels, or_else, last_that}

module _ {P : Type 0} (S : P → Type 0) where
  pub joined : (ps qs : List P) → AllByRecursion S ps → AllByRecursion S qs → AllByRecursion S (ps ++ qs)
  joined [] qs g h = h
  joined (p ∷ ps) qs g h = (g.0, joined ps qs g.1 h)

  pub unless : (b : Bool) (ps : List P) → AllByRecursion S ps → AllByRecursion S (if b then [] else ps)
  unless true ps h = tt
  unless false ps h = h

  pub only_if : (b : Bool) (ps : List P) → AllByRecursion S ps → AllByRecursion S (if b then ps else [])
  only_if true ps h = h
  only_if false ps h = tt

  module _ (children : P → List P) (kept : (p : P) → S p → AllByRecursion S (children p)) where
    pub below : (ps : List P) → AllByRecursion S ps → AllByRecursion S (flat_map children ps)
    below [] h = tt
    below (p ∷ ps) h = joined (children p) (flat_map children ps) (kept p h.0) (below ps h.1)

    pub by_levels : (n : ℕ) (ps : List P) → AllByRecursion S ps → AllByRecursion S (levels children n ps)
    by_levels zero ps h = tt
    by_levels (suc n) ps h = joined ps (levels children n (flat_map children ps)) h (by_levels n (flat_map children ps) (below ps h))

module _ {P : Type 0} (S : P → Type 0) where
  pub first_part : (ps qs : List P) → AllByRecursion S (ps ++ qs) → AllByRecursion S ps
  first_part [] qs h = tt
  first_part (p ∷ ps) qs h = (h.0, first_part ps qs h.1)

  pub second_part : (ps qs : List P) → AllByRecursion S (ps ++ qs) → AllByRecursion S qs
  second_part [] qs h = h
  second_part (p ∷ ps) qs h = second_part ps qs h.1

  -- the last that passes is one of them
  pub of_last : (test : P → Bool) (ps : List P) → AllByRecursion S ps → IfSome (last_that test ps) S
  of_last test [] h = tt
  of_last test (p ∷ ps) h = by (last_that test ps) (of_last test ps h.1) (test p)
    where
      by : (o : Option P) → IfSome o S → (b : Bool) → IfSome (or_else o (if b then Some p else None)) S
      by (Some x) g b = g
      by None g true = h.0
      by None g false = tt
