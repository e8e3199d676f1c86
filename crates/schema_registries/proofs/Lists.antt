-- What holds of each pair of the elements of lists.
use Rattle.std.proofs.Common.{List, [], ◌∷◌, ◌++◌}
use Rattle.std.specs.List.{AllByRecursion}
use Rattle.schema_meaning.specs.Members.{In, first, later}
use Rattle.document_laws.proofs.Lists.{joined}

module _ {P : Type 0} where
  pub each_implied : (S T : P → Type 0) (ps : List P) → ((p : P) → S p → T p) → AllByRecursion S ps → AllByRecursion T ps
  each_implied S T [] f h = tt
  each_implied S T (p ∷ ps) f h = (f p h.0, each_implied S T ps f h.1)

  pub of_each : (S : P → Type 0) (ps : List P) → ((p : P) → In p ps → S p) → AllByRecursion S ps
  of_each S [] f = tt
  of_each S (p ∷ ps) f = (f p first, of_each S ps (λ q i. f q (later i)))

  pub at_one : (S : P → Type 0) (ps : List P) (p : P) → In p ps → AllByRecursion S ps → S p
  at_one S [] p i h = elim i [ ]
  at_one S (q ∷ ps) p first h = h.0
  at_one S (q ∷ ps) p (later i) h = at_one S ps p i h.1

module _ {P : Type 0} (R : P → P → Type 0) where
  -- each element and each one behind it
  abbrev pub Pairs : List P → Type 0
  Pairs [] = Unit {0}
  Pairs (p ∷ ps) = AllByRecursion (R p) ps × Pairs ps

  pub pairs_joined : (ps qs : List P) → Pairs ps → Pairs qs → AllByRecursion (λ p. AllByRecursion (R p) qs) ps → Pairs (ps ++ qs)
  pairs_joined [] qs g h across = h
  pairs_joined (p ∷ ps) qs g h across = (joined (R p) ps qs g.0 across.0, pairs_joined ps qs g.1 h across.1)

module _ {P : Type 0} (Q R : P → P → Type 0) where
  pub pairs_implied : (ps : List P) → ((p q : P) → Q p q → R p q) → Pairs Q ps → Pairs R ps
  pairs_implied [] f h = tt
  pairs_implied (p ∷ ps) f h = (each_implied (Q p) (R p) ps (f p) h.0, pairs_implied ps f h.1)
