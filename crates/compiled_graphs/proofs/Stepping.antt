-- A walk goes on by roads: nothing is wrong where the roads before the next visit's go.
use Rattle.std.proofs.Common.{◌≡◌, ◌⊎◌, ◌<◌, ◌+◌, ℕ, zero, suc, List, [], ◌∷◌, ◌++◌, Bool, Some, refl, sym, subst, inl, inr, arith, length, slice_get}
use Rattle.std.specs.List.{AllZip}
use Rattle.schema_definitions.specs.Bearers.{Document}
use Rattle.schema_definitions.specs.Sites.{Site}
use Rattle.schema_meaning.specs.Members.{In}
use Rattle.marked_nodes.specs.declared.graph.Edge.{Edge}
use Rattle.reached_sites.specs.Visits.{Met, Repeats}
use Rattle.reached_sites.specs.declared.visit.Visit.{Visit}
use Rattle.reached_sites.proofs.Listing.{none-in}
use Rattle.compiled_graphs.specs.First.{IsRightBefore}
use Rattle.compiled_graphs.specs.Graphs.{IsVisited, IsLed, IsGraph, asked_from, wrong_at}
use Rattle.compiled_graphs.specs.Linked.{PutsEach, none, one, Links}
use Rattle.compiled_graphs.specs.Roads.{to_root, IsBefore, Rise, AreBefore, IsAlong, AreAlong, IsTaken, AreRoads}
use Rattle.compiled_graphs.specs.Walked.{ArePlaced}
use Rattle.compiled_graphs.proofs.Growing.{stands-for}
use Rattle.compiled_graphs.proofs.Positions.{in-place, one-there, place-of, there-is, within}
use Rattle.compiled_graphs.proofs.Roads.{before-longer, right-before}
use Rattle.compiled_graphs.proofs.Taking.{Chain, done, puts, passes, roads_after, roads-go}

as-chain : (old new leads : List Visit) → PutsEach old new leads → Chain Repeats old leads new
as-chain _ _ _ none = done
as-chain _ _ _ (one {old = old} {next = next} {new = new} {leads = leads} lead (inl e) rest) = puts lead e (as-chain next new leads rest)
as-chain _ _ _ (one {old = old} {next = next} {new = new} {leads = leads} lead (inr h) rest) =
    let x = place-of old h.1.visit h.1.listed in
    passes lead x.0 h.1.visit x.1 h.1.same (subst (λ (vs : List Visit). Chain Repeats vs leads new) h.0 (as-chain next new leads rest))

module _ (own : List Document) (makes : List ℕ → Bool) (roots : List Site) where
  module _ (placed : ArePlaced own roots) (vs us leads : List Visit) (i : ℕ) (v : Visit) (es fs : List Edge) (wrong : List ℕ) (is_right : Bool) (at : slice_get vs i ≡ Some v) (links : Links i vs us leads es fs)
      (led : (s : Site) → Met v s → IsLed own makes s leads is_right) (graph : IsGraph own makes roots vs es wrong i) (asks : (s : Site) → Met v s → AllZip Met leads (asked_from own makes s))
      (ps : List (List ℕ)) (roads : AreRoads (asked_from own makes) roots Met vs i ps) where
    pub chain : Chain Repeats vs leads us
    chain = as-chain vs us leads links.puts

    pub again : (j m : ℕ) (x w : Visit) → slice_get us j ≡ Some x → slice_get leads m ≡ Some w → (x ≡ w) ⊎ Repeats x w → (t : Site) → Met w t → Met x t
    again j m x w e f alike t met =
        let y = stands-for own makes roots placed vs us leads i v es fs wrong is_right at links led graph w (in-place leads m w f) j (x, e, alike) t met in
        subst (λ u. Met u t) (one-there (slice_get us j) y.visit x y.there e) y.met

    abbrev pub later_roads : List (List ℕ)
    later_roads = roads_after (asked_from own makes) roots Met Repeats vs us leads i v at chain asks again ps roads

    pub roads-later : AreRoads (asked_from own makes) roots Met us (i + 1) later_roads
    roads-later = roads-go (asked_from own makes) roots Met Repeats vs us leads i v at chain asks again ps roads

    -- the road of the next visit
    pub here : (p : List ℕ) × (slice_get ps i ≡ Some p)
    here = (let low = within vs i v at in let same = roads.count in there-is ps i (omega (arith, low, same)))

    pub its-along : IsAlong (asked_from own makes) roots Met v here.0
    its-along = roads.along i v here.0 at here.1

    module _ (right_all : wrong ≡ []) where
      read-right : (j : ℕ) → j < i → (w : Visit) → slice_get vs j ≡ Some w → (s : Site) → Met w s → wrong_at own makes s ≡ []
      read-right j h w e s m = (graph.read j h w e s m).right (λ k. none-in (subst (λ (l : List ℕ). In j l) right_all k))

      pub its-right : IsRightBefore own makes roots here.0
      its-right q t h goes = right-before (asked_from own makes) roots Met vs i ps roads here.0 here.1 (λ s. wrong_at own makes s ≡ []) read-right q t h goes

-- ---- a root alone

module _ (own : List Document) (makes : List ℕ → Bool) (root : Site) (vs : List Visit) (single : length vs ≡ 1) (x : IsVisited vs 0 root) where
  abbrev pub alone_roads : List (List ℕ)
  alone_roads = (0 ∷ []) ∷ []

  alone-rise : Rise alone_roads
  alone-rise zero zero p q h e f = absurd (omega (arith, h))
  alone-rise zero (suc j) p q h e f = absurd (cc (f))
  alone-rise (suc i) j p q h e f = absurd (cc (e))

  alone-before : (q : List ℕ) → slice_get alone_roads 0 ≡ Some q → AreBefore alone_roads (q ++ 0 ∷ [])
  alone-before q e zero p f = (let same : p ≡ q = cc in subst (λ (r : List ℕ). IsBefore p (r ++ 0 ∷ [])) same (before-longer p 0))
  alone-before q e (suc i) p f = absurd (cc (f))

  alone-along : AreAlong (asked_from own makes) (root ∷ []) Met vs alone_roads
  alone-along zero v p at e =
      let same : 0 ∷ [] ≡ p = cc in
      subst (λ (r : List ℕ). IsAlong (asked_from own makes) (root ∷ []) Met v r) same
      (record { site = root; met = subst (λ u. Met u root) (one-there (slice_get vs 0) x.visit v x.there at) x.met; goes = to_root 0 root refl })
  alone-along (suc i) v p at e = absurd (cc (e))

  alone-begins : (i : ℕ) (r : Site) → slice_get (root ∷ []) i ≡ Some r → IsTaken (asked_from own makes) (root ∷ []) Met vs alone_roads r (i ∷ [])
  alone-begins zero r e =
      let same : root ≡ r = cc in
      record { position = 0; visit = x.visit; there = x.there; met = subst (λ s. Met x.visit s) same x.met; road = 0 ∷ []; is = refl; early = inr refl }
  alone-begins (suc i) r e = absurd (cc (e))

  pub alone-steps : AreRoads (asked_from own makes) (root ∷ []) Met vs 0 alone_roads
  alone-steps = record {
    count = sym single;
    rise = alone-rise;
    ahead = alone-before;
    along = alone-along;
    taken = λ i h. absurd (omega (arith, h));
    begins = alone-begins;
  }
