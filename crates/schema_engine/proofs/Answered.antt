-- What an answer of the engine says of a whole value.
use Rattle.std.proofs.Common.{◌≡◌, ◌≤◌, ◌+◌, ◌*◌, ℕ, zero, suc, List, [], Bool, Option, None, Some, option_map, refl, sym, ap, ap₂, ◌∙◌, subst, arith, map, ◌∷◌, Bor}
use Rattle.serde_json.specs.View.{view}
use Rattle.serde_json.specs.declared.value.Value.{Value}
use Rattle.schema_meaning.specs.Members.{In, first, later, all_true, all_known}
use Rattle.schema_meaning.specs.Places.{Key, Spot, whole}
use Rattle.schema_meaning.specs.Questions.{Question, asked_at}
use Rattle.schema_meaning.specs.Rules.{asks, accepts}
use Rattle.schema_meaning.specs.Keywords.{Shape, rule}
use Rattle.schema_meaning.specs.Readings.{Reading, Telling, verdicts, tell_one, unfolded, Asks, IsNested}
use Rattle.schema_meaning.specs.Cut.{cut_within, cut, left, AreAll}
use Rattle.meaning_laws.proofs.Enough.{cut_is_enough}
use Rattle.schema_engine.specs.declared.node.Node.{Node}
use Rattle.schema_engine.specs.declared.place.Place.TheVariants as place
use Rattle.schema_engine.specs.Graphs.{reading_of, IsReadingOf, keywords_at, rank_at, highest, IsSound}
use Rattle.schema_engine.specs.Leads.{leads_of}
use Rattle.schema_engine.specs.Verdicts.{Tells, node_in}
use Rattle.schema_engine.proofs.Inside.{inside}
use Rattle.schema_engine.proofs.Sizes.{rank_fits}
use Rattle.schema_engine.proofs.RuleLemmas.{map_same}
use Rattle.schema_engine.proofs.Decided.{cut_where_decided}

-- readings with the same keywords and matches decide alike
unfolded_alike : (r u : Reading ℕ) → r.matches ≡ u.matches → ((n : ℕ) → r.keywords n ≡ u.keywords n) → (n s : ℕ) (w : Spot) → unfolded verdicts r n s w ≡ unfolded verdicts u n s w
unfolding unfolded
unfolded_alike r u matches keywords zero s w = refl
unfolded_alike r u matches keywords (suc n) s w =
    ap₂ (λ m ks. option_map all_true (all_known (map (tell_one verdicts w [] (λ q. unfolded verdicts r n q.site (asked_at w q))) (map (rule m w.value) ks)))) matches (keywords s)
    ∙ ap (λ os. option_map all_true (all_known os))
    (map_same (tell_one verdicts w [] (λ q. unfolded verdicts r n q.site (asked_at w q))) (tell_one verdicts w [] (λ q. unfolded verdicts u n q.site (asked_at w q)))
    (λ k. ap (λ os. option_map (accepts k) (all_known os))
    (map_same (λ q. unfolded verdicts r n q.site (asked_at w q)) (λ q. unfolded verdicts u n q.site (asked_at w q)) (λ q. unfolded_alike r u matches keywords n q.site (asked_at w q)) (asks k)))
    (map (rule u.matches w.value) (u.keywords s)))

option_itself : {A : Type 0} (o : Option A) → option_map (λ a. a) o ≡ o
option_itself None = refl
option_itself (Some a) = refl

-- where an element of a mapped list comes from
from_map : {A B : Type 0} (f : A → B) (xs : List A) (b : B) → In b (map f xs) → (a : A) × In a xs × (b ≡ f a)
from_map f [] b i = elim i [ ]
from_map f (x ∷ xs) b first = (x, first, refl)
from_map f (x ∷ xs) b (later i) = let r = from_map f xs b i in (r.0, later r.1, r.2)

module _ {K : Type 0} (shape : K → Shape ℕ) (matches : List ℕ → List ℕ → Bool) (nodes : List (Node K)) where
  -- the keyword that asks
  record Asker (n : ℕ) (w : Spot) (q : Question ℕ) : Type 0 where
    keyword : K
    stands : In keyword (keywords_at nodes n)
    asked : In q (asks (rule matches w.value (shape keyword)))

  asker : (n : ℕ) (w : Spot) (q : Question ℕ) → Asks (reading_of shape matches nodes) n w q → Asker n w q
  asker n w q a =
      let s = from_map (rule matches w.value) (map shape (keywords_at nodes n)) a.keyword a.stands in
      let k = from_map shape (keywords_at nodes n) s.0 s.1 in
      record { keyword = k.0; stands = k.1; asked = subst (λ h. In q (asks h)) (s.2 ∙ ap (rule matches w.value) k.2) a.asked }

  -- schemas nest in the graph's reading
  nested : IsSound shape nodes → IsNested (reading_of shape matches nodes)
  nested sound = record {
    rank = rank_at nodes;
    shallow = λ s w q a g. rank_fits nodes q.site;
    falls = λ s w q a g. (let k = asker s w q a in
        let here = inside matches w.value (shape k.keyword) q k.asked in
        sound.falls s k.keyword q.site k.stands (subst (λ f. In q.site (leads_of f (shape k.keyword))) g here.leads));
  }

  -- deeper than `cut` goes nothing changes
  pub cut_enough : (A : Type 0) (t : Telling ℕ A) (node : ℕ) (w : Spot) (all : List Key) → IsSound shape nodes → AreAll (reading_of shape matches nodes) node w all
      → (n : ℕ) → suc (left [] all) * suc (highest nodes) ≤ n → cut_within t (reading_of shape matches nodes) n [] node w ≡ cut t (reading_of shape matches nodes) all [] node w
  unfolding nested
  cut_enough A t node w all sound among n deep = cut_is_enough ℕ A t (reading_of shape matches nodes) node w all (nested sound) (rank_fits nodes node) among n deep

  module _ (v : Bor Value) (node enough : ℕ) (b : Bool) (tells : Tells (place.Value v) [] enough (node_in (reading_of shape matches nodes) node) b) where
    as_deep : (n : ℕ) → enough ≤ n → b ≡ cut_within verdicts (reading_of shape matches nodes) n [] node (whole (view v.now))
    as_deep n deep = tells.same (record { depth = n; keys = []; spot = whole (view v.now) }) (record { value = refl; called = refl; here = λ n. refl; above = λ k i. elim i [ ] }) deep

    pub is_cut : IsSound shape nodes → (all : List Key) → AreAll (reading_of shape matches nodes) node (whole (view v.now)) all → b ≡ cut verdicts (reading_of shape matches nodes) all [] node (whole (view v.now))
    is_cut sound all among =
        as_deep (enough + suc (left [] all) * suc (highest nodes)) (omega arith)
        ∙ cut_enough Bool verdicts node (whole (view v.now)) all sound among (enough + suc (left [] all) * suc (highest nodes)) (omega arith)

    pub is_decided : (r : Reading ℕ) (n : ℕ) (answer : Bool) → IsReadingOf shape matches nodes r → unfolded verdicts r n node (whole (view v.now)) ≡ Some answer → b ≡ answer
    is_decided r n answer same e =
        as_deep (enough + n) (omega arith)
        ∙ cut_where_decided shape matches nodes verdicts (λ b. b) (λ n s w. option_itself (unfolded verdicts (reading_of shape matches nodes) n s w)) n (enough + n) node (view v.now) answer (omega arith)
        (unfolded_alike (reading_of shape matches nodes) r (sym same.matches) (λ m. sym (same.keywords m)) n node (whole (view v.now)) ∙ e)
