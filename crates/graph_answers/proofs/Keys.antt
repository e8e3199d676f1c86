-- Each reference that a graph follows has a node for its target and a place of the value: one of the keys of both.
use Rattle.std.proofs.Common.{◌≡◌, ◌<◌, ℕ, zero, suc, List, [], ◌∷◌, Bool, map, Option, Some, None, IfSome, refl, sym, subst, arith}
use Rattle.std.specs.Prelude.{length}
use Rattle.std.specs.List.{AllByRecursion}
use Rattle.serde_json.specs.Data.{Data}
use Rattle.schema_meaning.specs.Members.{In, first, later}
use Rattle.schema_meaning.specs.Places.{Spot, Key, whole}
use Rattle.schema_meaning.specs.Questions.{Question, asked_at}
use Rattle.schema_meaning.specs.Rules.{Rule, asks}
use Rattle.schema_meaning.specs.Keywords.{Dependency, needs, applies, Form, each_from, by_index, by_name, by_pattern, of_others, of_members, of_names, of_triggered, of_dependencies, of_branches, of_value, of_condition, Shape, never, asserts, asks_every, asks_together, asks_names, asks_some, asks_one, asks_no, contains, condition, reference, rule}
use Rattle.schema_meaning.specs.Readings.{Asks}
use Rattle.schema_meaning.specs.Circular.{Leads, starts, inside, follows}
use Rattle.schema_meaning.specs.Cut.{AreAll}
use Rattle.schema_definitions.specs.AllKeys.{spots_in}
use Rattle.document_laws.proofs.Listed.{in_map, in_flat_map}
use Rattle.reading_laws.proofs.Asked.{IsApplied, HoldsIn, Holds, Sound, all_sound}
use Rattle.reading_laws.proofs.Elements.{each_in}
use Rattle.reading_laws.proofs.Steps.{Inside, Keeps, first_spot}
use Rattle.schema_engine.specs.declared.node.Node.{Node}
use Rattle.schema_engine.specs.Graphs.{place_of, keywords_at, reading_of, IsSound}
use Rattle.schema_engine.proofs.Inside as engine
use Rattle.graph_answers.specs.Answers.{numbers_below, keys_below}

below_in : (n m : ℕ) → m < n → In m (numbers_below n)
below_in zero m less = absurd (omega (arith, less))
below_in (suc n) zero less = first
below_in (suc n) (suc m) less = later (in_map (λ k. suc k) m (numbers_below n) (below_in n m (omega (arith, less))))

-- ---- where steps lead

-- nothing is asked of the sites
each_any : {A : Type 0} (xs : List A) → AllByRecursion (λ x. Unit {0}) xs
each_any [] = tt
each_any (x ∷ xs) = (tt, each_any xs)

one_applied : (x : Dependency ℕ) → IsApplied (λ n. Unit {0}) x
one_applied (needs names) = tt
one_applied (applies n) = tt

each_applied : (ps : List (List ℕ × Dependency ℕ)) → AllByRecursion (λ p. IsApplied (λ n. Unit {0}) p.1) ps
each_applied [] = tt
each_applied (p ∷ ps) = (one_applied p.1, each_applied ps)

if_any : (o : Option ℕ) → IfSome o (λ n. Unit {0})
if_any None = tt
if_any (Some n) = tt

any_in : (form : Form ℕ) → HoldsIn (λ n. Unit {0}) form
any_in (each_from start n) = tt
any_in (by_index ns) = each_any ns
any_in (by_name ps) = each_any ps
any_in (by_pattern ps) = each_any ps
any_in (of_others declared n) = tt
any_in (of_members n) = tt
any_in (of_names n) = tt
any_in (of_triggered ps) = each_any ps
any_in (of_dependencies ps) = each_applied ps
any_in (of_branches ns) = each_any ns
any_in (of_value schema n) = tt
any_in (of_condition n t e) = (tt, if_any t, if_any e)

any_holds : (k : Shape ℕ) → Holds (λ n. Unit {0}) (λ n. Unit {0}) k
any_holds never = tt
any_holds (asserts a) = tt
any_holds (asks_every keyword form) = any_in form
any_holds (asks_together keyword form) = any_in form
any_holds (asks_names keyword n) = tt
any_holds (asks_some keyword form) = any_in form
any_holds (asks_one keyword form) = any_in form
any_holds (asks_no keyword schema n) = tt
any_holds (contains n least most) = tt
any_holds (condition n t e) = (tt, if_any t, if_any e)
any_holds (reference r n) = tt

module _ {K : Type 0} (shape : K → Shape ℕ) (matches : List ℕ → List ℕ → Bool) (nodes : List (Node K)) (sound : IsSound shape nodes) (d : Data) where
  -- the keyword of a rule
  record KeywordOf (s : ℕ) (e : Data) (k : Rule ℕ) : Type 0 where
    keyword : K
    stands : In keyword (keywords_at nodes s)
    is : rule matches e (shape keyword) ≡ k

  keyword_among : (e : Data) (ks : List K) (k : Rule ℕ) → In k (map (rule matches e) (map shape ks)) → (x : K) × In x ks × (rule matches e (shape x) ≡ k)
  keyword_among e [] k i = elim i [ ]
  keyword_among e (x ∷ ks) _ first = (x, first, refl)
  keyword_among e (x ∷ ks) k (later i) = let found = keyword_among e ks k i in (found.0, later found.1, found.2)

  asked_fine : (s : ℕ) (w : Spot) (q : Question ℕ) → Asks (reading_of shape matches nodes) s w q → (q.site < length nodes) × Keeps w.value q.step
  asked_fine s w q a =
      let k = keyword_among w.value (keywords_at nodes s) a.keyword a.stands in
      let i : In q (asks (rule matches w.value (shape k.0))) = subst (λ r. In q (asks r)) (sym k.2) a.asked in (
        sound.below s k.0 q.follows q.site k.1 (engine.inside matches w.value (shape k.0) q i).leads,
        (each_in (Sound (λ n. Unit {0}) (λ n. Unit {0}) w.value) (asks (rule matches w.value (shape k.0)))
            (all_sound (λ n. Unit {0}) (λ n. Unit {0}) matches w.value (shape k.0) (any_holds (shape k.0))) q i).step,
      )

  -- the spot is a place of the value, and so is every place there
  record Within (w : Spot) : Type 0 where
    inside : Inside (spots_in w.path w.value) (spots_in [] d)
    here : In (w.path, w.called) (spots_in [] d)

  next_within : (w : Spot) (q : Question ℕ) → Within w → Keeps w.value q.step → Within (asked_at w q)
  next_within w q h k = record {
    inside = λ x i. h.inside x (k.inside w.path x i);
    here = k.here (spots_in [] d) w.path w.called h.inside h.here;
  }

  led_within : (from : ℕ) (keys : List Key) (s : ℕ) (w : Spot) → Leads (reading_of shape matches nodes) from (whole d) keys s w → Within w
  led_within from keys s w starts = record { inside = λ x i. i; here = first_spot [] d }
  led_within from keys s w (inside {s = t} {w = v} chain q a e) = next_within v q (led_within from _ t v chain) (asked_fine t v q a).1
  led_within from keys s w (follows {keys = before} {s = t} {w = v} chain q a e) = next_within v q (led_within from before t v chain) (asked_fine t v q a).1

  in_keys : (n m : ℕ) (w : Spot) → m < n → In (w.path, w.called) (spots_in [] d) → In (record { target = place_of m; path = w.path; called = w.called }) (keys_below n d)
  in_keys n m w less i =
      in_flat_map (λ k. map (λ spot. record { target = place_of k; path = spot.0; called = spot.1 }) (spots_in [] d)) m (numbers_below n)
      (record { target = place_of m; path = w.path; called = w.called }) (below_in n m less)
      (in_map (λ spot. record { target = place_of m; path = spot.0; called = spot.1 }) (w.path, w.called) (spots_in [] d) i)

  pub all_keys : (from : ℕ) → AreAll (reading_of shape matches nodes) from (whole d) (keys_below (length nodes) d)
  all_keys from = record {
    key = λ keys s w chain q a e.
        let fine = asked_fine s w q a in
        in_keys (length nodes) q.site (asked_at w q) fine.0 (next_within w q (led_within from keys s w chain) fine.1).here;
  }
