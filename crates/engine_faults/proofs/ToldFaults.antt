-- What the engine tells of a whole value.
use Rattle.std.proofs.Common.{◌≡◌, ◌≤◌, ◌+◌, ◌*◌, ◌∙◌, ℕ, zero, suc, List, [], Bool, Option, option_map, map, Bor, refl, sym, ap, ap₂, subst, arith}
use Rattle.serde_json.specs.View.{view}
use Rattle.serde_json.specs.declared.value.Value.{Value}
use Rattle.json_values.specs.Parts.{Part}
use Rattle.schema_meaning.specs.Members.{all_true, all_known}
use Rattle.schema_meaning.specs.Places.{Spot, whole}
use Rattle.schema_meaning.specs.Faults.{Faults, join, is_none}
use Rattle.schema_meaning.specs.Questions.{Question, asked_at}
use Rattle.schema_meaning.specs.Rules.{Rule, asks, accepts, faults}
use Rattle.schema_meaning.specs.Keywords.{Shape, rule}
use Rattle.schema_meaning.specs.Readings.{Reading, rules, bags, verdicts, tell_one, tell, unfolded}
use Rattle.schema_meaning.specs.Cut.{cut_within, left}
use Rattle.meaning_laws.proofs.Known.{all_known-through, option_map-same, option_map-twice}
use Rattle.meaning_laws.proofs.Verdicts.{is_none-join, rule_agrees}
use Rattle.schema_reports.specs.declared.observer.Observer.{Observer}
use Rattle.schema_engine.specs.declared.node.Node.{Node}
use Rattle.schema_engine.specs.declared.place.Place.TheVariants as place
use Rattle.schema_engine.specs.Graphs.{reading_of, highest, IsSound}
use Rattle.schema_engine.specs.Hearing.{HearsMore}
use Rattle.schema_engine.specs.Verdicts.{Fits}
use Rattle.engine_faults.specs.Faults.{Stand, Hearing, node_faults}
use Rattle.engine_faults.specs.Told.{TellsCut, TellsDecided}
use Rattle.schema_engine.proofs.Answered.{cut_enough}
use Rattle.schema_engine.proofs.Decided.{cut_where_decided}
use Rattle.schema_engine.proofs.HearsLemmas.{hears_same}
use Rattle.schema_engine.proofs.RuleLemmas.{map_same}

-- what is told is out of unfoldings where the verdict is, and there are no faults where it is yes
module _ (r : Reading ℕ) where
  one_agrees : (w : Spot) (above : List Part) (f : Question ℕ → Option Faults) (g : Question ℕ → Option Bool) → ((q : Question ℕ) → option_map is_none (f q) ≡ g q)
      → (k : Rule ℕ) → option_map is_none (tell_one bags w above f k) ≡ tell_one verdicts w above g k
  one_agrees w above f g h k =
      option_map-twice (faults k w above) is_none _ ∙ option_map-same _ _ (rule_agrees k w above) _ ∙ sym (option_map-twice (map is_none) (accepts k) _)
      ∙ ap (option_map (accepts k)) (all_known-through is_none f g h (asks k))

  tell_agrees : (w : Spot) (above : List Part) (f : Question ℕ → Option Faults) (g : Question ℕ → Option Bool) → ((q : Question ℕ) → option_map is_none (f q) ≡ g q)
      → (ks : List (Rule ℕ)) → option_map is_none (tell bags w above f ks) ≡ tell verdicts w above g ks
  tell_agrees w above f g h ks =
      option_map-twice join is_none _ ∙ option_map-same _ _ is_none-join _ ∙ sym (option_map-twice (map is_none) all_true _)
      ∙ ap (option_map all_true) (all_known-through is_none (tell_one bags w above f) (tell_one verdicts w above g) (one_agrees w above f g h) ks)

  unfolded_agrees : (n s : ℕ) (w : Spot) → option_map is_none (unfolded bags r n s w) ≡ unfolded verdicts r n s w
  unfolding unfolded
  unfolded_agrees zero s w = refl
  unfolded_agrees (suc n) s w =
      tell_agrees w (r.schema_path s) (λ q. unfolded bags r n q.site (asked_at w q)) (λ q. unfolded verdicts r n q.site (asked_at w q)) (λ q. unfolded_agrees n q.site (asked_at w q)) (rules r s w.value)

-- readings with the same keywords, matches and paths tell alike
told_alike : (r u : Reading ℕ) → r.matches ≡ u.matches → ((n : ℕ) → r.keywords n ≡ u.keywords n) → ((n : ℕ) → r.schema_path n ≡ u.schema_path n) → (n s : ℕ) (w : Spot)
    → unfolded bags r n s w ≡ unfolded bags u n s w
unfolding unfolded
told_alike r u matches keywords paths zero s w = refl
told_alike r u matches keywords paths (suc n) s w =
    ap₂ (λ m ks. option_map join (all_known (map (tell_one bags w (r.schema_path s) (λ q. unfolded bags r n q.site (asked_at w q))) (map (rule m w.value) ks)))) matches (keywords s)
    ∙ ap (λ p. option_map join (all_known (map (tell_one bags w p (λ q. unfolded bags r n q.site (asked_at w q))) (map (rule u.matches w.value) (u.keywords s))))) (paths s)
    ∙ ap (λ os. option_map join (all_known os))
    (map_same (tell_one bags w (u.schema_path s) (λ q. unfolded bags r n q.site (asked_at w q))) (tell_one bags w (u.schema_path s) (λ q. unfolded bags u n q.site (asked_at w q)))
    (λ k. ap (λ os. option_map (faults k w (u.schema_path s)) (all_known os))
    (map_same (λ q. unfolded bags r n q.site (asked_at w q)) (λ q. unfolded bags u n q.site (asked_at w q)) (λ q. told_alike r u matches keywords paths n q.site (asked_at w q)) (asks k)))
    (map (rule u.matches w.value) (u.keywords s)))

module _ {K : Type 0} (shape : K → Shape ℕ) (matches : List ℕ → List ℕ → Bool) (nodes : List (Node K)) (v : Bor Value) (node enough : ℕ) (s : Stand) (old new : Observer) (here : place.Value v ≡ s.place) (idle : [] ≡ s.progress) (top : [] ≡ s.path) (start : [] ≡ s.road) (told : Hearing s enough (node_faults (reading_of shape matches nodes) node) old new) where
  as_deep : (n : ℕ) → enough ≤ n → HearsMore (cut_within bags (reading_of shape matches nodes) n [] node (whole (view v.now))) old new
  as_deep n deep =
      told.hears (record { depth = n; keys = []; spot = whole (view v.now) })
      (record {
        fits = subst (λ p. Fits p s.progress (record { depth = n; keys = []; spot = whole (view v.now) })) here
            (subst (λ ms. Fits (place.Value v) ms (record { depth = n; keys = []; spot = whole (view v.now) })) idle
            (record { value = refl; called = refl; here = λ n. refl; above = λ k i. elim i [ ] }));
        path = top;
        road = start;
      })
      deep

  pub tells_cut : IsSound shape nodes → TellsCut shape matches nodes node (view v.now) old new
  tells_cut sound = record {
    hears = λ all among.
        hears_same _ _ old new
        (cut_enough shape matches nodes Faults bags node (whole (view v.now)) all sound among (enough + suc (left [] all) * suc (highest nodes)) (omega arith))
        (as_deep (enough + suc (left [] all) * suc (highest nodes)) (omega arith));
  }

  pub tells_decided : TellsDecided shape matches nodes node (view v.now) old new
  tells_decided = record {
    hears = λ r n fs same pathed e.
        hears_same _ _ old new
        (cut_where_decided shape matches nodes bags is_none (unfolded_agrees (reading_of shape matches nodes)) n (enough + n) node (view v.now) fs (omega arith)
        (told_alike (reading_of shape matches nodes) r (sym same.matches) (λ m. sym (same.keywords m)) (λ m. sym (pathed.paths m)) n node (whole (view v.now)) ∙ e))
        (as_deep (enough + n) (omega arith));
  }
