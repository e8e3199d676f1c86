-- A verdict depends on the value alone, and on no path and no road.
use Rattle.std.proofs.Common.{◌≡◌, ◌∙◌, ℕ, zero, suc, List, Bool, true, false, Option, None, option_map, refl, sym, ap}
use Rattle.serde_json.specs.Data.{Data}
use Rattle.json_values.specs.Parts.{Part}
use Rattle.schema_meaning.specs.Members.{all_true, all_known}
use Rattle.schema_meaning.specs.Places.{Spot, Step, value_after}
use Rattle.schema_meaning.specs.Questions.{Question, asked_at}
use Rattle.schema_meaning.specs.Rules.{Rule, asks, accepts}
use Rattle.schema_meaning.specs.Readings.{Reading, rules, verdicts, tell_one, tell, by_kind, asked, through, told, IsTold}
use Rattle.schema_meaning.specs.Certificates.{AreAnswers}
use Rattle.meaning_laws.proofs.Known.{map_in}

pub after_same : (d e : Data) (step : Step) → d ≡ e → value_after d step ≡ value_after e step
after_same d e step same = ap (λ x. value_after x step) same

-- the value after a step, in the spot that is asked
pub value_asked : {S : Type 0} (w v : Spot) (q : Question S) → w.value ≡ v.value → (asked_at w q).value ≡ (asked_at v q).value
value_asked w v q same = after_same w.value v.value q.step same

module _ {S : Type 0} (r : Reading S) where
  one_same : (w v : Spot) (a b : List Part) (f g : Question S → Option Bool) → ((q : Question S) → f q ≡ g q) → (k : Rule S) → tell_one verdicts w a f k ≡ tell_one verdicts v b g k
  one_same w v a b f g h k = ap (λ xs. option_map (accepts k) (all_known xs)) (map_in f g (asks k) (λ q i. h q))

  tell_same : (w v : Spot) (a b : List Part) (f g : Question S → Option Bool) → ((q : Question S) → f q ≡ g q) → (ks : List (Rule S)) → tell verdicts w a f ks ≡ tell verdicts v b g ks
  tell_same w v a b f g h ks = ap (λ xs. option_map all_true (all_known xs)) (map_in (tell_one verdicts w a f) (tell_one verdicts v b g) ks (λ k i. one_same w v a b f g h k))

  abbrev IsBlind : (S → Spot → Option Bool) → Type 0
  IsBlind f = (s : S) (w v : Spot) → w.value ≡ v.value → f s w ≡ f s v

  kind_same : (b : Bool) (f g : S → Spot → Option Bool) → IsBlind f → IsBlind g → (s : S) (w v : Spot) → w.value ≡ v.value → by_kind b f g s w ≡ by_kind b f g s v
  kind_same true f g h k s w v e = h s w v e
  kind_same false f g h k s w v e = k s w v e

  through_same : (f : S → Spot → Option Bool) → IsBlind f → (l : ℕ) → IsBlind (through verdicts r f l)
  unfolding through
  through_same f h zero s w v e = refl
  through_same f h (suc l) s w v e =
      tell_same w v (r.schema_path s) (r.schema_path s) (asked f (through verdicts r f l) w) (asked f (through verdicts r f l) v)
      (λ q. kind_same q.follows f (through verdicts r f l) h (through_same f h l) q.site (asked_at w q) (asked_at v q) (value_asked w v q e)) (rules r s w.value)
      ∙ ap (λ d. tell verdicts v (r.schema_path s) (asked f (through verdicts r f l) v) (rules r s d)) e

  pub told_same : (n : ℕ) → IsBlind (told verdicts r n)
  unfolding told
  told_same zero s w v e = through_same (λ s w. None) (λ s w v e. refl) (suc r.nesting) s w v e
  told_same (suc n) s w v e = through_same (told verdicts r n) (told_same n) (suc r.nesting) s w v e

  pub is_told_same : (s : S) (w v : Spot) (b : Bool) → w.value ≡ v.value → IsTold verdicts r s w b → IsTold verdicts r s v b
  is_told_same s w v b e h = record { unfoldings = h.unfoldings; is = sym (told_same h.unfoldings s w v e) ∙ h.is }

  pub answers_same : (w v : Spot) (k : Rule S) (bs : List Bool) → w.value ≡ v.value → AreAnswers r w k bs → AreAnswers r v k bs
  answers_same w v k bs e h = record {
    unfoldings = h.unfoldings;
    are =
        ap all_known (map_in (λ (q : Question S). told verdicts r h.unfoldings q.site (asked_at v q)) (λ (q : Question S). told verdicts r h.unfoldings q.site (asked_at w q)) (asks k)
        (λ q i. told_same h.unfoldings q.site (asked_at v q) (asked_at w q) (sym (value_asked w v q e)))) ∙ h.are;
  }
