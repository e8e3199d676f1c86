-- What a graph answers is what its reading decides.
use Rattle.std.proofs.Common.{◌≡◌, ◌+◌, ◌*◌, ℕ, zero, suc, List, [], map, length, Bool, Option, None, Some, option_map, refl, sym, ap, ◌∙◌, arith}
use Rattle.serde_json.specs.Data.{Data}
use Rattle.json_values.specs.Parts.{Part}
use Rattle.schema_meaning.specs.Members.{all_true}
use Rattle.schema_meaning.specs.Places.{Spot, whole}
use Rattle.schema_meaning.specs.Faults.{Faults, join, is_none}
use Rattle.schema_meaning.specs.Questions.{Question, asked_at}
use Rattle.schema_meaning.specs.Rules.{Rule, asks, accepts, faults}
use Rattle.schema_meaning.specs.Keywords.{Shape}
use Rattle.schema_meaning.specs.Readings.{Reading, rules, Telling, bags, verdicts, tell_one, tell, unfolded}
use Rattle.schema_meaning.specs.Cut.{cut, left}
use Rattle.meaning_laws.proofs.Known.{all_known-through, option_map-same, option_map-twice}
use Rattle.meaning_laws.proofs.Verdicts.{is_none-join, rule_agrees}
use Rattle.schema_engine.specs.declared.node.Node.{Node}
use Rattle.schema_engine.specs.Graphs.{reading_of, highest, IsSound}
use Rattle.schema_engine.proofs.Answered.{cut_enough}
use Rattle.schema_engine.proofs.Decided.{cut_where_decided}
use Rattle.graph_answers.specs.Answers.{keys_below}
use Rattle.graph_answers.proofs.Keys.{all_keys}

-- ---- there are no faults where the verdict is yes

module _ {S : Type 0} (r : Reading S) where
  one_agrees : (w : Spot) (above : List Part) (f : Question S → Option Faults) (g : Question S → Option Bool) → ((q : Question S) → option_map is_none (f q) ≡ g q)
      → (k : Rule S) → option_map is_none (tell_one bags w above f k) ≡ tell_one verdicts w above g k
  one_agrees w above f g h k =
      option_map-twice (faults k w above) is_none _ ∙ option_map-same _ _ (rule_agrees k w above) _ ∙ sym (option_map-twice (map is_none) (accepts k) _)
      ∙ ap (option_map (accepts k)) (all_known-through is_none f g h (asks k))

  tell_agrees : (w : Spot) (above : List Part) (f : Question S → Option Faults) (g : Question S → Option Bool) → ((q : Question S) → option_map is_none (f q) ≡ g q)
      → (ks : List (Rule S)) → option_map is_none (tell bags w above f ks) ≡ tell verdicts w above g ks
  tell_agrees w above f g h ks =
      option_map-twice join is_none _ ∙ option_map-same _ _ is_none-join _ ∙ sym (option_map-twice (map is_none) all_true _)
      ∙ ap (option_map all_true) (all_known-through is_none (tell_one bags w above f) (tell_one verdicts w above g) (one_agrees w above f g h) ks)

  unfolded_agrees : (n : ℕ) (s : S) (w : Spot) → option_map is_none (unfolded bags r n s w) ≡ unfolded verdicts r n s w
  unfolding unfolded
  unfolded_agrees zero s w = refl
  unfolded_agrees (suc n) s w =
      tell_agrees w (r.schema_path s) (λ q. unfolded bags r n q.site (asked_at w q)) (λ q. unfolded verdicts r n q.site (asked_at w q))
      (λ q. unfolded_agrees n q.site (asked_at w q)) (rules r s w.value)

option_itself : (o : Option Bool) → option_map (λ b. b) o ≡ o
option_itself None = refl
option_itself (Some b) = refl

-- ---- the cut reading gives what is decided

module _ {K : Type 0} (shape : K → Shape ℕ) (matches : List ℕ → List ℕ → Bool) (nodes : List (Node K)) (sound : IsSound shape nodes) (start : ℕ) (d : Data) where
  decides : {A : Type 0} (t : Telling ℕ A) (accepted : A → Bool)
      → ((n s : ℕ) (w : Spot) → option_map accepted (unfolded t (reading_of shape matches nodes) n s w) ≡ unfolded verdicts (reading_of shape matches nodes) n s w)
      → (n : ℕ) (x : A) → unfolded t (reading_of shape matches nodes) n start (whole d) ≡ Some x
      → cut t (reading_of shape matches nodes) (keys_below (length nodes) d) [] start (whole d) ≡ x
  decides {A} t accepted agrees n x e =
      let enough = suc (left [] (keys_below (length nodes) d)) * suc (highest nodes) in
      sym (cut_enough shape matches nodes A t start (whole d) (keys_below (length nodes) d) sound (all_keys shape matches nodes sound d start) (n + enough) (omega arith))
      ∙ cut_where_decided shape matches nodes t accepted agrees n (n + enough) start d x (omega arith) e

  pub verdict_decided : (n : ℕ) (b : Bool) → unfolded verdicts (reading_of shape matches nodes) n start (whole d) ≡ Some b
      → cut verdicts (reading_of shape matches nodes) (keys_below (length nodes) d) [] start (whole d) ≡ b
  verdict_decided n b e = decides verdicts (λ b. b) (λ n s w. option_itself (unfolded verdicts (reading_of shape matches nodes) n s w)) n b e

  pub faults_decided : (n : ℕ) (fs : Faults) → unfolded bags (reading_of shape matches nodes) n start (whole d) ≡ Some fs
      → cut bags (reading_of shape matches nodes) (keys_below (length nodes) d) [] start (whole d) ≡ fs
  faults_decided n fs e = decides bags is_none (unfolded_agrees (reading_of shape matches nodes)) n fs e
