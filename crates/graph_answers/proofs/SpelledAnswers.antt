-- The plain reading with its schema paths spelled tells the same verdict, and the same faults with their schema paths spelled.
use Rattle.std.proofs.Common.{◌≡◌, ◌≤◌, ℕ, List, ◌∷◌, Bool, Some, option_map, refl, sym, ap, ◌∙◌, subst}
use Rattle.serde_json.specs.Data.{depth}
use Rattle.json_values.specs.Parts.{Part, name}
use Rattle.schema_meaning.specs.Places.{Spot}
use Rattle.schema_meaning.specs.Faults.{Faults}
use Rattle.schema_meaning.specs.Readings.{IsNested, verdicts, bags, unfolded, IsTold}
use Rattle.schema_definitions.specs.Bearers.{Documents}
use Rattle.schema_definitions.specs.Sites.{Site}
use Rattle.schema_definitions.specs.Plain.{deepest, plain}
use Rattle.meaning_laws.proofs.Unfolded.{unfolded_is_told}
use Rattle.linked_meanings.specs.Moved.{moved}
use Rattle.linked_meanings.proofs.Moved.{moved_unfolded}
use Rattle.reading_laws.specs.Spelled.{spelled}
use Rattle.reading_laws.proofs.Nested.{plain_nests}
use Rattle.graph_answers.specs.Linking.{as_spelled}
use Rattle.graph_answers.proofs.Repathed.{nested_too, told_too}

-- a name is spelled as it is
name_first : (k : List ℕ) (path : List Part) → spelled (name k ∷ path) ≡ name k ∷ spelled path
name_first k path = refl

module _ (docs : Documents) (makes : List ℕ → Bool) (matches : List ℕ → List ℕ → Bool) where
  abbrev roads : Site → List Part
  roads s = spelled s.schema_path

  pub spelled_unfolded : (n : ℕ) (s : Site) (w : Spot) → option_map (moved spelled) (unfolded bags (plain docs makes matches) n s w) ≡ unfolded bags (as_spelled docs makes matches) n s w
  spelled_unfolded n s w = moved_unfolded spelled name_first (plain docs makes matches) n s w

  pub spelled_verdict : (s : Site) (w : Spot) (b : Bool) → IsTold verdicts (plain docs makes matches) s w b → IsTold verdicts (as_spelled docs makes matches) s w b
  spelled_verdict s w b h = record { unfoldings = h.unfoldings; is = sym (told_too (plain docs makes matches) roads h.unfoldings s w) ∙ h.is }

  shallow_too : (s : Site) → depth s.contents ≤ deepest docs → (nested : IsNested (as_spelled docs makes matches)) × (nested.rank s ≤ deepest docs)
  shallow_too s low =
      let nests = plain_nests docs makes matches in
      let other = nested_too (plain docs makes matches) roads nests.0 in
      (other.0, subst (λ n. n ≤ deepest docs) (sym (other.1 s ∙ nests.1 s)) low)

  pub spelled_faults : (s : Site) (w : Spot) (fs : Faults) → depth s.contents ≤ deepest docs → IsTold bags (plain docs makes matches) s w fs
      → IsTold bags (as_spelled docs makes matches) s w (moved spelled fs)
  spelled_faults s w fs low h =
      let step = (unfolded_is_told Site Faults bags (plain docs makes matches) h.unfoldings s w fs).0 h.is in
      let there : unfolded bags (as_spelled docs makes matches) step.0 s w ≡ Some (moved spelled fs) = sym (spelled_unfolded step.0 s w) ∙ ap (option_map (moved spelled)) step.1 in
      let nested = shallow_too s low in
      record {
        unfoldings = step.0;
        is = (unfolded_is_told Site Faults bags (as_spelled docs makes matches) step.0 s w (moved spelled fs)).1 nested.0 nested.1 there;
      }
