-- Each name that one `required` misses is one fault for one application of it, wherever it is applied (Validation 6.5.3).
use Rattle.std.specs.Prelude.{◌≡◌, ℕ, List, [], ◌∷◌, Bool, true, ◌&&◌}
use Rattle.std.specs.List.{filter}
use Rattle.serde_json.specs.Data.{Data}
use Rattle.json_values.specs.Parts.{Part}
use Rattle.schema_meaning.specs.Members.{In, is_listed}
use Rattle.schema_meaning.specs.Places.{Spot}
use Rattle.schema_meaning.specs.Keywords.{asserts, required, rule}
use Rattle.schema_meaning.specs.Rules.{faults}
use Rattle.schema_definitions.specs.Bearers.{Documents}
use Rattle.schema_definitions.specs.Plain.{keywords_at}
use Rattle.schema_definitions.specs.Sites.{Site}
use Rattle.schema_definitions.specs.Values.{none_twice}
use Rattle.schema_validators.specs.Missing.{Requires, lacks, missing_faults}

-- those of some names that a value lacks, in their order
abbrev pub lacking : List (List ℕ) → Data → List (List ℕ)
lacking names d = filter (lacks d) names

-- A `required` that lists a name and others is read as one keyword. Wherever it is applied, and however matches are read, it tells one fault
-- for each name that is listed and that the value lacks, and none for another.
pub record TellsOnce (docs : Documents) (makes : List ℕ → Bool) (s : Site) (k : List ℕ) (ks : List (List ℕ)) : Type 0 where
  pub stands : In (asserts (required (k ∷ ks))) (keywords_at docs makes s)
  pub once : (w : Spot) → none_twice (lacking (k ∷ ks) w.value) ≡ true
  pub exactly : (w : Spot) (j : List ℕ) → is_listed j (lacking (k ∷ ks) w.value) ≡ (is_listed j (k ∷ ks) && lacks w.value j)
  pub tells : (matches : List ℕ → List ℕ → Bool) (w : Spot) (above : List Part)
      → faults {S = Site} (rule matches w.value (asserts (required (k ∷ ks)))) w above [] ≡ missing_faults w above (lacking (k ∷ ks) w.value)

abbrev pub EachMissingOnce : Type 0
EachMissingOnce = (docs : Documents) (makes : List ℕ → Bool) (s : Site) (k : List ℕ) (ks : List (List ℕ)) → Requires docs makes s (k ∷ ks)
    → TellsOnce docs makes s k ks
