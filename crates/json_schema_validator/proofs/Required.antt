-- One application of `required` tells each name that it misses once.
use Rattle.std.proofs.Common.{◌≡◌, ◌∙◌, ℕ, List, [], ◌∷◌, map, false, cond, codes, refl, sym, ap}
use Rattle.serde_json.specs.Data.{Data, null, boolean, number, string, array, object}
use Rattle.json_values.specs.Parts.{Part, name}
use Rattle.schema_meaning.specs.Members.{first}
use Rattle.schema_meaning.specs.Places.{Spot}
use Rattle.schema_meaning.specs.Faults.{fault, also, Required}
use Rattle.schema_meaning.specs.Keywords.{asserts, required, missing}
use Rattle.schema_meaning.specs.Questions.{at}
use Rattle.schema_meaning.specs.Rules.{Note, own_faults}
use Rattle.schema_reports.proofs.FaultLemmas.{joined-none}
use Rattle.schema_validators.specs.Missing.{lacks, missing_faults}
use Rattle.schema_validators.proofs.MissingLemmas.{listed-filter, once-filter, required_once, required_stands}
use Rattle.json_schema_validator.specs.Required.{lacking, EachMissingOnce}

none_lacked : (d : Data) → ((k : List ℕ) → lacks d k ≡ false) → (names : List (List ℕ)) → lacking names d ≡ []
none_lacked d h [] = refl
none_lacked d h (k ∷ names) = ap (λ b. cond b (k ∷ lacking names d) (lacking names d)) (h k) ∙ none_lacked d h names

-- what is noted of a value for a name
abbrev note_of : Data → List ℕ → Note
note_of d k = record { kind = Required k; value = d }

module _ (w : Spot) (above : List Part) where
  own_named : (ks : List (List ℕ)) → own_faults w above (at (codes "required")) (map (note_of w.value) ks) ≡ missing_faults w above ks
  own_named [] = refl
  own_named (k ∷ ks) = ap (also (fault (Required k) w.value w.path (name (codes "required") ∷ above) (name (codes "required") ∷ w.road))) (own_named ks)

noted : (d : Data) → ((k : List ℕ) → lacks d k ≡ false) → (names : List (List ℕ)) → [] ≡ map (note_of d) (lacking names d)
noted d h names = sym (ap (map (note_of d)) (none_lacked d h names))

-- what is noted are the names that it lacks
missing_lacked : (names : List (List ℕ)) (d : Data) → missing names d ≡ map (note_of d) (lacking names d)
missing_lacked names null = noted null (λ k. refl) names
missing_lacked names (boolean b) = noted (boolean b) (λ k. refl) names
missing_lacked names (number n) = noted (number n) (λ k. refl) names
missing_lacked names (string s) = noted (string s) (λ k. refl) names
missing_lacked names (array ds) = noted (array ds) (λ k. refl) names
missing_lacked names (object ms) = refl

told_once : (w : Spot) (above : List Part) (names : List (List ℕ)) → own_faults w above (at (codes "required")) (missing names w.value) ≡ missing_faults w above (lacking names w.value)
told_once w above names = ap (own_faults w above (at (codes "required"))) (missing_lacked names w.value) ∙ own_named w above (lacking names w.value)

pub each_missing_once : EachMissingOnce
each_missing_once docs makes s k ks h = record {
  stands = required_stands docs makes s (k ∷ ks) h (asserts (required (k ∷ ks))) first;
  once = λ w. once-filter (lacks w.value) (k ∷ ks) (required_once docs makes s (k ∷ ks) h);
  exactly = λ w j. listed-filter (lacks w.value) j (k ∷ ks);
  tells = λ matches w above. joined-none (own_faults w above (at (codes "required")) (missing (k ∷ ks) w.value)) ∙ told_once w above (k ∷ ks);
}
