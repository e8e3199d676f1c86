-- Names that `required` misses: each is one fault of the value, for each application of the keyword (Validation 6.5.3).
use Rattle.std.specs.Prelude.{◌≡◌, ℕ, List, [], ◌∷◌, Bool, true, false, ◌&&◌, Some, codes}
use Rattle.serde_json.specs.Data.{Data, null, boolean, number, string, array, object, Members}
use Rattle.serde_json.specs.Find.{get, get_member}
use Rattle.json_values.specs.Parts.{Part, name}
use Rattle.schema_meaning.specs.Members.{In, is_listed}
use Rattle.schema_meaning.specs.Places.{Spot, whole}
use Rattle.schema_meaning.specs.Faults.{Fault, fault, Faults, none, also, Required}
use Rattle.schema_meaning.specs.Order.{SameFaults}
use Rattle.schema_meaning.specs.Keywords.{none_there}
use Rattle.schema_meaning.specs.Questions.{Question, asked_at}
use Rattle.schema_meaning.specs.Rules.{Note, every, conditional}
use Rattle.schema_meaning.specs.Readings.{Reading, rules, IsTold, verdicts}
use Rattle.schema_definitions.specs.Bearers.{Documents}
use Rattle.schema_definitions.specs.Plain.{plain}
use Rattle.schema_definitions.specs.Rows.{counts_here}
use Rattle.schema_definitions.specs.Sites.{Site}
use Rattle.schema_definitions.specs.Values.{unique_names, none_twice}
use Rattle.schema_registries.specs.Roots.{Root, Patterns, site_of_root}
use Rattle.reading_laws.specs.Spelled.{spelled}
use Rattle.schema_validators.specs.Answered.{WhereDecided}

-- `required` stands at a schema, counts, and lists these names, each once
pub record Requires (docs : Documents) (makes : List ℕ → Bool) (s : Site) (names : List (List ℕ)) : Type 0 where
  pub members : Members
  pub value : Data
  pub schema : s.contents ≡ object members
  pub stands : get_member (codes "required") members ≡ Some value
  pub counts : counts_here (record { documents = docs; makes = makes; site = s; members = members }) (codes "required") ≡ true
  pub lists : unique_names value ≡ Some names

-- an object without a member of that name; a value of another type lacks none
abbrev pub lacks : Data → List ℕ → Bool
lacks null k = false
lacks (boolean b) k = false
lacks (number n) k = false
lacks (string s) k = false
lacks (array ds) k = false
lacks (object ms) k = none_there (get k (object ms))

-- Where chains of questions lead of which each is asked by a keyword that tells what its questions tell, as it is told, or stands beside the
-- answer of an `if` (Core 10.2.2).
pub data IsToldAt {S : Type 0} (r : Reading S) (from : S) (at : Spot) : S → Spot → Type 0 where
  itself : IsToldAt r from at from at
  below : {s : S} {w : Spot} → IsToldAt r from at s w → (p : List Part) (notes : List Note) (qs : List (Question S)) → In (every p notes qs) (rules r s w.value)
      → (q : Question S) → In q qs → IsToldAt r from at q.site (asked_at w q)
  beside : {s : S} {w : Spot} → IsToldAt r from at s w → (q : Question S) (cs : List (Bool × Question S)) → In (conditional q cs) (rules r s w.value)
      → (b : Bool) → IsTold verdicts r q.site (asked_at w q) b → (c : Question S) → In (b, c) cs → IsToldAt r from at c.site (asked_at w c)

-- some faults are among others, in their order, each as often at most
pub data AreAmong : Faults → Faults → Type 0 where
  nothing : {fs : Faults} → AreAmong none fs
  taken : {f : Fault} {fs gs : Faults} → AreAmong fs gs → AreAmong (also f fs) (also f gs)
  passed : {f : Fault} {fs gs : Faults} → AreAmong fs gs → AreAmong fs (also f gs)

-- a fault of the value for each of these names, under the keyword
abbrev pub missing_faults : Spot → List Part → List (List ℕ) → Faults
missing_faults w above [] = none
missing_faults w above (k ∷ ks) =
    also (fault (Required k) w.value w.path (name (codes "required") ∷ above) (name (codes "required") ∷ w.road)) (missing_faults w above ks)

-- among the faults is one for each name that is listed and lacks, and none for another
pub record TellsMissing (names : List (List ℕ)) (w : Spot) (above : List Part) (fs : Faults) : Type 0 where
  pub missing : List (List ℕ)
  pub once : none_twice missing ≡ true
  pub exactly : (k : List ℕ) → is_listed k missing ≡ (is_listed k names && lacks w.value k)
  pub told : AreAmong (missing_faults w above missing) fs

-- so it is among the same faults in some order
pub record TellsMissingSomewhere (names : List (List ℕ)) (w : Spot) (above : List Part) (fs : Faults) : Type 0 where
  pub ordered : Faults
  pub same : SameFaults fs ordered
  pub tells : TellsMissing names w above ordered

-- Where the matches finish and no references come back, so it is for each application of `required` whose faults are told as they are:
-- at the root, and where chains of such questions lead from there. Schema paths are as pointers spell them.
abbrev pub TellsEachMissing : Patterns → Root → Data → Faults → Type 0
TellsEachMissing p r d fs = WhereDecided p r d (λ matches target.
    (s : Site) (w : Spot) → IsToldAt (plain r.documents p.makes matches) (site_of_root r target) (whole d) s w
    → (names : List (List ℕ)) → Requires r.documents p.makes s names → TellsMissingSomewhere names w (spelled s.schema_path) fs)
