-- What is proved of the readings of schemas. Each statement is the contract of a function of this crate.
use Rattle.std.specs.Prelude.{◌≡◌, ◌≤◌, ◌+◌, ◌*◌, ℕ, suc, List, [], Bool, false, Some, option_map, length}
use Rattle.serde_json.specs.Data.{Data}
use Rattle.json_values.specs.Parts.{Part}
use Rattle.schema_meaning.specs.Places.{Spot, Key}
use Rattle.schema_meaning.specs.Faults.{Fault, Faults, is_none, instance_path, evaluation_path, Told}
use Rattle.schema_meaning.specs.Keywords.{Shape, rule}
use Rattle.schema_meaning.specs.Matches.{match_sites, ReadAlike}
use Rattle.schema_meaning.specs.Readings.{Reading, Telling, verdicts, bags, told, unfolded, IsTold, IsNested}
use Rattle.schema_meaning.specs.Circular.{Leads, IsCircular}
use Rattle.schema_meaning.specs.Cut.{cut_within, cut, left, AreAll}
use Rattle.schema_meaning.specs.Certificates.{Certificate}

-- the same stands at the site in both readings
pub record AreAlike {S : Type 0} (r u : Reading S) (s : S) : Type 0 where
  pub keywords : r.keywords s ≡ u.keywords s
  pub schema_path : r.schema_path s ≡ u.schema_path s
  pub place : r.place s ≡ u.place s

-- a decided answer stays with more unfoldings
abbrev pub DecidedStays : (S A : Type 0) → Type 0
DecidedStays S A = (t : Telling S A) (r : Reading S) (more n : ℕ) (s : S) (w : Spot) (x : A) → told t r n s w ≡ Some x → told t r (more + n) s w ≡ Some x

-- the bag of faults is empty exactly where the verdict is yes, and both are out together
abbrev pub FaultsTellVerdict : (S : Type 0) → Type 0
FaultsTellVerdict S = (r : Reading S) (n : ℕ) (s : S) (w : Spot) → option_map is_none (told bags r n s w) ≡ told verdicts r n s w

-- From a site that nests no deeper than the reading says: where it is not circular it is decided, by as many unfoldings as there are keys, and the cut reading gives the decided answer
abbrev pub CutIsDecided : (S A : Type 0) → Type 0
CutIsDecided S A = (t : Telling S A) (r : Reading S) (s : S) (w : Spot) (all : List Key) → (nested : IsNested r) → nested.rank s ≤ r.nesting
    → AreAll r s w all → (IsCircular r s w → ⊥) → told t r (length all) s w ≡ Some (cut t r all [] s w)

-- from such a site, deeper than `cut` goes nothing changes, on circular values too
abbrev pub CutIsEnough : (S A : Type 0) → Type 0
CutIsEnough S A = (t : Telling S A) (r : Reading S) (s : S) (w : Spot) (all : List Key) → (nested : IsNested r) → nested.rank s ≤ r.nesting
    → AreAll r s w all → (n : ℕ) → suc (left [] all) * suc r.nesting ≤ n → cut_within t r n [] s w ≡ cut t r all [] s w

-- readings that agree at each site that a chain of questions leads to are cut alike
abbrev pub CutAlike : (S A : Type 0) → Type 0
CutAlike S A = (t : Telling S A) (r u : Reading S) (n : ℕ) (keys : List Key) (s : S) (w : Spot) → r.matches ≡ u.matches
    → ((ks : List Key) (x : S) (v : Spot) → Leads r s w ks x v → AreAlike r u x) → cut_within t r n keys s w ≡ cut_within t u n keys s w

-- the cut reading's verdict and faults agree on every value
abbrev pub CutAgrees : (S : Type 0) → Type 0
CutAgrees S = (r : Reading S) (all keys : List Key) (s : S) (w : Spot) → is_none (cut bags r all keys s w) ≡ cut verdicts r all keys s w

-- unfoldings spent at every question decide the same, with the same answer
abbrev pub UnfoldedIsTold : (S A : Type 0) → Type 0
UnfoldedIsTold S A = (t : Telling S A) (r : Reading S) (n : ℕ) (s : S) (w : Spot) (x : A)
    → (told t r n s w ≡ Some x → (m : ℕ) × (unfolded t r m s w ≡ Some x))
    × ((nested : IsNested r) → nested.rank s ≤ r.nesting → unfolded t r n s w ≡ Some x → told t r n s w ≡ Some x)

-- a certificate implies refusal
abbrev pub CertificateRefuses : (S : Type 0) → Type 0
CertificateRefuses S = (r : Reading S) (s : S) (w : Spot) (i e : List Part) (b : Bool) → Certificate r s w i e → IsTold verdicts r s w b → b ≡ false

-- every fault has a certificate with its two paths
abbrev pub FaultsAreCertified : (S : Type 0) → Type 0
FaultsAreCertified S = (r : Reading S) (s : S) (w : Spot) (fs : Faults) → IsTold bags r s w fs → (f : Fault) → Told f fs
    → Certificate r s w (instance_path f) (evaluation_path f)

-- a keyword reads no match but those that it asks for
abbrev pub RulesReadTheirMatches : (S : Type 0) → Type 0
RulesReadTheirMatches S = (read other : List ℕ → List ℕ → Bool) (d : Data) (k : Shape S) → ReadAlike read other (match_sites d k) → rule read d k ≡ rule other d k
