-- What is proved of readings that differ in which patterns match. Each statement is the contract of a function of this crate.
use Rattle.std.specs.Prelude.{◌≡◌, ℕ, List, Bool}
use Rattle.serde_json.specs.Data.{Data}
use Rattle.schema_meaning.specs.Members.{In}
use Rattle.schema_meaning.specs.Places.{Spot, Key}
use Rattle.schema_meaning.specs.Keywords.{Shape}
use Rattle.schema_meaning.specs.Matches.{match_sites, ReadAlike}
use Rattle.json_values.specs.Parts.{Part}
use Rattle.schema_meaning.specs.Readings.{Reading, Telling, told}
use Rattle.schema_meaning.specs.Circular.{Leads, IsCircular}
use Rattle.schema_meaning.specs.Cut.{cut_within, cut}
use Rattle.schema_meaning.specs.Certificates.{Certificate}
use Rattle.meaning_laws.specs.Laws.{AreAlike}

-- each match that the keywords at a site ask for at a value is the same in both readings
pub record MatchAlike {S : Type 0} (r u : Reading S) (s : S) (d : Data) : Type 0 where
  pub each : (k : Shape S) → In k (r.keywords s) → ReadAlike r.matches u.matches (match_sites d k)

-- readings that agree at each site that a chain of questions leads to, and on the matches asked for there, are cut alike
abbrev pub CutByMatches : (S A : Type 0) → Type 0
CutByMatches S A = (t : Telling S A) (r u : Reading S) (n : ℕ) (keys : List Key) (s : S) (w : Spot)
    → ((ks : List Key) (x : S) (v : Spot) → Leads r s w ks x v → AreAlike r u x)
    → ((ks : List Key) (x : S) (v : Spot) → Leads r s w ks x v → MatchAlike r u x v.value) → cut_within t r n keys s w ≡ cut_within t u n keys s w

-- ---- the same reading by other matches

abbrev pub matching : {S : Type 0} → Reading S → (List ℕ → List ℕ → Bool) → Reading S
matching r matches = record { keywords = r.keywords; schema_path = r.schema_path; place = r.place; matches = matches; nesting = r.nesting }

-- each match that the keywords at a site ask for at a value is the same by these
pub record SameMatches {S : Type 0} (r : Reading S) (matches : List ℕ → List ℕ → Bool) (s : S) (d : Data) : Type 0 where
  pub each : (k : Shape S) → In k (r.keywords s) → ReadAlike r.matches matches (match_sites d k)

-- and so at each site that a chain of questions leads to
abbrev pub SameOnTheWay : {S : Type 0} → Reading S → (List ℕ → List ℕ → Bool) → S → Spot → Type 0
SameOnTheWay {S = S} r matches s w = (keys : List Key) (x : S) (v : Spot) → Leads r s w keys x v → SameMatches r matches x v.value

-- then the cut reading is the same
abbrev pub CutByOtherMatches : (S A : Type 0) → Type 0
CutByOtherMatches S A = (t : Telling S A) (r : Reading S) (matches : List ℕ → List ℕ → Bool) (s : S) (w : Spot) → SameOnTheWay r matches s w
    → (all keys : List Key) → cut t r all keys s w ≡ cut t (matching r matches) all keys s w

-- what is decided is the same
abbrev pub ToldByOtherMatches : (S A : Type 0) → Type 0
ToldByOtherMatches S A = (t : Telling S A) (r : Reading S) (matches : List ℕ → List ℕ → Bool) (s : S) (w : Spot) → SameOnTheWay r matches s w
    → (n : ℕ) → told t r n s w ≡ told t (matching r matches) n s w

-- references come back in both or in none
abbrev pub CircularByOtherMatches : (S : Type 0) → Type 0
CircularByOtherMatches S = (r : Reading S) (matches : List ℕ → List ℕ → Bool) (s : S) (w : Spot) → SameOnTheWay r matches s w
    → (IsCircular r s w → IsCircular (matching r matches) s w) × (IsCircular (matching r matches) s w → IsCircular r s w)

-- and both have the same certificates
abbrev pub CertifiedByOtherMatches : (S : Type 0) → Type 0
CertifiedByOtherMatches S = (r : Reading S) (matches : List ℕ → List ℕ → Bool) (s : S) (w : Spot) → SameOnTheWay r matches s w → (i e : List Part)
    → (Certificate r s w i e → Certificate (matching r matches) s w i e) × (Certificate (matching r matches) s w i e → Certificate r s w i e)
