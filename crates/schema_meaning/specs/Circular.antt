-- Values at which a chain of references comes back to where it was.
use Rattle.std.specs.Prelude.{◌≡◌, List, [], ◌∷◌, true, false}
use Rattle.schema_meaning.specs.Members.{In}
use Rattle.schema_meaning.specs.Places.{Spot, Key}
use Rattle.schema_meaning.specs.Questions.{Question, asked_at}
use Rattle.schema_meaning.specs.Readings.{Reading, Asks}

-- the target of a reference together with the place of the value that it is asked of
abbrev pub key_at : {S : Type 0} → Reading S → Spot → Question S → Key
key_at r w q = record { target = r.place q.site; path = (asked_at w q).path; called = (asked_at w q).called }

-- Where chains of questions lead from a site at a spot, with the keys of the references on the way, the last first:
-- each reference is asked inside the target of the one before.
pub data Leads {S : Type 0} (r : Reading S) (from : S) (at : Spot) : List Key → S → Spot → Type 0 where
  starts : Leads r from at [] from at
  inside : {keys : List Key} {s : S} {w : Spot} → Leads r from at keys s w → (q : Question S) → Asks r s w q → q.follows ≡ false
      → Leads r from at keys q.site (asked_at w q)
  follows : {keys : List Key} {s : S} {w : Spot} → Leads r from at keys s w → (q : Question S) → Asks r s w q → q.follows ≡ true
      → Leads r from at (key_at r w q ∷ keys) q.site (asked_at w q)

-- some chain of references reaches one target twice at one place of the value
pub record IsCircular {S : Type 0} (r : Reading S) (from : S) (at : Spot) : Type 0 where
  pub key : Key
  pub keys : List Key
  pub site : S
  pub spot : Spot
  pub chain : Leads r from at (key ∷ keys) site spot
  pub again : In key keys
