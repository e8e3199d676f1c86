-- Certificates: chains of obliged steps that lead from a site at a spot to a keyword that refuses.
use Rattle.std.specs.Prelude.{◌≡◌, ◌++◌, ℕ, List, map, Bool, false, Some}
use Rattle.schema_meaning.specs.Members.{In, all_known}
use Rattle.json_values.specs.Parts.{Part}
use Rattle.schema_meaning.specs.Places.{Spot}
use Rattle.schema_meaning.specs.Questions.{Question, asked_at}
use Rattle.schema_meaning.specs.Rules.{Rule, asks, accepts, refuses_at, obliged}
use Rattle.schema_meaning.specs.Readings.{Reading, rules, verdicts, told}

-- the verdicts that answer a keyword's questions
pub record AreAnswers {S : Type 0} (r : Reading S) (w : Spot) (k : Rule S) (bs : List Bool) : Type 0 where
  pub unfoldings : ℕ
  pub are : all_known (map (λ q. told verdicts r unfoldings q.site (asked_at w q)) (asks k)) ≡ Some bs

-- The instance path and the evaluation path, last part first, of a certificate from a site at a spot.
-- It ends at a keyword that refuses the value, a schema `false` among them, which adds nothing to the road.
pub data Certificate {S : Type 0} (r : Reading S) : S → Spot → List Part → List Part → Type 0 where
  ends : {s : S} {w : Spot} (k : Rule S) (bs : List Bool) → In k (rules r s w.value) → AreAnswers r w k bs → accepts k bs ≡ false
      → Certificate r s w w.path (refuses_at k bs ++ w.road)
  leads : {s : S} {w : Spot} {i e : List Part} (k : Rule S) (bs : List Bool) (q : Question S) → In k (rules r s w.value) → AreAnswers r w k bs → In q (obliged k bs)
      → Certificate r q.site (asked_at w q) i e → Certificate r s w i e
