-- Certificates by the texts of their paths (RFC 6901).
use Rattle.std.specs.Prelude.{◌≡◌, ◌++◌, ℕ, List, [], Bool, false}
use Rattle.serde_json.specs.Data.{Data}
use Rattle.json_values.specs.Parts.{Part}
use Rattle.schema_meaning.specs.Members.{In}
use Rattle.schema_meaning.specs.Places.{whole, value_after, path_after}
use Rattle.schema_meaning.specs.Questions.{Question}
use Rattle.schema_meaning.specs.Rules.{Rule, accepts, refuses_at, obliged}
use Rattle.schema_meaning.specs.Readings.{Reading}
use Rattle.schema_meaning.specs.Certificates.{AreAnswers, Certificate}
use Rattle.schema_definitions.specs.PathTexts.{path_text}

-- some chain of obliged steps spells these texts, from a site at a whole value on
pub record AreSpelled {S : Type 0} (r : Reading S) (s : S) (d : Data) (instance evaluation : List ℕ) : Type 0 where
  pub instance_path : List Part
  pub evaluation_path : List Part
  pub chain : Certificate r s (whole d) instance_path evaluation_path
  pub instance_text : instance ≡ path_text instance_path
  pub evaluation_text : evaluation ≡ path_text evaluation_path

-- the same, by its first step: one of these rules refuses, or a question of it leads on
pub data AreSpelledBy {S : Type 0} (r : Reading S) (d : Data) (ks : List (Rule S)) (instance evaluation : List ℕ) : Type 0 where
  refuses : (k : Rule S) (bs : List Bool) → In k ks → AreAnswers r (whole d) k bs → accepts k bs ≡ false → instance ≡ [] → evaluation ≡ path_text (refuses_at k bs)
      → AreSpelledBy r d ks instance evaluation
  goes : (k : Rule S) (bs : List Bool) (q : Question S) (i e : List ℕ) → In k ks → AreAnswers r (whole d) k bs → In q (obliged k bs)
      → AreSpelled r q.site (value_after d q.step) i e → instance ≡ path_text (path_after [] q.step) ++ i → evaluation ≡ path_text q.added ++ e
      → AreSpelledBy r d ks instance evaluation
