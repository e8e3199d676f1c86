-- What documents want, round by round.
use Rattle.std.specs.Prelude.{◌≡◌, ℕ, List, [], ◌∷◌, ◌++◌, false, codes, map}
use Rattle.serde_json.specs.Data.{null}
use Rattle.serde_json.specs.Read.{read}
use Rattle.schema_drafts.specs.declared.draft.Draft.TheVariants.{Draft202012}
use Rattle.schema_definitions.specs.Words.{or}
use Rattle.schema_definitions.specs.Places.{standard}
use Rattle.schema_definitions.specs.Bearers.{Document}
use Rattle.schema_definitions.specs.Rounds.{Want, as_reference, as_meta_schema, wants, gathered}

abbrev pub document : List ℕ × List ℕ → Document
document d = record { layer = 0; uri = d.0; contents = or null (read d.1); default = standard false Draft202012 }

-- documents at hand, the rounds of answers, and what is wanted then
pub record Row : Type 0 where
  pub added : List (List ℕ × List ℕ)
  pub rounds : List (List (List ℕ × List ℕ))
  pub wants : List Want

abbrev pub Wants : Row → Type 0
Wants w = wants (gathered (map document w.added) (map (map document) w.rounds)) ≡ w.wants

abbrev pub two_references : List (List ℕ × List ℕ)
two_references = (codes "json-schema:///", codes "{\"properties\":{\"x\":{\"$ref\":\"http://a.test/x\"},\"y\":{\"$ref\":\"http://a.test/y\"},\"z\":{\"$ref\":\"HTTP://a.test/x#/a\"}}}") ∷ []

abbrev pub custom : List (List ℕ × List ℕ)
custom = (codes "http://a.test/r", codes "{\"$schema\":\"http://a.test/m\",\"$ref\":\"http://a.test/x\"}") ∷ []

abbrev pub rows : List Row
rows =
    record { added = two_references; rounds = []; wants = as_reference (codes "http://a.test/x") ∷ as_reference (codes "http://a.test/y") ∷ [] }
    ∷ record {
      added = two_references;
      rounds = ((codes "http://a.test/x", codes "true") ∷ (codes "http://a.test/y", codes "true") ∷ []) ∷ [];
      wants = [];
    }
    ∷ record {
      added = two_references ++ (codes "http://a.test/w", codes "{\"$defs\":{\"y\":{\"$id\":\"http://a.test/y\"}}}") ∷ [];
      rounds = [];
      wants = as_reference (codes "http://a.test/x") ∷ [];
    }
    ∷ record { added = custom; rounds = []; wants = as_meta_schema (codes "http://a.test/m") ∷ [] }
    ∷ record {
      added = custom;
      rounds = ((codes "http://a.test/m", codes "{\"$schema\":\"https://json-schema.org/draft/2020-12/schema\"}") ∷ []) ∷ [];
      wants = as_reference (codes "http://a.test/x") ∷ [];
    }
    ∷ record {
      added = custom;
      rounds = ((codes "http://a.test/m", codes "{\"$schema\":\"http://a.test/n\"}") ∷ []) ∷ [];
      wants = as_meta_schema (codes "http://a.test/n") ∷ [];
    }
    ∷ []
