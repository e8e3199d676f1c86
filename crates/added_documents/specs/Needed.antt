-- Documents that show what the premises are for: without either of them a document that is added changes a verdict.
use Rattle.std.specs.Prelude.{ℕ, ◌≡◌, List, [], ◌∷◌, Bool, true, false, codes, Option, Some, None, Result, Ok}
use Rattle.serde_json.specs.Data.{null}
use Rattle.serde_json.specs.Read.{read}
use Rattle.json_values.specs.Parts.{name, index}
use Rattle.schema_meaning.specs.Places.{whole}
use Rattle.schema_meaning.specs.Readings.{verdicts, told}
use Rattle.schema_drafts.specs.declared.draft.Draft.TheVariants.{Draft202012}
use Rattle.schema_definitions.specs.Words.{or, result_map}
use Rattle.schema_definitions.specs.Places.{standard}
use Rattle.schema_definitions.specs.Bearers.{Document, Documents, bearer}
use Rattle.schema_definitions.specs.Lookup.{LookupCause, unretrievable, Target, lookup}
use Rattle.schema_definitions.specs.DocumentCauses.{document_causes}
use Rattle.schema_definitions.specs.Sites.{root_site}
use Rattle.schema_definitions.specs.Rows.{BuildCause, bad_reference}
use Rattle.schema_definitions.specs.BuildCauses.{IsCauseOf}
use Rattle.schema_definitions.specs.Plain.{plain}
use Rattle.added_documents.specs.ReadingLaws.{Builds}

abbrev document : List ℕ × List ℕ → Document
document d = record { layer = 0; uri = d.0; contents = or null (read d.1); default = standard false Draft202012 }

abbrev pub root : List ℕ
root = codes "http://a.test/a"

abbrev pub value : List ℕ
value = codes "2"

-- every pattern is made
abbrev pub all_made : List ℕ → Bool
all_made p = true

-- the verdict on the value of the schema under the root's URI
abbrev pub verdict : Documents → Result (Option Bool) LookupCause
verdict docs = result_map (λ t. told verdicts (plain docs all_made (λ p s. true)) 2 (root_site t) (whole (or null (read value)))) (lookup docs root [])

-- documents without a cause to be refused, in which the root builds
pub record AreRight (docs : Documents) : Type 0 where
  pub accepted : document_causes docs ≡ []
  pub builds : (t : Target) → lookup docs root [] ≡ Ok t → Builds docs all_made root [] t

-- they are so before and after a document is added, whose URI none of the others bears, and yet the verdict is another
pub record IsChanged (old : Documents) (more : Document) : Type 0 where
  pub right : AreRight old
  pub right_still : AreRight (more ∷ old)
  pub apart : bearer old more.uri ≡ None
  pub refused : verdict old ≡ Ok (Some false)
  pub accepted : verdict (more ∷ old) ≡ Ok (Some true)

-- a schema at no schema place names a meta-schema that the added document is: it is read by another draft, which has no `const`
abbrev pub reading : Documents
reading = document (codes "http://a.test/a", codes "{\"$ref\":\"#/x\",\"x\":{\"allOf\":[{\"$id\":\"q\",\"$schema\":\"http://a.test/m\",\"const\":1}]}}") ∷ []

abbrev pub dialect : Document
dialect = document (codes "http://a.test/m", codes "{\"$schema\":\"http://json-schema.org/draft-04/schema#\"}")

-- a schema at no schema place has the base that the added document bears, so that a dynamic reference finds the anchor there
abbrev pub entering : Documents
entering =
    document (codes "http://a.test/a", codes "{\"$ref\":\"#/x\",\"x\":{\"allOf\":[{\"$id\":\"b\",\"$dynamicRef\":\"c#n\"}]}}")
    ∷ document (codes "http://a.test/c", codes "{\"$dynamicAnchor\":\"n\",\"type\":\"string\"}")
    ∷ []

abbrev pub resource : Document
resource = document (codes "http://a.test/b", codes "{\"$dynamicAnchor\":\"n\"}")

-- the two examples
pub record PremisesAreNeeded : Type 0 where
  pub by_dialect : IsChanged reading dialect
  pub by_base : IsChanged entering resource

-- ---- the other way round: a root may build only with what is added

-- a schema at no schema place refers to the added document, so it is not wanted before
abbrev pub referring : Documents
referring = document (codes "http://a.test/a", codes "{\"$ref\":\"#/x\",\"x\":{\"allOf\":[{\"$ref\":\"b\"}]}}") ∷ []

abbrev pub referred : Document
referred = document (codes "http://a.test/b", codes "true")

abbrev pub not_there : BuildCause
not_there =
    bad_reference (record { document = 0 ∷ root; path = name (codes "$ref") ∷ index 0 ∷ name (codes "allOf") ∷ name (codes "x") ∷ [] }) (unretrievable (codes "http://a.test/b"))

-- the documents have no cause to be refused, and the root has one until the document is added
pub record IsMended : Type 0 where
  pub accepted : document_causes referring ≡ []
  pub wrong : (t : Target) → lookup referring root [] ≡ Ok t → IsCauseOf referring all_made (root_site t) not_there
  pub apart : bearer referring referred.uri ≡ None
  pub right : AreRight (referred ∷ referring)
