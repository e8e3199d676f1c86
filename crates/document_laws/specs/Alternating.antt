-- Documents whose stages do not come to rest.
use Rattle.std.specs.Prelude.{ℕ, ◌≡◌, List, [], ◌∷◌, map, false, codes, Option, Some, option_map}
use Rattle.serde_json.specs.Data.{null}
use Rattle.serde_json.specs.Read.{read}
use Rattle.schema_drafts.specs.declared.draft.Draft.{Draft}
use Rattle.schema_drafts.specs.declared.draft.Draft.TheVariants.{Draft4, Draft202012}
use Rattle.schema_definitions.specs.Words.{or}
use Rattle.schema_definitions.specs.Places.{standard}
use Rattle.schema_definitions.specs.Bearers.{Document, Documents, dialects, how_many}
use Rattle.schema_definitions.specs.DocumentCauses.{circular_metaschema, told_anew, document_causes}

abbrev pub document : List ℕ × List ℕ → Document
document d = record { layer = 0; uri = d.0; contents = or null (read d.1); default = standard false Draft202012 }

abbrev pub alternating : Documents
alternating = map document
    ((codes "http://a.test/m", codes "{\"$schema\":\"https://json-schema.org/draft/2020-12/schema\"}")
    ∷ (codes "http://a.test/b", codes "{\"$schema\":\"http://a.test/m\",\"$defs\":{\"x\":{\"$schema\":\"http://json-schema.org/draft-04/schema#\",\"id\":\"http://a.test/m\"}}}")
    ∷ [])

abbrev pub draft_after : ℕ → Option Draft
draft_after n = option_map (λ d. d.draft) (dialects alternating n (codes "http://a.test/m"))

-- the draft that is told of the first document changes with every stage, so that it is circular
pub record Alternates : Type 0 where
  pub counted : how_many alternating ≡ 3
  pub first : draft_after 1 ≡ Some Draft202012
  pub second : draft_after 2 ≡ Some Draft4
  pub third : draft_after 3 ≡ Some Draft202012
  pub fourth : draft_after 4 ≡ Some Draft4
  pub anew : told_anew alternating ≡ circular_metaschema (codes "http://a.test/m") ∷ []
  pub cause : document_causes alternating ≡ circular_metaschema (codes "http://a.test/m") ∷ []
