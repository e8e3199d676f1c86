-- Identifiers where no schema place of the document is: what is wrong at the sites that a root leads to.
use Rattle.std.specs.Prelude.{◌≡◌, ℕ, List, [], ◌∷◌, true, codes, Result, Ok}
use Rattle.std.specs.List.{flat_map}
use Rattle.json_values.specs.Parts.{Part, name}
use Rattle.schema_drafts.specs.declared.draft.Draft.{Draft}
use Rattle.schema_drafts.specs.declared.draft.Draft.TheVariants.{Draft7, Draft202012}
use Rattle.schema_definitions.specs.Words.{levels, result_map}
use Rattle.schema_definitions.specs.Bearers.{Documents}
use Rattle.schema_definitions.specs.BuildCauses.{causes_at}
use Rattle.schema_definitions.specs.DocumentCauses.{document_causes}
use Rattle.schema_definitions.specs.Lookup.{LookupCause, invalid_uri, lookup}
use Rattle.schema_definitions.specs.Rows.{BuildCause, bad_reference, rows_at}
use Rattle.schema_definitions.specs.Sites.{Site, root_site}
use Rattle.worked_examples.specs.DocumentTexts.{documents}

pub record Named : Type 0 where
  pub draft : Draft
  pub text : List ℕ
  pub causes : List BuildCause

abbrev pub uri : List ℕ
uri = codes "http://a.test/r"

abbrev pub documents_of : Named → Documents
documents_of n = documents n.draft ((uri, n.text) ∷ [])

abbrev pub leads_from : Documents → Site → List Site
leads_from docs s = flat_map (λ row. row.leads) (rows_at docs (λ p. true) s)

-- the causes of the sites that are reached in four levels
abbrev pub causes_below : Documents → Result (List BuildCause) LookupCause
causes_below docs = result_map (λ t. flat_map (causes_at docs (λ p. true)) (levels (leads_from docs) 4 (root_site t ∷ []))) (lookup docs uri [])

-- nothing is wrong with the documents, and these are the causes
pub record IsNamed (n : Named) : Type 0 where
  pub accepted : document_causes (documents_of n) ≡ []
  pub causes : causes_below (documents_of n) ≡ Ok n.causes

-- the identifier `%%` at a path, last part first
abbrev pub no_reference_at : List Part → List BuildCause
no_reference_at path = bad_reference (record { document = 0 ∷ uri; path = path }) (invalid_uri (codes "%%")) ∷ []

abbrev pub named : List Named
named =
    record {
      draft = Draft202012;
      text = codes "{\"$ref\":\"#/x\",\"x\":{\"properties\":{\"a\":{\"$id\":\"%%\"}}}}";
      causes = no_reference_at (name (codes "a") ∷ name (codes "properties") ∷ name (codes "x") ∷ []);
    }
    ∷ record { draft = Draft202012; text = codes "{\"$ref\":\"#/x\",\"x\":{\"$id\":\"%%\"}}"; causes = no_reference_at (name (codes "x") ∷ []) }
    ∷ record { draft = Draft202012; text = codes "{\"x\":{\"$id\":\"%%\"}}"; causes = [] }
    ∷ record { draft = Draft7; text = codes "{\"items\":{\"$ref\":\"#/x\"},\"x\":{\"not\":{\"$id\":\"%%\",\"$ref\":\"#/y\"}},\"y\":true}"; causes = [] }
    ∷ []
