-- What the code's documents and registries stand for.
use Rattle.std.specs.Prelude.{◌≡◌, ℕ, List, Bool, true, Some, None}
use Rattle.serde_json.specs.Data.{Data}
use Rattle.uri_references.specs.Identity.{identity_of}
use Rattle.schema_drafts.specs.declared.draft.Draft.{Draft}
use Rattle.schema_definitions.specs.Bearers.{Document, Layer}
use Rattle.document_sources.specs.Given.{Given, with_given}
use Rattle.document_sources.specs.Listed.{givens_of}
use Rattle.document_retrieval.specs.Layers.{layer_above}
use Rattle.referencing.specs.Seen.{documents_of, retrieved_by}
use Rattle.schema_registries.specs.Whole.{only_whole}
use Rattle.schema_registries.specs.Refused.{text_value}
use Rattle.schema_registries.specs.declared.documents.Documents.{Documents}
use Rattle.schema_registries.specs.declared.registry.SharedRegistry.{SharedRegistry}
use Rattle.schema_registries.specs.declared.registry.SchemaRegistry.{SchemaRegistry}

abbrev pub documents_given : Documents → List Given
documents_given documents = givens_of documents.list

-- a document as it is given by a text and a value
abbrev pub given_under : List ℕ → Data → Given
given_under text d = record { uri = identity_of text; contents = d; draft = None }

abbrev pub documents_shared : SharedRegistry → List Document
documents_shared r = documents_of r.registry.value

-- the URIs of those that were retrieved
abbrev pub retrieved_shared : SharedRegistry → List (List ℕ)
retrieved_shared r = retrieved_by r.registry.value

-- whether what stands beside `$ref` is read in Drafts 6 and 7
abbrev pub siblings_shared : SharedRegistry → Bool
siblings_shared r = r.registry.value.siblings

-- the layer of documents that are given beside those of a registry
abbrev pub layer_over : SharedRegistry → Draft → Layer
layer_over r draft = record { number = layer_above (documents_shared r); draft = draft; siblings = siblings_shared r }

abbrev pub documents_in_registry : SchemaRegistry → List Document
documents_in_registry r = documents_shared r.own

-- a JSON text that was added: its value has whole numbers alone, and is the document's contents
pub record AddsText (uri text : List ℕ) (old new : List Given) : Type 0 where
  pub value : Data
  pub is_value : text_value text ≡ Some value
  pub whole : only_whole value ≡ true
  pub added : new ≡ with_given old (given_under uri value)
