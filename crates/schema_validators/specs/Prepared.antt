-- Documents prepared by options, with those of the meta-schemas handed in.
use Rattle.std.specs.Prelude.{◌≡◌, ℕ, List, Option, Some, None, option_map}
use Rattle.serde_json.specs.Data.{Data}
use Rattle.schema_definitions.specs.Bearers.{Document, Layer}
use Rattle.document_sources.specs.Given.{Given, documents_by}
use Rattle.document_retrieval.specs.Layers.{layer_above}
use Rattle.referencing.specs.Built.{first_layer}
use Rattle.schema_registries.specs.Passed.{Asking, asking}
use Rattle.schema_registries.specs.declared.registry.SharedRegistry.{SharedRegistry}
use Rattle.schema_registries.specs.declared.registry.SchemaRegistry.{SchemaRegistry}
use Rattle.schema_registries.specs.Retrieval.{may_answer_whole, may_refuse_whole, IsPrepared, beside}
use Rattle.schema_registries.specs.Seen.{documents_given, documents_shared, retrieved_shared, siblings_shared, documents_in_registry}
use Rattle.schema_validators.specs.declared.options.ValidationOptions.{ValidationOptions}

-- the retriever of the options is asked for values with whole numbers alone, which are documents of a layer
abbrev pub asking_by : {P R : Type 0} → (R → List ℕ → Data → Type 0) → (R → List ℕ → Type 0) → ValidationOptions P R → Layer → Asking
asking_by may_answer may_refuse o layer = asking (may_answer_whole may_answer) (may_refuse_whole may_answer may_refuse) o.retriever layer

-- the layer of documents that stand over no others
abbrev pub layer_by : {P R : Type 0} → ValidationOptions P R → Layer
layer_by o = first_layer o.draft o.siblings

-- the layer of documents that stand over others
abbrev pub layer_beside : List Document → Layer → Layer
layer_beside others first = record first { number = layer_above others }

abbrev pub meta_schemas_given : {P R : Type 0} → ValidationOptions P R → Option (List Given)
meta_schemas_given o = option_map documents_given o.meta_schemas

-- the registry of the meta-schemas is prepared first, by itself
abbrev pub AreMetaSchemas : (Layer → Asking) → ℕ → Layer → Option (List Given) → Option SharedRegistry → Type 0
AreMetaSchemas ask limit first None None = Unit {0}
AreMetaSchemas ask limit first None (Some p) = ⊥
AreMetaSchemas ask limit first (Some metas) None = ⊥
AreMetaSchemas ask limit first (Some metas) (Some p) = IsPrepared (ask first) limit (documents_by first metas) (documents_shared p) (retrieved_shared p)

-- then the documents are prepared beside them, in a layer of their own
abbrev pub own_layer : Option SharedRegistry → Layer → Layer
own_layer None first = first
own_layer (Some p) first = layer_beside (documents_shared p) first

abbrev pub own_documents : Option SharedRegistry → Layer → List Given → List Document
own_documents None first given = documents_by first given
own_documents (Some p) first given = beside (documents_shared p) (layer_beside (documents_shared p) first) given

pub record AreDocuments (ask : Layer → Asking) (limit : ℕ) (first : Layer) (metas : Option (List Given)) (given : List Given) (r : SchemaRegistry) : Type 0 where
  pub parent : AreMetaSchemas ask limit first metas r.parent
  pub own : IsPrepared (ask (own_layer r.parent first)) limit (own_documents r.parent first given) (documents_in_registry r) (retrieved_shared r.own)

pub record IsRegistry {P R : Type 0} (may_answer : R → List ℕ → Data → Type 0) (may_refuse : R → List ℕ → Type 0) (o : ValidationOptions P R) (given : List Given) (r : SchemaRegistry) : Type 0 where
  pub documents : AreDocuments (asking_by may_answer may_refuse o) o.limit (layer_by o) (meta_schemas_given o) given r
  pub draft : r.draft ≡ o.draft
  pub base : r.base ≡ o.base
  -- what stands beside `$ref` in Drafts 6 and 7 is read by the option
  pub siblings : siblings_shared r.own ≡ o.siblings

-- the documents where none is retrieved
abbrev pub documents_alone : Option (List Given) → Layer → List Given → List Document
documents_alone None first given = documents_by first given
documents_alone (Some metas) first given = beside (documents_by first metas) (layer_beside (documents_by first metas) first) given
