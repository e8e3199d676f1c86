-- Documents for which nothing is retrieved.
use Rattle.std.proofs.Common.{◌≡◌, ◌∙◌, ◌⊎◌, inl, inr, ℕ, List, Option, Some, None, Result, Ok, Err, IfErr, IsErrAnd, ap, sym, subst}
use Rattle.schema_definitions.specs.Bearers.{Document, Layer}
use Rattle.document_sources.specs.Given.{Given, documents_by}
use Rattle.document_sources.specs.Causes.{IsMemory}
use Rattle.document_sources.specs.declared.error.Error as reference
use Rattle.schema_registries.specs.Passed.{Asking, AnswersNothing, RefusesRegistry}
use Rattle.schema_registries.specs.declared.registry.SharedRegistry.{SharedRegistry}
use Rattle.schema_registries.specs.declared.registry.SchemaRegistry.{SchemaRegistry}
use Rattle.schema_registries.specs.Retrieval.{IsPrepared, beside}
use Rattle.schema_registries.specs.Seen.{documents_in_registry, documents_shared, retrieved_shared}
use Rattle.schema_validators.specs.Refused.{RefusesGiven}
use Rattle.schema_validators.specs.Prepared.{AreMetaSchemas, AreDocuments, layer_beside, own_layer, own_documents, documents_alone}

alone_in : (ask : Layer → Asking) (limit : ℕ) (first : Layer) (metas : Option (List Given)) (parent : Option SharedRegistry) (given : List Given) (documents : List Document) (uris : List (List ℕ))
    → ((layer : Layer) → AnswersNothing (ask layer)) → AreMetaSchemas ask limit first metas parent → IsPrepared (ask (own_layer parent first)) limit (own_documents parent first given) documents uris → documents ≡ documents_alone metas first given
alone_in ask limit first None None given documents uris nothing of_metas own = (own.alone (nothing first)).0
alone_in ask limit first None (Some p) given documents uris nothing of_metas own = absurd of_metas
alone_in ask limit first (Some metas) None given documents uris nothing of_metas own = absurd of_metas
alone_in ask limit first (Some metas) (Some p) given documents uris nothing of_metas own = (own.alone (nothing (own_layer (Some p) first))).0 ∙ ap (λ ds. beside ds (layer_beside ds first) given) (of_metas.alone (nothing first)).0

-- the documents of a registry for which nothing may be answered
pub documents_stay_alone : (ask : Layer → Asking) (limit : ℕ) (first : Layer) (metas : Option (List Given)) (given : List Given) (r : SchemaRegistry)
    → ((layer : Layer) → AnswersNothing (ask layer)) → AreDocuments ask limit first metas given r → documents_in_registry r ≡ documents_alone metas first given
documents_stay_alone ask limit first metas given r nothing are = alone_in ask limit first metas r.parent given _ _ nothing are.parent are.own

-- documents that are refused beside those of the meta-schemas
pub refused_beside : {T : Type 0} (ask : Layer → Asking) (limit : ℕ) (first : Layer) (metas given : List Given) (parent : SharedRegistry) (e : reference.Error)
    → IsPrepared (ask first) limit (documents_by first metas) (documents_shared parent) (retrieved_shared parent) → RefusesRegistry (ask (layer_beside (documents_shared parent) first)) limit (beside (documents_shared parent) (layer_beside (documents_shared parent) first) given) e
    → (x : Result T reference.Error) → IsErrAnd x (λ y. y ≡ e) → IfErr x (λ y. IsMemory y ⊎ RefusesGiven ask limit first (Some metas) given y)
refused_beside ask limit first metas given parent e prepared h (Ok y) is = tt
refused_beside ask limit first metas given parent e prepared h (Err y) is =
    subst (λ (z : reference.Error). IsMemory z ⊎ RefusesGiven ask limit first (Some metas) given z) (sym is) (elim h [
      | inl m ↦ inl m
      | inr r ↦ inr (inr (record { parent = documents_shared parent; uris = retrieved_shared parent; prepared = prepared; refused = r }))
    ])
