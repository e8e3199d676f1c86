-- Registries of documents for which nobody is asked, and roots in them.
use Rattle.std.proofs.Common.{◌≡◌, ◌∙◌, ℕ, List, [], Option, Some, None, ap, subst}
use Rattle.serde_json.specs.Data.{Data}
use Rattle.schema_definitions.specs.Bearers.{Document, Layer}
use Rattle.schema_definitions.specs.Lookup.{Target}
use Rattle.schema_definitions.specs.DocumentCauses.{document_causes}
use Rattle.document_sources.specs.Given.{Given, documents_by}
use Rattle.schema_registries.specs.declared.registry.SharedRegistry.{SharedRegistry}
use Rattle.schema_registries.specs.declared.registry.SchemaRegistry.{SchemaRegistry}
use Rattle.schema_registries.specs.Passed.{Asking, AnswersNothing}
use Rattle.schema_registries.specs.Retrieval.{IsPrepared}
use Rattle.schema_registries.specs.Roots.{Finds, IsSound, root_on}
use Rattle.schema_registries.specs.Seen.{documents_shared, retrieved_shared, documents_in_registry}
use Rattle.line_runs.specs.Passed.{Root, root_of, asking_by, meta_schemas_given, documents_alone, ValidationOptions}
use Rattle.line_runs.specs.Passed.{layer_by, AreMetaSchemas, AreDocuments, IsRegistry, IsWithin, IsMet}
use Rattle.line_runs.proofs.Passed.{documents_stay_alone}
use Rattle.validator_program.specs.Built.{patterns_of_regex, default_node_limit, HoldsAlone, AreAlone, BuildsWith}

-- a registry of the documents that were given alone, beside that of the meta-schemas
pub record StaysAlone (first : Layer) (metas : Option (List Given)) (given : List Given) (registry : SchemaRegistry) : Type 0 where
  pub parent : AreAlone first metas registry.parent
  pub own : documents_in_registry registry ≡ documents_alone metas first given
  pub accepted : document_causes (documents_in_registry registry) ≡ []

holds_alone : (a : Asking) (limit : ℕ) (own : List Document) (registry : SharedRegistry) → AnswersNothing a
    → IsPrepared a limit own (documents_shared registry) (retrieved_shared registry) → HoldsAlone own registry
holds_alone a limit own registry nothing prepared = record {
  holds = (prepared.alone nothing).0;
  retrieved = (prepared.alone nothing).1;
  accepted = subst (λ (ds : List Document). document_causes ds ≡ []) (prepared.alone nothing).0 prepared.accepted;
}

are_alone : (ask : Layer → Asking) (limit : ℕ) (first : Layer) (metas : Option (List Given)) (parent : Option SharedRegistry) → AnswersNothing (ask first)
    → AreMetaSchemas ask limit first metas parent → AreAlone first metas parent
are_alone ask limit first None None nothing are = tt
are_alone ask limit first None (Some parent) nothing are = absurd are
are_alone ask limit first (Some metas) None nothing are = absurd are
are_alone ask limit first (Some metas) (Some parent) nothing are = holds_alone (ask first) limit (documents_by first metas) parent nothing are

-- what options whose retriever answers nothing prepare
pub stays_alone : {P R : Type 0} (may_answer : R → List ℕ → Data → Type 0) (may_refuse : R → List ℕ → Type 0) (o : ValidationOptions P R) (given : List Given) (registry : SchemaRegistry)
    → ((r : R) (uri : List ℕ) (d : Data) → may_answer r uri d → ⊥) → IsRegistry may_answer may_refuse o given registry
    → (metas : Option (List Given)) (first : Layer) → meta_schemas_given o ≡ metas → layer_by o ≡ first → StaysAlone first metas given registry
stays_alone may_answer may_refuse o given registry never is metas first are_metas is_first =
    let ask = asking_by may_answer may_refuse o in
    let nothing : (l : Layer) → AnswersNothing (ask l) = λ l uri d answered. never o.retriever.retriever uri d answered.0 in
    let are : AreDocuments ask o.limit first metas given registry = subst (λ (l : Layer). AreDocuments ask o.limit l metas given registry) is_first
    (subst (λ (ms : Option (List Given)). AreDocuments ask o.limit (layer_by o) ms given registry) are_metas is.documents) in
    record {
      parent = are_alone ask o.limit first metas registry.parent (nothing first) are.parent;
      own = documents_stay_alone ask o.limit first metas given registry nothing are;
      accepted = are.own.accepted;
    }

-- a root there, by the documents that were given
pub root_alone : (first : Layer) (metas : Option (List Given)) (given : List Given) (registry : SchemaRegistry) → StaysAlone first metas given registry
    → (root : Root) (reference : List ℕ) → root ≡ root_on registry reference → (base : List ℕ) → registry.base ≡ base → root ≡ root_of (documents_alone metas first given) base reference
root_alone first metas given registry alone root reference is_root base is_base =
    is_root ∙ ap (λ ds. root_of ds registry.base reference) alone.own ∙ ap (λ u. root_of (documents_alone metas first given) u reference) is_base

-- one that was built under a limit
pub builds_with : (parent : Option SharedRegistry) (root : Root) → document_causes root.documents ≡ [] → (limit : ℕ) → limit ≡ default_node_limit
    → IsSound patterns_of_regex root → IsWithin patterns_of_regex limit root
    → ((target : Target) → Finds root target → IsMet patterns_of_regex limit parent target) → BuildsWith parent root
builds_with parent root accepted limit is_limit sound within met = record {
  accepted = accepted;
  sound = sound;
  within = subst (λ (n : ℕ). IsWithin patterns_of_regex n root) is_limit within;
  met = λ target found. subst (λ (n : ℕ). IsMet patterns_of_regex n parent target) is_limit (met target found);
}
