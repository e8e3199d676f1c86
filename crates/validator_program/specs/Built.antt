-- The root of the validator that the program builds.
use Rattle.std.specs.Prelude.{◌≡◌, ℕ, List, [], ◌∷◌, Option, Some, None}
use Rattle.schema_definitions.specs.Bearers.{Document, Layer}
use Rattle.schema_definitions.specs.Lookup.{Target}
use Rattle.schema_definitions.specs.DocumentCauses.{document_causes}
use Rattle.document_sources.specs.Given.{Given, documents_by}
use Rattle.schema_registries.specs.declared.registry.SharedRegistry.{SharedRegistry}
use Rattle.schema_registries.specs.Seen.{documents_shared, retrieved_shared}
use Rattle.schema_registries.specs.Roots.{Finds, IsSound}
use Rattle.regex_patterns.specs.Searches.{is_regex, searched}
use Rattle.line_runs.specs.Passed.{Root, Patterns, root_of, documents_alone, IsWithin, IsMet}
use Rattle.program_inputs.specs.Held.{Held}
use Rattle.validator_program.specs.Given.{Words, Pair, AreCut, AddsFiles, base_of, draft_of, MayBeMetaSchemas}

-- the patterns of schemas are those that `regex` reads
abbrev pub patterns_of_regex : Patterns
patterns_of_regex = record { makes = is_regex; finished = searched }

-- how many compile keys are reached at most, where no other limit is set
abbrev pub default_node_limit : ℕ
default_node_limit = 65536

-- a registry holds documents and no others, which have no cause to be refused: nothing was retrieved
pub record HoldsAlone (documents : List Document) (registry : SharedRegistry) : Type 0 where
  pub holds : documents_shared registry ≡ documents
  pub retrieved : retrieved_shared registry ≡ []
  pub accepted : document_causes documents ≡ []

-- so does that of the meta-schemas, where some are given
abbrev pub AreAlone : Layer → Option (List Given) → Option SharedRegistry → Type 0
AreAlone first None None = Unit {0}
AreAlone first None (Some parent) = ⊥
AreAlone first (Some metas) None = ⊥
AreAlone first (Some metas) (Some parent) = HoldsAlone (documents_by first metas) parent

-- a root builds, with the registry of the meta-schemas that were handed in
pub record BuildsWith (parent : Option SharedRegistry) (root : Root) : Type 0 where
  -- its documents have no cause to be refused
  pub accepted : document_causes root.documents ≡ []
  -- its reference leads somewhere, and nothing is wrong at the schemas reached from there
  pub sound : IsSound patterns_of_regex root
  -- no more compile keys than the limit are reached
  pub within : IsWithin patterns_of_regex default_node_limit root
  -- where its meta-schema is among those handed in, that is read and accepts it (Core 8.1.1)
  pub met : (target : Target) → Finds root target → IsMet patterns_of_regex default_node_limit parent target

-- The schema is added under the base and each further document under its URI, and meta-schemas, where some are given, are prepared first
-- and by themselves; nothing is retrieved, and no document has a cause to be refused. The root is what the base leads to. Documents that name
-- no draft have the one that is given, and what stands beside `$ref` is read in Drafts 6 and 7 where that is asked for.
pub record IsPreparedOf (held : List ℕ → Held) (words : Words) (parent : Option SharedRegistry) (root : Root) : Type 0 where
  pub pairs : List Pair
  pub given : List Given
  pub first : Layer
  pub meta_schemas : Option (List Given)
  pub cut : AreCut words.files pairs
  pub is_first : first.number ≡ 0
  pub is_draft : draft_of words.draft ≡ Some first.draft
  pub is_option : first.siblings ≡ words.siblings
  pub added : AddsFiles held ((base_of words.base, words.schema) ∷ pairs) [] given
  pub are_meta_schemas : MayBeMetaSchemas held first words.meta meta_schemas
  pub are_alone : AreAlone first meta_schemas parent
  pub is_root : root ≡ root_of (documents_alone meta_schemas first given) (base_of words.base) []
  pub accepted : document_causes root.documents ≡ []

-- such a root that builds, beside the registry of the meta-schemas
pub record IsBuiltOf (held : List ℕ → Held) (words : Words) (root : Root) : Type 0 where
  pub parent : Option SharedRegistry
  pub prepared : IsPreparedOf held words parent root
  pub builds : BuildsWith parent root
