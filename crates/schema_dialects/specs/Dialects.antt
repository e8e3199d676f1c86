-- What the code's dialects stand for.
use Rattle.std.specs.Prelude.{ℕ, List, Option, Some, None, option_map}
use Rattle.std.specs.BTreeMap.{get_by_text}
use Rattle.schema_drafts.specs.Vocabularies.{Vocabularies, all_of_draft, only}
use Rattle.schema_definitions.specs.Places as places
use Rattle.schema_dialects.specs.Sets.{required}
use Rattle.schema_dialects.specs.declared.known.KnownVocabularies.{KnownVocabularies}
use Rattle.schema_dialects.specs.declared.dialect.Dialect.{Dialect}
use Rattle.schema_dialects.specs.declared.meta_schemas.MetaSchemas.{MetaSchemas}

-- all of a draft, or those that are required
abbrev pub in_force : Option KnownVocabularies → Vocabularies
in_force None = all_of_draft
in_force (Some known) = only (required known)

abbrev pub dialect_of : Dialect → places.Dialect
dialect_of d = record { draft = d.draft; vocabularies = in_force d.required; siblings = d.siblings }

-- the dialects of the meta-schemas that are known, by their URIs
unfoldable pub dialects_in : MetaSchemas → List ℕ → Option places.Dialect
dialects_in known uri = option_map dialect_of (get_by_text known.by_uri uri)
