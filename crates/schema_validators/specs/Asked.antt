-- Meta-schemas that are asked: the one that a root's `$schema` names, or that of its draft, where it was handed in (Core 8.1.1).
use Rattle.std.specs.Prelude.{◌≡◌, ℕ, List, true, false, codes, Option, Some, None, option_and_then}
use Rattle.serde_json.specs.Data.{Data}
use Rattle.schema_drafts.specs.declared.draft.Draft.{Draft}
use Rattle.schema_drafts.specs.declared.draft.Draft.TheVariants.{Draft4, Draft6, Draft7, Draft201909, Draft202012, Unknown}
use Rattle.schema_definitions.specs.Words.{or_else, has_text}
use Rattle.schema_definitions.specs.Bearers.{is_root, uri_in}
use Rattle.schema_definitions.specs.Lookup.{Target}
use Rattle.schema_definitions.specs.Places.{schema_in_force, meta_schema_uri}
use Rattle.schema_meaning.specs.Readings.{verdicts}
use Rattle.schema_registries.specs.declared.registry.SharedRegistry.{SharedRegistry}
use Rattle.schema_registries.specs.Seen.{documents_shared, retrieved_shared}
use Rattle.schema_registries.specs.Roots.{Root, Patterns, Finds, IsSound}
use Rattle.schema_registries.specs.Answers.{IsAnswer}
use Rattle.schema_validators.specs.Counted.{IsWithin}
use Rattle.schema_validators.specs.Seen.{root_of}

-- the URI of a draft's own meta-schema
abbrev pub schema_of_draft : Draft → Option (List ℕ)
schema_of_draft Draft4 = Some (codes "http://json-schema.org/draft-04/schema")
schema_of_draft Draft6 = Some (codes "http://json-schema.org/draft-06/schema")
schema_of_draft Draft7 = Some (codes "http://json-schema.org/draft-07/schema")
schema_of_draft Draft201909 = Some (codes "https://json-schema.org/draft/2019-09/schema")
schema_of_draft Draft202012 = Some (codes "https://json-schema.org/draft/2020-12/schema")
schema_of_draft Unknown = None

-- the text of the `$schema` that counts at a root, or else the URI by its draft
abbrev pub schema_text : Target → Option (List ℕ)
schema_text t = or_else (schema_in_force t.dialect.siblings (is_root t.path) t.contents) (schema_of_draft t.dialect.draft)

abbrev pub meta_schema_of : Target → Option (List ℕ)
meta_schema_of t = option_and_then meta_schema_uri (schema_text t)

-- a meta-schema as a root, in the registry of those handed in alone
abbrev pub meta_root : SharedRegistry → List ℕ → Root
meta_root p uri = root_of (documents_shared p) (codes "json-schema:///") uri

-- its URI leads there to a document that was not retrieved
pub record IsHandedIn (p : SharedRegistry) (uri : List ℕ) : Type 0 where
  pub target : Target
  pub found : Finds (meta_root p uri) target
  pub not_retrieved : has_text (uri_in target.document) (retrieved_shared p) ≡ false

pub record IsAsked (p : SharedRegistry) (t : Target) (uri : List ℕ) : Type 0 where
  pub named : meta_schema_of t ≡ Some uri
  pub handed_in : IsHandedIn p uri

-- a meta-schema may be read, reaches no more compile keys than the limit, and accepts a value
abbrev pub Accepts : Patterns → ℕ → Root → Data → Type 0
Accepts p limit r d = IsSound p r × IsWithin p limit r × IsAnswer verdicts p r d true

-- so does the meta-schema of a root, where it is asked, with the root's value
abbrev pub IsMetIn : Patterns → ℕ → SharedRegistry → Target → Type 0
IsMetIn p limit parent t = (uri : List ℕ) → IsAsked parent t uri → Accepts p limit (meta_root parent uri) t.contents

-- the same where meta-schemas were handed in
abbrev pub IsMet : Patterns → ℕ → Option SharedRegistry → Target → Type 0
IsMet p limit None t = Unit {0}
IsMet p limit (Some parent) t = IsMetIn p limit parent t
