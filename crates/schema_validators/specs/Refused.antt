-- Which error comes when. Each but want of memory names a cause.
use Rattle.std.specs.Prelude.{◌≡◌, ◌⊎◌, ℕ, List, [], ◌∷◌, Option, Some, None, Err, true, Box, string_bytes}
use Rattle.std.specs.declared.alloc.Global.{Global}
use Rattle.serde_json.specs.Data.{Data}
use Rattle.schema_definitions.specs.Bearers.{Document, Layer}
use Rattle.schema_definitions.specs.Lookup.{Target, LookupCause, lookup}
use Rattle.schema_definitions.specs.Rows.{Place}
use Rattle.document_sources.specs.Given.{Given, documents_by}
use Rattle.document_sources.specs.Causes.{IsMemory, NamesLookup}
use Rattle.document_sources.specs.declared.error.Error as reference
use Rattle.reached_sites.specs.Causes.{IsExceeded}
use Rattle.reached_sites.specs.Places.{place_in}
use Rattle.reached_sites.specs.declared.cause.BuildCause.{BuildCause}
use Rattle.reached_sites.specs.declared.cause.BuildCause.TheVariants as reached
use Rattle.compiled_graphs.specs.First.{IsFirstCause}
use Rattle.schema_reports.specs.Told.{fault_of, error_is_proper}
use Rattle.schema_reports.specs.declared.error.ValidationError.{ValidationError}
use Rattle.schema_registries.specs.Passed.{Asking, Stops, HasCause}
use Rattle.schema_registries.specs.declared.registry.SharedRegistry.{SharedRegistry}
use Rattle.schema_registries.specs.declared.registry.SchemaRegistry.{SchemaRegistry}
use Rattle.schema_registries.specs.Retrieval.{IsPrepared, beside}
use Rattle.schema_registries.specs.Roots.{Root, Patterns, Finds, IsSound, site_of_root}
use Rattle.schema_validators.specs.Answered.{IsFault}
use Rattle.schema_validators.specs.Asked.{IsAsked, meta_root}
use Rattle.schema_validators.specs.Prepared.{asking_by, layer_by, layer_beside, meta_schemas_given}
use Rattle.schema_validators.specs.RefusedTexts.{IsAt}
use Rattle.schema_validators.specs.declared.options.ValidationOptions.{ValidationOptions}
use Rattle.schema_validators.specs.declared.error.BuildError.{BuildError}
use Rattle.schema_validators.specs.declared.error.RefusedDocuments.{RefusedDocuments}
use Rattle.schema_validators.specs.declared.error.RefusedRoot.{RefusedRoot}
use Rattle.schema_validators.specs.declared.error.RefusedSchema.{RefusedSchema}
use Rattle.schema_validators.specs.declared.error.RefusedText.{RefusedText}
use Rattle.schema_validators.specs.declared.error.BuildError.TheVariants as error

-- ---- documents

-- they could not be retrieved, or have a cause to be refused
abbrev pub RefusesDocuments : Asking → ℕ → List Document → reference.Error → Type 0
RefusesDocuments a limit own e = Stops a limit own e ⊎ HasCause a limit own e

-- the meta-schemas were prepared, with all that they want, and the documents beside them are refused
pub record RefusesBeside (ask : Layer → Asking) (limit : ℕ) (first : Layer) (metas given : List Given) (e : reference.Error) : Type 0 where
  pub parent : List Document
  pub uris : List (List ℕ)
  pub prepared : IsPrepared (ask first) limit (documents_by first metas) parent uris
  pub refused : RefusesDocuments (ask (layer_beside parent first)) limit (beside parent (layer_beside parent first) given) e

abbrev pub RefusesGiven : (Layer → Asking) → ℕ → Layer → Option (List Given) → List Given → reference.Error → Type 0
RefusesGiven ask limit first None given e = RefusesDocuments (ask first) limit (documents_by first given) e
RefusesGiven ask limit first (Some metas) given e =
    RefusesDocuments (ask first) limit (documents_by first metas) e ⊎ RefusesBeside ask limit first metas given e

-- the documents of options are refused, with such a text for which they are, if there is one
pub record AreRefused {P R : Type 0} (may_answer : R → List ℕ → Data → Type 0) (may_refuse : R → List ℕ → Type 0) (o : ValidationOptions P R) (given : List Given) (e : RefusedDocuments) : Type 0 where
  pub refused : RefusesGiven (asking_by may_answer may_refuse o) o.limit (layer_by o) (meta_schemas_given o) given e.error
  pub at : IsAt (meta_schemas_given o) (layer_by o) given e.error e.at

abbrev pub RefusesPreparing : {P R : Type 0} → (R → List ℕ → Data → Type 0) → (R → List ℕ → Type 0) → ValidationOptions P R → List Given → BuildError → Type 0
RefusesPreparing may_answer may_refuse o given (error.Document e) = ⊥
RefusesPreparing may_answer may_refuse o given (error.Registry e) = AreRefused may_answer may_refuse o given e
RefusesPreparing may_answer may_refuse o given (error.Root e) = ⊥
RefusesPreparing may_answer may_refuse o given (error.Schema e) = ⊥
RefusesPreparing may_answer may_refuse o given (error.MetaSchema e) = ⊥
RefusesPreparing may_answer may_refuse o given error.Memory = Unit {0}

-- the error that one of a registry becomes, beside the text for which the documents are refused
abbrev pub IsOfRegistry : reference.Error → Option (Box RefusedText Global) → BuildError → Type 0
IsOfRegistry e at b = (IsMemory e × (b ≡ error.Memory)) ⊎ ((IsMemory e → ⊥) × (b ≡ error.Registry (record { error = e; at = at })))

-- ---- roots

-- the reference to it leads nowhere: its text, what it is resolved against, and why
pub record LeadsNowhere (r : Root) (e : RefusedRoot) : Type 0 where
  pub cause : LookupCause
  pub nowhere : lookup r.documents r.base r.reference ≡ Err cause
  pub named : NamesLookup cause e.error
  pub base : e.base ≡ r.base
  pub reference : string_bytes e.reference ≡ r.reference

-- a root is refused because its reference leads nowhere, for the first cause at what is reached from it, or because that is too much
abbrev pub RefusesBuild : Patterns → ℕ → Root → BuildError → Type 0
RefusesBuild p limit r (error.Document e) = ⊥
RefusesBuild p limit r (error.Registry e) = ⊥
RefusesBuild p limit r (error.Root e) = LeadsNowhere r e
RefusesBuild p limit r (error.Schema e) =
    (target : Target) × Finds r target
    × (IsExceeded r.documents p.makes (site_of_root r target) limit e ⊎ IsFirstCause r.documents p.makes (site_of_root r target ∷ []) e)
RefusesBuild p limit r (error.MetaSchema e) = ⊥
RefusesBuild p limit r error.Memory = Unit {0}

-- the reference to the root leads nowhere
abbrev pub RefusesReference : Root → BuildError → Type 0
RefusesReference r (error.Document e) = ⊥
RefusesReference r (error.Registry e) = ⊥
RefusesReference r (error.Root e) = LeadsNowhere r e
RefusesReference r (error.Schema e) = ⊥
RefusesReference r (error.MetaSchema e) = ⊥
RefusesReference r error.Memory = Unit {0}

-- the error that a refusal of several roots becomes
abbrev pub IsOfPlaces : BuildCause → BuildError → Type 0
IsOfPlaces e b = ((e ≡ reached.Memory) × (b ≡ error.Memory)) ⊎ ((e ≡ reached.Memory → ⊥) × (b ≡ error.Schema e))

-- ---- meta-schemas

-- an error has this fault of a schema
abbrev pub HasFault : ValidationError → BuildError → Type 0
HasFault fault e = (schema : RefusedSchema) × (e ≡ error.MetaSchema schema) × (schema.fault ≡ fault)

-- a meta-schema that may be read refuses the value, with this error of its own
pub record RefusesValue (p : Patterns) (r : Root) (d : Data) (e : BuildError) : Type 0 where
  pub sound : IsSound p r
  pub schema : RefusedSchema
  pub is : e ≡ error.MetaSchema schema
  pub told : IsFault p r d (fault_of schema.fault)
  pub proper : error_is_proper schema.fault ≡ true

-- one may not be read, or refuses the value
abbrev pub RefusesAt : Patterns → ℕ → Root → Data → BuildError → Type 0
RefusesAt p limit r d e = RefusesBuild p limit r e ⊎ RefusesValue p r d e

-- what is refused is named: the place of the root, and the URI of its meta-schema
abbrev pub place_of : Target → Place
place_of t = record { document = t.document; path = t.path }

abbrev pub NamesSchema : Target → List ℕ → BuildError → Type 0
NamesSchema t uri (error.MetaSchema e) = (place_in e.place ≡ place_of t) × (e.meta_schema ≡ uri)
NamesSchema t uri _ = Unit {0}

-- so does one that is asked
pub record RefusesAsked (p : Patterns) (limit : ℕ) (parent : SharedRegistry) (t : Target) (e : BuildError) : Type 0 where
  pub uri : List ℕ
  pub asked : IsAsked parent t uri
  pub why : RefusesAt p limit (meta_root parent uri) t.contents e
  pub named : NamesSchema t uri e

abbrev pub RefusesByMeta : Patterns → ℕ → SharedRegistry → Target → BuildError → Type 0
RefusesByMeta p limit parent t e = (e ≡ error.Memory) ⊎ RefusesAsked p limit parent t e

pub record RefusesMeta (p : Patterns) (limit : ℕ) (r : SchemaRegistry) (root : Root) (e : BuildError) : Type 0 where
  pub parent : SharedRegistry
  pub is_parent : r.parent ≡ Some parent
  pub target : Target
  pub found : Finds root target
  pub refused : RefusesByMeta p limit parent target e

-- a root is refused for its own sake, or by its meta-schema
abbrev pub RefusesRoot : Patterns → ℕ → SchemaRegistry → Root → BuildError → Type 0
RefusesRoot p limit r root e = RefusesBuild p limit root e ⊎ RefusesMeta p limit r root e
