-- Which error comes when: a defined cause with its texts, or want of memory.
use Rattle.std.specs.Prelude.{◌≡◌, ◌⊎◌, Result, Err, string_bytes}
use Rattle.uri_references.specs.declared.error.Error as references
use Rattle.uri_references.specs.declared.error.Error.TheVariants as reference
use Rattle.uri_references.specs.declared.error.UriError.TheVariants.{Parse, Resolve}
use Rattle.schema_definitions.specs.Lookup.{LookupCause, unretrievable, pointer_to_nowhere, invalid_percent_encoding, invalid_array_index, no_such_anchor, invalid_anchor, invalid_uri}
use Rattle.schema_definitions.specs.DocumentCauses.{DocumentCause, no_reference, unretrieved, unknown_specification, circular_metaschema}
use Rattle.document_sources.specs.declared.error.RetrieveError.{RetrieveError}
use Rattle.document_sources.specs.declared.error.RetrieveError.TheVariants as retrieved
use Rattle.document_sources.specs.declared.error.Error.{Error}
use Rattle.document_sources.specs.declared.error.Error.TheVariants as error

-- a retriever's refusal, with its reason or without
abbrev pub IsRefusal : RetrieveError → Type 0
IsRefusal retrieved.Refused = Unit {0}
IsRefusal (retrieved.Failed text) = Unit {0}
IsRefusal retrieved.Memory = ⊥

-- what a lookup's error names
abbrev pub NamesLookup : LookupCause → Error → Type 0
NamesLookup cause (error.Unretrievable uri source) = (source ≡ retrieved.Refused) × (cause ≡ unretrievable (string_bytes uri))
NamesLookup cause (error.PointerToNowhere pointer) = cause ≡ pointer_to_nowhere (string_bytes pointer)
NamesLookup cause (error.InvalidPercentEncoding pointer) = cause ≡ invalid_percent_encoding (string_bytes pointer)
NamesLookup cause (error.InvalidArrayIndex pointer index) = cause ≡ invalid_array_index (string_bytes index) (string_bytes pointer)
NamesLookup cause (error.NoSuchAnchor anchor) = cause ≡ no_such_anchor (string_bytes anchor)
NamesLookup cause (error.InvalidAnchor anchor) = cause ≡ invalid_anchor (string_bytes anchor)
NamesLookup cause (error.InvalidUri (Parse uri)) = cause ≡ invalid_uri (string_bytes uri)
NamesLookup cause (error.InvalidUri (Resolve uri base)) = ⊥
NamesLookup cause (error.UnknownSpecification specification) = ⊥
NamesLookup cause (error.CircularMetaschema uri) = ⊥
NamesLookup cause (error.RetrievalLimit limit) = ⊥
NamesLookup cause error.Memory = ⊥

abbrev pub IsMemory : Error → Type 0
IsMemory e = e ≡ error.Memory

-- an error of a call whose answer is defined: want of memory, or the cause that is the answer
abbrev pub RefusesLookup : {T : Type 0} → Result T LookupCause → Error → Type 0
RefusesLookup answer e = IsMemory e ⊎ ((cause : LookupCause) × (answer ≡ Err cause) × (NamesLookup cause e))

-- what an error names that documents are the cause of
abbrev pub NamesDocument : DocumentCause → Error → Type 0
NamesDocument cause (error.Unretrievable uri source) = IsRefusal source × (cause ≡ unretrieved (string_bytes uri))
NamesDocument cause (error.PointerToNowhere pointer) = ⊥
NamesDocument cause (error.InvalidPercentEncoding pointer) = ⊥
NamesDocument cause (error.InvalidArrayIndex pointer index) = ⊥
NamesDocument cause (error.NoSuchAnchor anchor) = ⊥
NamesDocument cause (error.InvalidAnchor anchor) = ⊥
NamesDocument cause (error.InvalidUri (Parse uri)) = cause ≡ no_reference (string_bytes uri)
NamesDocument cause (error.InvalidUri (Resolve uri base)) = ⊥
NamesDocument cause (error.UnknownSpecification specification) = cause ≡ unknown_specification (string_bytes specification)
NamesDocument cause (error.CircularMetaschema uri) = cause ≡ circular_metaschema (string_bytes uri)
NamesDocument cause (error.RetrievalLimit limit) = ⊥
NamesDocument cause error.Memory = ⊥

-- the error that one of the calls on references is
abbrev pub reference_error : references.Error → Error
reference_error (reference.InvalidUri refusal) = error.InvalidUri refusal
reference_error reference.Memory = error.Memory
