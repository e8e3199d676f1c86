-- Why there is no validator, in words.
use Rattle.std.specs.Prelude.{◌≡◌, ℕ, List, [], ◌∷◌, reverse, decimal, codes, string_bytes, Option, Some, None, Box, box_value}
use Rattle.std.specs.declared.alloc.Global.{Global}
use Rattle.std.specs.List.{concat}
use Rattle.serde_json.specs.Data.{string}
use Rattle.serde_json.specs.Written.{compact_text}
use Rattle.json_values.specs.Pointers.{pointer_text}
use Rattle.schema_meaning.specs.Faults.{instance_path, evaluation_path}
use Rattle.document_sources.specs.declared.error.RetrieveError.{RetrieveError}
use Rattle.document_sources.specs.declared.error.RetrieveError.TheVariants as retrieved
use Rattle.document_sources.specs.declared.error.Error.{Error}
use Rattle.document_sources.specs.declared.error.Error.TheVariants as lookup
use Rattle.schema_registries.specs.Described.{refused_text, description_of as said_of_document}
use Rattle.schema_reports.specs.Phrases.{AreSpelled}
use Rattle.schema_reports.specs.Sentences.{description_of}
use Rattle.schema_reports.specs.Told.{fault_of}
use Rattle.reached_sites.specs.Places.{place_in, shown}
use Rattle.reached_sites.specs.declared.place.SchemaPlace.{SchemaPlace}
use Rattle.reached_sites.specs.declared.cause.BuildCause.{BuildCause}
use Rattle.reached_sites.specs.declared.cause.BuildCause.TheVariants as cause
use Rattle.schema_validators.specs.declared.error.BuildError.{BuildError}
use Rattle.schema_validators.specs.declared.error.BuildError.TheVariants as build
use Rattle.schema_validators.specs.declared.error.RefusedDocuments.{RefusedDocuments}
use Rattle.schema_validators.specs.declared.error.RefusedRoot.{RefusedRoot}
use Rattle.schema_validators.specs.declared.error.RefusedSchema.{RefusedSchema}
use Rattle.schema_validators.specs.declared.error.RefusedText.{RefusedText}

-- a text from a schema, as a JSON string
abbrev pub quoted : List ℕ → List ℕ
quoted text = compact_text (string text)

abbrev pub said_of_retrieval : List ℕ → RetrieveError → List ℕ
said_of_retrieval uri (retrieved.Failed text) =
    concat (codes "the document '" ∷ uri ∷ codes "' is not present, and retrieving it failed: " ∷ string_bytes text ∷ [])
said_of_retrieval uri retrieved.Refused = concat (codes "the document '" ∷ uri ∷ codes "' is not present" ∷ [])
said_of_retrieval uri retrieved.Memory = concat (codes "the document '" ∷ uri ∷ codes "' is not present" ∷ [])

-- what was looked up
abbrev pub words_of : Error → List ℕ
words_of (lookup.Unretrievable uri source) = said_of_retrieval (string_bytes uri) source
words_of (lookup.PointerToNowhere pointer) = concat (codes "nothing stands at the pointer '" ∷ string_bytes pointer ∷ codes "'" ∷ [])
words_of (lookup.InvalidPercentEncoding pointer) = concat (codes "the pointer '" ∷ string_bytes pointer ∷ codes "' is no text decoded" ∷ [])
words_of (lookup.InvalidArrayIndex pointer index) = concat (codes "'" ∷ string_bytes index ∷ codes "' is no index of an array" ∷ [])
words_of (lookup.NoSuchAnchor anchor) = concat (codes "no schema there has the anchor '" ∷ string_bytes anchor ∷ codes "'" ∷ [])
words_of (lookup.InvalidAnchor anchor) = concat (codes "'" ∷ string_bytes anchor ∷ codes "' is no anchor" ∷ [])
words_of (lookup.InvalidUri e) = concat (codes "'" ∷ refused_text e ∷ codes "' is no URI reference taken here" ∷ [])
words_of (lookup.UnknownSpecification specification) = concat (codes "the meta-schema '" ∷ string_bytes specification ∷ codes "' is not known" ∷ [])
words_of (lookup.CircularMetaschema uri) = concat (codes "the meta-schema '" ∷ string_bytes uri ∷ codes "' waits for itself" ∷ [])
words_of (lookup.RetrievalLimit limit) = concat (codes "more than " ∷ decimal limit ∷ codes " documents are wanted" ∷ [])
words_of lookup.Memory = codes "no memory"

-- the place below the sentence
abbrev pub line_at : SchemaPlace → List ℕ
line_at place = concat (codes "\n  at '" ∷ shown (place_in place) ∷ codes "'" ∷ [])

abbrev pub said_of_value : SchemaPlace → List ℕ → List ℕ → List ℕ
said_of_value place expected found = concat (codes "Expected " ∷ expected ∷ codes ", found " ∷ found ∷ line_at place ∷ [])

abbrev pub said_of_reference : SchemaPlace → List ℕ → Error → List ℕ
said_of_reference place reference error =
    concat (codes "The reference " ∷ quoted reference ∷ codes " is refused: " ∷ words_of error ∷ line_at place ∷ [])

-- what is wrong at the schemas
abbrev pub said_of_cause : BuildCause → List ℕ
said_of_cause (cause.KeywordValue place expected found) = said_of_value place expected.now (string_bytes found)
said_of_cause (cause.BadPattern place pattern) = concat (codes "The pattern " ∷ quoted (string_bytes pattern) ∷ codes " is refused" ∷ line_at place ∷ [])
said_of_cause (cause.Unevaluated place) = concat (codes "The keyword is left out by this library" ∷ line_at place ∷ [])
said_of_cause (cause.Reference place reference error) = said_of_reference place (string_bytes reference) error
said_of_cause (cause.NodeLimit limit) = concat (codes "More than " ∷ decimal limit ∷ codes " schemas are reached" ∷ [])
said_of_cause cause.Memory = codes "No memory"

-- documents that are refused, and below it the text for which they are
abbrev pub line_by : RefusedText → List ℕ
line_by t = concat (codes "\n  by the reference " ∷ quoted (string_bytes t.reference) ∷ codes " at '" ∷ shown (place_in t.place) ∷ codes "'" ∷ [])

abbrev pub line_of : Option (Box RefusedText Global) → List ℕ
line_of (Some t) = line_by (box_value t)
line_of None = []

abbrev pub said_of_documents : RefusedDocuments → List ℕ
said_of_documents e = concat (codes "The documents are refused: " ∷ words_of e.error ∷ line_of e.at ∷ [])

-- a reference to a root, and the base that it leads nowhere from
abbrev pub said_of_root : RefusedRoot → List ℕ
said_of_root e =
    concat
    (codes "The reference " ∷ quoted (string_bytes e.reference) ∷ codes " to the root leads nowhere from '" ∷ e.base
    ∷ codes "': " ∷ words_of e.error ∷ [])

-- the meta-schema, the place in the schema's document, the road in the meta-schema, and the sentence of a fault of the schema
abbrev pub said_of_schema : RefusedSchema → List ℕ → List ℕ
said_of_schema e sentence =
    concat
    (codes "The meta-schema '" ∷ e.meta_schema ∷ codes "' refuses the schema at '" ∷ shown (place_in e.place)
    ∷ pointer_text (reverse (instance_path (fault_of e.fault))) ∷ codes "', by '"
    ∷ pointer_text (reverse (evaluation_path (fault_of e.fault))) ∷ codes "': " ∷ sentence ∷ [])

abbrev pub IsDescribed : BuildError → List ℕ → Type 0
IsDescribed (build.Document e) text = text ≡ said_of_document e
IsDescribed (build.Registry e) text = text ≡ said_of_documents e
IsDescribed (build.Root e) text = text ≡ said_of_root e
IsDescribed (build.Schema e) text = text ≡ said_of_cause e
IsDescribed (build.MetaSchema e) text = (sentence : List ℕ) × AreSpelled (description_of e.fault) sentence × (text ≡ said_of_schema e sentence)
IsDescribed build.Memory text = text ≡ codes "No memory"
