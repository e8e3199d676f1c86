-- Texts of documents where a reference is looked for and none stands, and references to meta-schemas that wait for themselves.
use Rattle.std.specs.Prelude.{◌≡◌, ℕ, List, [], ◌∷◌, ◌++◌, map, codes, Option, Some, None, string_bytes}
use Rattle.std.specs.List.{AllZip, flat_map}
use Rattle.uri_grammar.specs.Texts.{cut_at}
use Rattle.json_values.specs.Parts.{name}
use Rattle.schema_drafts.specs.Drafts.{identifier_name}
use Rattle.schema_definitions.specs.Words.{or, text_at}
use Rattle.schema_definitions.specs.Identifiers.{identifier_text}
use Rattle.schema_definitions.specs.Places.{schema_in_force}
use Rattle.schema_definitions.specs.Bearers.{Documents, Layer, Standing, standings, meta, is_root}
use Rattle.schema_definitions.specs.DocumentCauses.{DocumentCause, no_reference, unretrieved, unknown_specification, circular_metaschema, unless_reference}
use Rattle.schema_definitions.specs.Rows.{Place}
use Rattle.document_sources.specs.Causes.{NamesDocument}
use Rattle.document_sources.specs.Given.{Given, documents_by}
use Rattle.document_index.specs.Awaited.{cause_of}
use Rattle.document_index.specs.Checked.{unknown_by}
use Rattle.reached_sites.specs.Places.{place_in}
use Rattle.reached_sites.specs.declared.cause.BuildCause.{BuildCause}
use Rattle.reached_sites.specs.declared.cause.BuildCause.TheVariants as cause
use Rattle.schema_validators.specs.Absent.{first_some}
use Rattle.schema_validators.specs.Prepared.{documents_alone}
use Rattle.schema_validators.specs.declared.misnamed.Asked.{Asked}

-- a text that names nothing: where the member stands that has it, the text, and what is wrong with it
pub record Misnamed : Type 0 where
  pub place : Place
  pub reference : List ℕ
  pub cause : DocumentCause

abbrev pub misnamed : Standing → List ℕ → List ℕ → DocumentCause → Misnamed
misnamed s member text c = record { place = record { document = s.document; path = name member ∷ s.place.path }; reference = text; cause = c }

-- the text of a member, of which a part has to be a URI reference
abbrev pub unless_text : Standing → List ℕ → List ℕ → List ℕ → List Misnamed
unless_text s member text part = map (misnamed s member text) (unless_reference part)

abbrev pub of_text : (List ℕ → List Misnamed) → Option (List ℕ) → List Misnamed
of_text told None = []
of_text told (Some t) = told t

-- a text that has to be a URI reference as a whole
abbrev pub of_whole : Standing → List ℕ → Option (List ℕ) → List Misnamed
of_whole s member text = of_text (λ t. unless_text s member t t) text

-- and one that has to be one up to its `#`
abbrev pub of_reference : Standing → Option (List ℕ) → List Misnamed
of_reference s text = of_text (λ t. unless_text s (codes "$ref") t (cut_at 35 t).0) text

-- a meta-schema that waits for itself, and not one that nobody bears
abbrev pub if_circular : DocumentCause → List DocumentCause
if_circular (no_reference t) = []
if_circular (unretrieved uri) = []
if_circular (unknown_specification uri) = []
if_circular (circular_metaschema uri) = circular_metaschema uri ∷ []

-- of a place that awaits its meta-schema, by why that is not known
abbrev pub awaiting : Standing → DocumentCause → List Misnamed
awaiting s why = map (misnamed s (codes "$schema") (or [] (text_at (codes "$schema") s.place.contents))) (if_circular why)

-- of one that does not: its identifier and its `$ref`
abbrev pub settled : Standing → List Misnamed
settled s =
    of_whole s (identifier_name s.place.dialect.draft) (identifier_text s.place.dialect s.place.contents)
    ++ of_reference s (text_at (codes "$ref") s.place.contents)

abbrev pub behind_schema : (List ℕ → DocumentCause) → Standing → Option (List ℕ) → List Misnamed
behind_schema unknown s None = settled s
behind_schema unknown s (Some uri) = awaiting s (unknown uri)

-- of a place: its `$schema` where it counts, and then these
abbrev pub misnamed_at : (List ℕ → DocumentCause) → Standing → List Misnamed
misnamed_at unknown s =
    of_whole s (codes "$schema") (schema_in_force s.place.dialect.siblings (is_root s.place.path) s.place.contents)
    ++ behind_schema unknown s s.place.awaits

-- of all places of documents, in the order met
abbrev pub misnamed_in : Documents → List Misnamed
misnamed_in docs = flat_map (misnamed_at (unknown_by docs)) (standings (meta docs) docs)

-- that of documents that stand over no others; of meta-schemas by themselves, and where they have none, of documents beside them
abbrev pub misnamed_given : Option (List Given) → Layer → List Given → List Misnamed
misnamed_given None first given = misnamed_in (documents_alone None first given)
misnamed_given (Some metas) first given = first_some (misnamed_in (documents_by first metas)) (misnamed_in (documents_alone (Some metas) first given))

-- the cause that is told of it
abbrev pub NamesMisnamed : Misnamed → BuildCause → Type 0
NamesMisnamed m (cause.Reference place reference error) = (place_in place ≡ m.place) × (string_bytes reference ≡ m.reference) × NamesDocument m.cause error
NamesMisnamed m _ = ⊥

-- causes that were told of some, and then of more
abbrev pub Adds : List Misnamed → List BuildCause → List BuildCause → Type 0
Adds more old new = (found : List Misnamed) → AllZip NamesMisnamed found old → AllZip NamesMisnamed (found ++ more) new

-- what was asked of a meta-schema that is awaited is why it is not known
abbrev pub IsAskedIn : Documents → Asked → Type 0
IsAskedIn docs a = cause_of a.why ≡ unknown_by docs a.uri
