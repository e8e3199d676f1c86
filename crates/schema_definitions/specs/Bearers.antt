-- Documents, and which place bears a URI or an anchor (Core 8.2; RFC 3986 section 5.1).
use Rattle.std.specs.Prelude.{ℕ, zero, suc, ◌+◌, List, [], ◌∷◌, Bool, true, false, not, ◌&&◌, ◌||◌, map, codes, bytes_eq, if◌then◌else◌, Option, Some, None, option_map, is_some}
use Rattle.std.specs.List.{flat_map}
use Rattle.serde_json.specs.Data.{Data, null, boolean, number, string, array, object, Items, no_items, item, Members, no_members, member}
use Rattle.serde_json.specs.Find.{get}
use Rattle.json_values.specs.Parts.{Part}
use Rattle.schema_drafts.specs.Vocabularies.{standard, Vocabulary, vocabulary_named, Vocabularies, all_of_draft, only, known_among}
use Rattle.schema_drafts.specs.declared.draft.Draft.{Draft}
use Rattle.schema_definitions.specs.Words.{last_that, has_text}
use Rattle.schema_definitions.specs.Identifiers.{identifier, anchors, dynamic_anchors}
use Rattle.schema_definitions.specs.Places.{Dialect, SchemaPlace, places}

-- a document: its layer, the URI under which it was added, what it holds, and its dialect where it names none
pub record Document : Type 0 where
  pub layer : ℕ
  pub uri : List ℕ
  pub contents : Data
  pub default : Dialect

-- the documents of a registry: those of its parent, and then its own, in their order
abbrev pub Documents : Type 0
Documents = List Document

-- the own documents of a registry are a layer above those of its parent: its number, and how documents are read that name no draft
pub record Layer : Type 0 where
  pub number : ℕ
  pub draft : Draft
  pub siblings : Bool

abbrev pub by_default : Layer → Dialect
by_default l = standard l.siblings l.draft

-- the name of a document: its layer and then its URI, so that an own document and a parent's are two, whatever their URIs
abbrev pub document_name : Document → List ℕ
document_name d = d.layer ∷ d.uri

abbrev pub uri_in : List ℕ → List ℕ
uri_in [] = []
uri_in (layer ∷ uri) = uri

-- a schema place of a document, which goes by its name
pub record Standing : Type 0 where
  pub document : List ℕ
  pub place : SchemaPlace

abbrev pub standing_in : (List ℕ → Option Dialect) → Document → List Standing
standing_in meta d = map (λ p. record { document = document_name d; place = p }) (places meta d.uri d.default d.contents)

unfoldable pub standings : (List ℕ → Option Dialect) → Documents → List Standing
standings meta documents = flat_map (standing_in meta) documents

abbrev pub is_root : List Part → Bool
is_root [] = true
is_root (p ∷ ps) = false

-- a root bears its given URI, and a place with an identifier its base
abbrev pub bears : List ℕ → Standing → Bool
bears uri s =
    not (is_some s.place.awaits)
    && ((is_root s.place.path && bytes_eq (uri_in s.document) uri) || (is_some (identifier s.place.dialect s.place.contents) && bytes_eq s.place.base uri))

-- of several bearers the last counts, so own documents before a parent's
abbrev pub last_standing : (Standing → Bool) → (List ℕ → Option Dialect) → Documents → Option Standing
last_standing test meta docs = last_that test (standings meta docs)

-- ---- meta-schemas of one's own (Core 8.1.1, 8.1.2)

-- the vocabularies that `$vocabulary` requires; one named with `false` does not count
abbrev pub required_in : Members → List Vocabulary
required_in no_members = []
required_in (member k (boolean true) ms) = vocabulary_named k ∷ required_in ms
required_in (member k (boolean false) ms) = required_in ms
required_in (member k null ms) = required_in ms
required_in (member k (number n) ms) = required_in ms
required_in (member k (string s) ms) = required_in ms
required_in (member k (array ds) ms) = required_in ms
required_in (member k (object ns) ms) = required_in ms

abbrev pub declared_by : Option Data → Vocabularies
declared_by None = all_of_draft
declared_by (Some null) = all_of_draft
declared_by (Some (boolean b)) = all_of_draft
declared_by (Some (number n)) = all_of_draft
declared_by (Some (string s)) = all_of_draft
declared_by (Some (array ds)) = all_of_draft
declared_by (Some (object ms)) = only (required_in ms)

-- those of them by which keywords count: all of the draft, or the ones that the drafts know
abbrev pub counting : Vocabularies → Vocabularies
counting all_of_draft = all_of_draft
counting (only vs) = only (known_among vs)

abbrev pub required_by : Option Data → Vocabularies
required_by vocabulary = counting (declared_by vocabulary)

-- the dialect of schemas that name this one as their meta-schema: its draft, and the vocabularies that it requires
abbrev pub dialect_by : Standing → Dialect
dialect_by s = record {
  draft = s.place.dialect.draft;
  vocabularies = required_by (get (codes "$vocabulary") s.place.contents);
  siblings = s.place.dialect.siblings;
}

-- the dialects of meta-schemas, where n may stand above one another
unfoldable pub dialects : Documents → ℕ → List ℕ → Option Dialect
dialects docs zero uri = None
dialects docs (suc n) uri = option_map dialect_by (last_standing (bears uri) (dialects docs n) docs)

-- how many schemas name a meta-schema
abbrev mutual
  pub schemas_named : Data → ℕ
  schemas_named null = 0
  schemas_named (boolean b) = 0
  schemas_named (number n) = 0
  schemas_named (string s) = 0
  schemas_named (array ds) = schemas_named_in ds
  schemas_named (object ms) = schemas_named_among ms

  pub schemas_named_in : Items → ℕ
  schemas_named_in no_items = 0
  schemas_named_in (item d ds) = schemas_named d + schemas_named_in ds

  pub schemas_named_among : Members → ℕ
  schemas_named_among no_members = 0
  schemas_named_among (member k d ms) = (if bytes_eq k (codes "$schema") then 1 else 0) + schemas_named d + schemas_named_among ms

abbrev pub how_many : Documents → ℕ
how_many [] = 0
how_many (d ∷ ds) = schemas_named d.contents + how_many ds

-- What the documents tell of meta-schemas. Each stands above others at most as often as one is named, and one stage more tells those that nobody names.
abbrev pub meta : Documents → List ℕ → Option Dialect
meta docs uri = dialects docs (suc (how_many docs)) uri

-- ---- bearers, under what is told of meta-schemas, and by the documents alone

abbrev pub bearer_under : (List ℕ → Option Dialect) → Documents → List ℕ → Option Standing
bearer_under meta docs uri = last_standing (bears uri) meta docs

abbrev pub bearer : Documents → List ℕ → Option Standing
bearer docs uri = bearer_under (meta docs) docs uri

abbrev pub bears_anchor : (Dialect → Data → List (List ℕ)) → List ℕ → List ℕ → Standing → Bool
bears_anchor of base k s = not (is_some s.place.awaits) && bytes_eq s.place.base base && has_text k (of s.place.dialect s.place.contents)

-- an anchor is a name under a base
abbrev pub anchored_under : (List ℕ → Option Dialect) → Documents → List ℕ → List ℕ → Option Standing
anchored_under meta docs base k = last_standing (bears_anchor anchors base k) meta docs

abbrev pub anchored : Documents → List ℕ → List ℕ → Option Standing
anchored docs base k = anchored_under (meta docs) docs base k

abbrev pub dynamically_anchored : Documents → List ℕ → List ℕ → Option Standing
dynamically_anchored docs base k = last_standing (bears_anchor dynamic_anchors base k) (meta docs) docs
