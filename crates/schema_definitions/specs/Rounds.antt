-- Documents that are wanted and not at hand, and how they are retrieved: by rounds (Core 8.1.1, 8.2.3.1, 9.1.2).
use Rattle.std.specs.Prelude.{◌≡◌, ℕ, List, [], ◌∷◌, ◌++◌, Bool, true, not, ◌&&◌, ◌||◌, map, codes, bytes_eq, if◌then◌else◌, Option, Some, None, option_and_then, is_some}
use Rattle.std.specs.List.{flat_map, list_any, AllByRecursion}
use Rattle.serde_json.specs.Data.{Data}
use Rattle.uri_references.specs.Passed.{cut_at}
use Rattle.schema_definitions.specs.Words.{listed, text_at, has_text}
use Rattle.schema_definitions.specs.Identifiers.{resolved}
use Rattle.schema_definitions.specs.Places.{Dialect}
use Rattle.schema_definitions.specs.Bearers.{Document, Documents, Layer, by_default, Standing, standings, meta, bearer_under}
use Rattle.schema_definitions.specs.DocumentCauses.{DocumentCause, unretrieved, unknown_specification}

-- ---- what is wanted

-- a document of this URI, and what documents are refused for where nobody gives it
pub record Want : Type 0 where
  pub uri : List ℕ
  pub cause : DocumentCause

abbrev pub as_reference : List ℕ → Want
as_reference uri = record { uri = uri; cause = unretrieved uri }

abbrev pub as_meta_schema : List ℕ → Want
as_meta_schema uri = record { uri = uri; cause = unknown_specification uri }

-- the document that a `$ref` leads into
abbrev pub referred : Standing → Option (List ℕ)
referred s = option_and_then (λ t. resolved s.place.base (cut_at 35 t).0) (text_at (codes "$ref") s.place.contents)

-- a place wants its meta-schema where it awaits one, and else what its `$ref` leads into
abbrev pub wanted_at : Standing → List Want
wanted_at s = elim s.place.awaits [ None ↦ map as_reference (listed (referred s)) | Some uri ↦ as_meta_schema uri ∷ [] ]

-- a document of this URI is there
abbrev pub is_added : Documents → List ℕ → Bool
is_added docs uri = list_any (λ d. bytes_eq d.uri uri) docs

-- it is, or some place bears the URI
abbrev pub is_at_hand : (List ℕ → Option Dialect) → Documents → List ℕ → Bool
is_at_hand told docs uri = is_some (bearer_under told docs uri) || is_added docs uri

-- those that are not known, each URI once, in the order in which they come first
abbrev pub further : (List ℕ → Bool) → List Want → List Want
further known [] = []
further known (w ∷ ws) = if known w.uri then further known ws else w ∷ further (λ uri. known uri || bytes_eq w.uri uri) ws

-- what the documents want and is not at hand, in the order met
unfoldable pub wants_under : (List ℕ → Option Dialect) → Documents → List Want
wants_under told docs = further (is_at_hand told docs) (flat_map wanted_at (standings told docs))

abbrev pub wants : Documents → List Want
wants docs = wants_under (meta docs) docs

-- ---- rounds

-- whom documents are asked of: what may be answered for a URI and what may be refused, and the layer of the answers
pub record Asking : Type 1 where
  pub answers : List ℕ → Data → Type 0
  pub refuses : List ℕ → Type 0
  pub layer : Layer

-- a document of a layer that was given with no draft
abbrev pub IsOfLayer : Layer → Document → Type 0
IsOfLayer l d = (d.layer ≡ l.number) × (d.default ≡ by_default l)

-- the answers of a round: a document for each that is wanted, in that order
pub record IsRound (a : Asking) (docs answers : Documents) : Type 0 where
  pub asked : map (λ d. d.uri) answers ≡ map (λ w. w.uri) (wants docs)
  pub answered : AllByRecursion (λ d. a.answers d.uri d.contents × IsOfLayer a.layer d) answers

-- rounds one after another: all documents at hand are walked, and then what they want is asked for
abbrev pub AreRounds : Asking → Documents → List Documents → Type 0
AreRounds a docs [] = Unit {0}
AreRounds a docs (answers ∷ rounds) = IsRound a docs answers × AreRounds a (docs ++ answers) rounds

-- the documents after some rounds, and the URIs that were answered, in order
abbrev pub gathered : Documents → List Documents → Documents
gathered docs [] = docs
gathered docs (answers ∷ rounds) = gathered (docs ++ answers) rounds

abbrev pub retrieved : List Documents → List (List ℕ)
retrieved rounds = flat_map (λ answers. map (λ d. d.uri) answers) rounds

-- no text twice
abbrev pub none_twice : List (List ℕ) → Bool
none_twice [] = true
none_twice (t ∷ ts) = not (has_text t ts) && none_twice ts
