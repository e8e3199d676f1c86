-- The documents that the program is given.
use Rattle.std.specs.Prelude.{◌≡◌, ℕ, List, [], ◌∷◌, Bool, true, ⊤, Option, Some, None, option_map, option_and_then, codes, unwrap_or}
use Rattle.std.specs.List.{AllZip}
use Rattle.serde_json.specs.Data.{Data, array}
use Rattle.serde_json.specs.Find.{get, as_str}
use Rattle.serde_json.specs.View.{items_of}
use Rattle.uri_grammar.specs.Texts.{cut_at_last}
use Rattle.uri_references.specs.Identity.{identity_of}
use Rattle.schema_drafts.specs.Drafts.{newest, detected, draft_among}
use Rattle.schema_drafts.specs.Identifiers.{identifier}
use Rattle.schema_drafts.specs.Vocabularies.{standard}
use Rattle.schema_drafts.specs.declared.draft.Draft.{Draft}
use Rattle.schema_drafts.specs.declared.draft.Draft.TheVariants.{Draft4, Draft6, Draft7, Draft201909, Draft202012}
use Rattle.clap.specs.Walk.{texts}
use Rattle.schema_definitions.specs.Bearers.{Layer}
use Rattle.document_sources.specs.Given.{Given, with_given}
use Rattle.schema_registries.specs.Refused.{text_value}
use Rattle.schema_registries.specs.Seen.{AddsText, given_under}
use Rattle.schema_registries.specs.Whole.{only_whole}
use Rattle.program_inputs.specs.Held.{Held, Unknown, Missing, Holds}
use Rattle.program_inputs.specs.declared.words.ProgramWords.{ProgramWords}
use Rattle.validator_program.specs.declared.documents.Further.{Further}

-- what a file holds may be this text
abbrev pub MayHold : Held → List ℕ → Type 0
MayHold Unknown text = ⊤
MayHold Missing text = ⊥
MayHold (Holds bytes) text = text ≡ bytes

-- a URI, and the file of its document
abbrev pub Pair : Type 0
Pair = List ℕ × List ℕ

abbrev pub pair_of : Further → Pair
pair_of f = (f.uri.now, f.file.now)

-- a word is cut at its last `=` (61)
abbrev pub IsCut : List ℕ → Pair → Type 0
IsCut word p = cut_at_last 61 word ≡ (p.0, Some p.1)

abbrev pub AreCut : List (List ℕ) → List Pair → Type 0
AreCut = AllZip IsCut

-- the JSON text that a file holds is added under a URI
pub record AddsFile (held : List ℕ → Held) (p : Pair) (old new : List Given) : Type 0 where
  pub text : List ℕ
  pub holds : MayHold (held p.1) text
  pub added : AddsText p.0 text old new

-- each in its turn
abbrev pub AddsFiles : (List ℕ → Held) → List Pair → List Given → List Given → Type 0
AddsFiles held [] old new = new ≡ old
AddsFiles held (p ∷ ps) old new = (middle : List Given) × AddsFile held p old middle × AddsFiles held ps middle new

-- the base that is given, or the one by default
abbrev pub base_of : Option (List ℕ) → List ℕ
base_of base = identity_of (unwrap_or base (codes "json-schema:///"))

-- the words that name drafts
abbrev pub draft_words : List (List ℕ × Draft)
draft_words =
    (codes "4", Draft4)
    ∷ (codes "6", Draft6)
    ∷ (codes "7", Draft7)
    ∷ (codes "2019-09", Draft201909)
    ∷ (codes "2020-12", Draft202012)
    ∷ []

-- the draft that a word names, or the newest where there is no word
abbrev pub draft_of : Option (List ℕ) → Option Draft
draft_of None = Some newest
draft_of (Some word) = draft_among draft_words word

-- ---- words

-- the file of the schema, the further documents, the base, the draft and the file of the meta-schemas where they are given, and whether
-- siblings of `$ref` are read
pub record Words : Type 0 where
  pub schema : List ℕ
  pub files : List (List ℕ)
  pub base : Option (List ℕ)
  pub draft : Option (List ℕ)
  pub meta : Option (List ℕ)
  pub siblings : Bool

abbrev pub words_of : ProgramWords → Words
words_of w = record {
  schema = w.schema.now;
  files = texts w.files.items;
  base = option_map (λ s. s.now) w.base;
  draft = option_map (λ s. s.now) w.draft;
  meta = option_map (λ s. s.now) w.meta;
  siblings = w.ref_siblings;
}

-- ---- meta-schemas

-- the identifier of a meta-schema: by the draft that its `$schema` names, or else by the one given
abbrev pub own_identifier : Layer → Data → Option (List ℕ)
own_identifier l d = identifier (standard l.siblings (detected l.draft (option_and_then as_str (get (codes "$schema") d)))) d

-- it is added under that
pub record AddsOwn (l : Layer) (d : Data) (old new : List Given) : Type 0 where
  pub uri : List ℕ
  pub is_identifier : own_identifier l d ≡ Some uri
  pub whole : only_whole d ≡ true
  pub added : new ≡ with_given old (given_under uri d)

-- each in its turn
abbrev pub AddsEach : Layer → List Data → List Given → List Given → Type 0
AddsEach l [] old new = new ≡ old
AddsEach l (d ∷ ds) old new = (middle : List Given) × AddsOwn l d old middle × AddsEach l ds middle new

-- the file holds a JSON list of them
pub record AreMetaSchemas (held : List ℕ → Held) (l : Layer) (file : List ℕ) (given : List Given) : Type 0 where
  pub text : List ℕ
  pub holds : MayHold (held file) text
  pub items : List Data
  pub is_list : text_value text ≡ Some (array (items_of items))
  pub added : AddsEach l items [] given

-- where a file was given
abbrev pub MayBeMetaSchemas : (List ℕ → Held) → Layer → Option (List ℕ) → Option (List Given) → Type 0
MayBeMetaSchemas held l None None = Unit {0}
MayBeMetaSchemas held l None (Some given) = ⊥
MayBeMetaSchemas held l (Some file) None = ⊥
MayBeMetaSchemas held l (Some file) (Some given) = AreMetaSchemas held l file given
