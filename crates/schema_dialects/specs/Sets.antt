-- Sets of vocabularies.
use Rattle.std.specs.Prelude.{◌≡◌, ℕ, List, [], ◌∷◌, ◌++◌, Bool, false, map, if◌then◌else◌, string_bytes}
use Rattle.schema_drafts.specs.Vocabularies.{Vocabulary, core, applicator, unevaluated, validation, metadata, format, format_annotation, content, custom, Vocabularies, Dialect, all_of_draft, only, has_some, is_applicator, is_unevaluated, the_known}
use Rattle.schema_drafts.specs.declared.draft.Draft.{Draft}
use Rattle.schema_drafts.specs.declared.draft.Draft.TheVariants.{Draft4, Draft6, Draft7, Draft201909, Draft202012, Unknown}
use Rattle.schema_dialects.specs.declared.known.KnownVocabularies.{KnownVocabularies}
use Rattle.schema_dialects.specs.declared.set.VocabularySet.{VocabularySet}

-- ---- what a set has

abbrev pub flags : KnownVocabularies → List Bool
flags k =
    k.core ∷ k.applicator ∷ k.unevaluated ∷ k.validation ∷ k.metadata ∷ k.format ∷ k.format_annotation ∷ k.format_assertion ∷ k.content ∷ []

abbrev pub marked : List Bool → List Vocabulary → List Vocabulary
marked [] vs = []
marked (b ∷ bs) [] = []
marked (b ∷ bs) (v ∷ vs) = if b then v ∷ marked bs vs else marked bs vs

-- those that are marked
abbrev pub required : KnownVocabularies → List Vocabulary
required k = marked (flags k) the_known

-- the URIs of the custom ones, in order
abbrev pub custom_uris : VocabularySet → List (List ℕ)
custom_uris s = map string_bytes s.custom.keys

-- its vocabularies, each once
abbrev pub listed : VocabularySet → List Vocabulary
listed s = required s.known ++ map custom (custom_uris s)

-- the vocabularies that it stands for: all of a draft, or those that it has
abbrev pub vocabularies_of : VocabularySet → Vocabularies
vocabularies_of s = if s.is_whole then all_of_draft else only (listed s)

-- those that the draft's own meta-schema names; before 2019-09 there are none
abbrev pub own : Draft → List Vocabulary
own Draft4 = []
own Draft6 = []
own Draft7 = []
own Draft201909 = core ∷ applicator ∷ validation ∷ metadata ∷ format ∷ content ∷ []
own Draft202012 = core ∷ applicator ∷ unevaluated ∷ validation ∷ metadata ∷ format_annotation ∷ content ∷ []
own Unknown = core ∷ applicator ∷ unevaluated ∷ validation ∷ metadata ∷ format_annotation ∷ content ∷ []

-- the dialect of a draft and these, by which what stands beside `$ref` is ignored in Drafts 4 to 7
abbrev pub without_siblings : Draft → Vocabularies → Dialect
without_siblings draft vs = record { draft = draft; vocabularies = vs; siblings = false }

-- the same vocabularies, in whatever order and however often: no test tells the two apart
abbrev pub AreSame : Vocabularies → Vocabularies → Type 0
AreSame vs ws = (test : Vocabulary → Bool) → has_some test vs ≡ has_some test ws

-- whether the vocabulary of `unevaluatedItems` and `unevaluatedProperties` is in force; in 2019-09 the applicators' vocabulary has them
abbrev pub has_unevaluated : Draft → Vocabularies → Bool
has_unevaluated Draft4 vs = has_some is_unevaluated vs
has_unevaluated Draft6 vs = has_some is_unevaluated vs
has_unevaluated Draft7 vs = has_some is_unevaluated vs
has_unevaluated Draft201909 vs = has_some is_applicator vs
has_unevaluated Draft202012 vs = has_some is_unevaluated vs
has_unevaluated Unknown vs = has_some is_unevaluated vs
