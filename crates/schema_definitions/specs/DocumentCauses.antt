-- What makes documents no registry: a bad URI at a schema place, a document that is wanted and not there, a meta-schema that is not known or is circular.
use Rattle.std.specs.Prelude.{ℕ, zero, suc, length, map, List, [], ◌∷◌, ◌++◌, Bool, true, false, not, ◌&&◌, ◌||◌, codes, bytes_eq, nat_eq, if◌then◌else◌, Option, Some, None, option_and_then, is_some}
use Rattle.std.specs.List.{filter, flat_map}
use Rattle.uri_references.specs.Passed.{cut_at, split, is_reference}
use Rattle.schema_drafts.specs.Vocabularies.{Vocabulary, Vocabularies, all_of_draft, only, is_same}
use Rattle.schema_drafts.specs.declared.draft.Draft.{Draft}
use Rattle.schema_drafts.specs.declared.draft.Draft.TheVariants.{Draft4, Draft6, Draft7, Draft201909, Draft202012, Unknown}
use Rattle.schema_definitions.specs.Words.{or, last_that, listed, text_at}
use Rattle.schema_definitions.specs.Identifiers.{resolved, identifier_text, identifier}
use Rattle.schema_definitions.specs.Places.{Dialect, standard, schema_in_force, named_meta_schema}
use Rattle.schema_definitions.specs.Bearers.{Documents, Standing, standings, uri_in, is_root, dialects, how_many, meta, bearer}

pub data DocumentCause : Type 0 where
  no_reference : List ℕ → DocumentCause
  unretrieved : List ℕ → DocumentCause
  unknown_specification : List ℕ → DocumentCause
  circular_metaschema : List ℕ → DocumentCause

abbrev pub unless_reference : List ℕ → List DocumentCause
unless_reference t = if is_reference (split t) then [] else no_reference t ∷ []

-- ---- a meta-schema that is awaited

-- a place that awaits its meta-schema and bears this URI
abbrev pub would_bear : List ℕ → Standing → Bool
would_bear uri s =
    is_some s.place.awaits
    && ((is_root s.place.path && bytes_eq (uri_in s.document) uri)
    || bytes_eq uri (or [] (option_and_then (resolved s.place.base) (identifier (standard s.place.dialect.siblings Unknown) s.place.contents))))

abbrev pub waiting : Documents → List ℕ → Option Standing
waiting docs uri = last_that (would_bear uri) (standings (meta docs) docs)

-- the URI that it awaits in turn
abbrev pub next_awaited : Documents → List ℕ → Option (List ℕ)
next_awaited docs uri = option_and_then (λ s. s.place.awaits) (waiting docs uri)

-- upward from a meta-schema that is awaited: one that nobody bears is unknown; where each awaits another they are circular
abbrev pub awaited_cause : Documents → ℕ → List ℕ → DocumentCause
awaited_cause docs zero uri = circular_metaschema uri
awaited_cause docs (suc n) uri = elim (next_awaited docs uri) [ None ↦ unknown_specification uri | Some next ↦ awaited_cause docs n next ]

abbrev pub how_many_await : Documents → ℕ
how_many_await docs = length (filter (λ s. is_some s.place.awaits) (standings (meta docs) docs))

-- ---- a meta-schema that each stage tells anew: what bears its URI hangs on what is told of it

abbrev pub number_of_draft : Draft → ℕ
number_of_draft Draft4 = 0
number_of_draft Draft6 = 1
number_of_draft Draft7 = 2
number_of_draft Draft201909 = 3
number_of_draft Draft202012 = 4
number_of_draft Unknown = 5

abbrev pub are_listed_alike : List Vocabulary → List Vocabulary → Bool
are_listed_alike [] [] = true
are_listed_alike [] (w ∷ ws) = false
are_listed_alike (v ∷ vs) [] = false
are_listed_alike (v ∷ vs) (w ∷ ws) = is_same v w && are_listed_alike vs ws

abbrev pub are_alike : Vocabularies → Vocabularies → Bool
are_alike all_of_draft all_of_draft = true
are_alike all_of_draft (only ws) = false
are_alike (only vs) all_of_draft = false
are_alike (only vs) (only ws) = are_listed_alike vs ws

abbrev pub are_both : Bool → Bool → Bool
are_both a b = if a then b else not b

abbrev pub is_told_alike : Option Dialect → Option Dialect → Bool
is_told_alike None None = true
is_told_alike None (Some e) = false
is_told_alike (Some d) None = false
is_told_alike (Some d) (Some e) =
    nat_eq (number_of_draft d.draft) (number_of_draft e.draft) && are_alike d.vocabularies e.vocabularies && are_both d.siblings e.siblings

-- where the last stage tells another dialect than the one before
abbrev pub unless_told_again : Documents → List ℕ → List DocumentCause
unless_told_again docs uri = if is_told_alike (dialects docs (how_many docs) uri) (meta docs uri) then [] else circular_metaschema uri ∷ []

-- of the meta-schema that a schema place names
abbrev pub told_anew_at : Documents → Standing → List DocumentCause
told_anew_at docs s = flat_map (unless_told_again docs) (listed (named_meta_schema s.place.dialect.siblings (is_root s.place.path) s.place.contents))

abbrev pub told_anew : Documents → List DocumentCause
told_anew docs = flat_map (told_anew_at docs) (standings (dialects docs (how_many docs)) docs)

-- ---- the causes of a place

-- what its identifier, its `$schema` where it counts, and its `$ref` are in the way of
abbrev pub unless_borne : Documents → List ℕ → List DocumentCause
unless_borne docs uri = if is_some (bearer docs uri) then [] else unretrieved uri ∷ []

abbrev pub wanted_by : Documents → List ℕ → List ℕ → List DocumentCause
wanted_by docs base t = elim (resolved base t) [ None ↦ no_reference t ∷ [] | Some uri ↦ unless_borne docs uri ]

abbrev pub place_causes : Documents → Standing → List DocumentCause
place_causes docs s =
    flat_map unless_reference (listed (schema_in_force s.place.dialect.siblings (is_root s.place.path) s.place.contents))
    ++ (if is_some s.place.awaits
    then map (awaited_cause docs (suc (how_many_await docs))) (listed s.place.awaits)
    else flat_map unless_reference (listed (identifier_text s.place.dialect s.place.contents))
    ++ flat_map (λ t. wanted_by docs s.place.base (cut_at 35 t).0) (listed (text_at (codes "$ref") s.place.contents)))

-- the causes of documents
abbrev pub document_causes : Documents → List DocumentCause
document_causes docs = told_anew docs ++ flat_map (place_causes docs) (standings (meta docs) docs)
