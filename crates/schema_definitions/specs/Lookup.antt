-- What a reference leads to (Core 8.2.3.1; RFC 6901; RFC 3986 section 5).
use Rattle.std.specs.Prelude.{ℕ, List, [], ◌∷◌, ◌==◌, Bool, true, false, if◌then◌else◌, Option, Some, None, Result, Ok, Err}
use Rattle.std.specs.Str.{is_utf8}
use Rattle.serde_json.specs.Data.{Data, null, boolean, number, string, array, object}
use Rattle.serde_json.specs.Find.{get_member, get_item, unescape}
use Rattle.percent_encoding.specs.Percent.{percent_decode}
use Rattle.uri_references.specs.Passed.{cut_at, has, pieces}
use Rattle.json_values.specs.Parts.{Part, name, index}
use Rattle.json_values.specs.Pointers.{index_of}
use Rattle.schema_drafts.specs.Subschemas.{Holds, nothing, one, several, one_or_several, by_name, held_by}
use Rattle.schema_definitions.specs.Words.{or, result_map, ok_or, and_then}
use Rattle.schema_definitions.specs.Identifiers.{resolved, is_hidden}
use Rattle.schema_definitions.specs.Places.{Dialect, SchemaPlace, is_schema, entered}
use Rattle.schema_definitions.specs.Bearers.{Documents, Standing, bearer_under, anchored_under, meta}

-- why a reference leads nowhere, with the texts that the refusal names
pub data LookupCause : Type 0 where
  unretrievable : List ℕ → LookupCause
  pointer_to_nowhere : List ℕ → LookupCause
  invalid_percent_encoding : List ℕ → LookupCause
  invalid_array_index : List ℕ → List ℕ → LookupCause
  no_such_anchor : List ℕ → LookupCause
  invalid_anchor : List ℕ → LookupCause
  invalid_uri : List ℕ → LookupCause

-- a place in a document that a reference leads to, with the base URI and the dialect there
pub record Target : Type 0 where
  pub document : List ℕ
  pub path : List Part
  pub contents : Data
  pub base : List ℕ
  pub dialect : Dialect
  -- whether a schema place of the document stands there
  pub is_place : Bool

-- ---- pointers

-- whether the value reached is a schema place itself, is a member that holds schemas, or neither
pub data Within : Type 0 where
  at_place : Within
  part_of : Holds → Within

-- where a walk along a pointer stands: the schema place that it passed last, and what the value is to it
pub record Walk : Type 0 where
  pub path : List Part
  pub contents : Data
  pub last : SchemaPlace
  pub within : Within

abbrev pub holds_schema : Holds → Data → Bool
holds_schema nothing d = false
holds_schema one d = is_schema d
holds_schema several d = false
holds_schema one_or_several d = is_schema d
holds_schema by_name d = false

abbrev pub in_element : Within → Holds
in_element at_place = nothing
in_element (part_of nothing) = nothing
in_element (part_of one) = nothing
in_element (part_of several) = one
in_element (part_of one_or_several) = one
in_element (part_of by_name) = nothing

abbrev pub in_member : SchemaPlace → Within → List ℕ → Holds
in_member p at_place k = held_by p.dialect.draft (is_hidden p.dialect p.contents) k
in_member p (part_of nothing) k = nothing
in_member p (part_of one) k = nothing
in_member p (part_of several) k = nothing
in_member p (part_of one_or_several) k = nothing
in_member p (part_of by_name) k = one

-- one part further: a schema place below changes the base by its identifier, once
abbrev pub arrived : (List ℕ → Option Dialect) → Walk → Holds → Part → Data → Walk
arrived meta w h part e =
    if holds_schema h e
    then record { path = part ∷ w.path; contents = e; last = entered meta w.last.base w.last.dialect (part ∷ w.path) e; within = at_place }
    else record { path = part ∷ w.path; contents = e; last = w.last; within = part_of h }

abbrev pub item_at : (List ℕ → Option Dialect) → List ℕ → List ℕ → Walk → Data → Option ℕ → Result Walk LookupCause
item_at meta written token w d None = Err (invalid_array_index token written)
item_at meta written token w null (Some i) = Err (pointer_to_nowhere written)
item_at meta written token w (boolean b) (Some i) = Err (pointer_to_nowhere written)
item_at meta written token w (number n) (Some i) = Err (pointer_to_nowhere written)
item_at meta written token w (string s) (Some i) = Err (pointer_to_nowhere written)
item_at meta written token w (array ds) (Some i) = result_map (arrived meta w (in_element w.within) (index i)) (ok_or (pointer_to_nowhere written) (get_item i ds))
item_at meta written token w (object ms) (Some i) = Err (pointer_to_nowhere written)

-- one part of a pointer, as it is written, or what is wrong with it
abbrev pub step_to : (List ℕ → Option Dialect) → List ℕ → List ℕ → Walk → Data → Result Walk LookupCause
step_to meta written token w null = Err (pointer_to_nowhere written)
step_to meta written token w (boolean b) = Err (pointer_to_nowhere written)
step_to meta written token w (number n) = Err (pointer_to_nowhere written)
step_to meta written token w (string s) = Err (pointer_to_nowhere written)
step_to meta written token w (array ds) = item_at meta written token w (array ds) (index_of token)
step_to meta written token w (object ms) =
    result_map (arrived meta w (in_member w.last w.within (unescape token)) (name (unescape token))) (ok_or (pointer_to_nowhere written) (get_member (unescape token) ms))

abbrev pub walk : (List ℕ → Option Dialect) → List ℕ → List (List ℕ) → Walk → Result Walk LookupCause
walk meta written [] w = Ok w
walk meta written (token ∷ tokens) w = and_then (step_to meta written token w w.contents) (walk meta written tokens)

abbrev pub is_at_place : Within → Bool
is_at_place at_place = true
is_at_place (part_of h) = false

abbrev pub ended : Standing → Walk → Target
ended s w = record { document = s.document; path = w.path; contents = w.contents; base = w.last.base; dialect = w.last.dialect; is_place = is_at_place w.within }

abbrev pub behind_first : List (List ℕ) → List (List ℕ)
behind_first [] = []
behind_first (t ∷ ts) = ts

-- a fragment that begins with `/` is percent-decoded whole and then split (RFC 6901, section 6)
abbrev pub by_pointer : (List ℕ → Option Dialect) → Standing → List ℕ → List ℕ → Result Target LookupCause
by_pointer meta s written decoded =
    if is_utf8 decoded
    then result_map (ended s) (walk meta written (behind_first (pieces 47 decoded)) (record { path = s.place.path; contents = s.place.contents; last = s.place; within = at_place }))
    else Err (invalid_percent_encoding written)

abbrev pub target_of : Standing → Target
target_of s = record { document = s.document; path = s.place.path; contents = s.place.contents; base = s.place.base; dialect = s.place.dialect; is_place = true }

-- any other fragment is an anchor, which is never decoded
abbrev pub by_anchor : (List ℕ → Option Dialect) → Documents → Standing → List ℕ → Result Target LookupCause
by_anchor meta docs s k = if has 47 k then Err (invalid_anchor k) else result_map target_of (ok_or (no_such_anchor k) (anchored_under meta docs s.place.base k))

abbrev pub by_fragment : (List ℕ → Option Dialect) → Documents → Standing → List ℕ → Result Target LookupCause
by_fragment meta docs s [] = Ok (target_of s)
by_fragment meta docs s (b ∷ f) = if b == 47 then by_pointer meta s (b ∷ f) (percent_decode (b ∷ f)) else by_anchor meta docs s (b ∷ f)

-- ---- lookup: the reference is cut at its first `#`, the part before resolved against the base, its bearer found, and the fragment followed

unfoldable pub lookup_under : (List ℕ → Option Dialect) → Documents → List ℕ → List ℕ → Result Target LookupCause
lookup_under meta docs base reference =
    let c = cut_at 35 reference in
    and_then (ok_or (invalid_uri c.0) (resolved base c.0)) (λ uri.
    and_then (ok_or (unretrievable uri) (bearer_under meta docs uri)) (λ s. by_fragment meta docs s (or [] c.1)))

abbrev pub lookup : Documents → List ℕ → List ℕ → Result Target LookupCause
lookup docs base reference = lookup_under (meta docs) docs base reference
