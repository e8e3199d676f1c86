-- Under two that tell the same of every meta-schema documents have the same places, bearers and lookups.
use Rattle.std.proofs.Common.{◌≡◌, ◌∙◌, ◌==◌, ℕ, List, [], ◌∷◌, Bool, false, if◌then◌else◌, Option, Some, None, Result, Ok, Err, refl, ap, ap₂}
use Rattle.std.specs.Str.{is_utf8}
use Rattle.std.specs.List.{AllByRecursion}
use Rattle.percent_encoding.specs.Percent.{percent_decode}
use Rattle.serde_json.specs.Data.{Data, null, boolean, number, string, array, object}
use Rattle.serde_json.specs.Find.{get_member, get_item, unescape}
use Rattle.uri_grammar.specs.Texts.{cut_at, has, pieces}
use Rattle.json_values.specs.Parts.{Part, name, index}
use Rattle.json_values.specs.Pointers.{index_of}
use Rattle.schema_drafts.specs.Subschemas.{Holds}
use Rattle.schema_definitions.specs.Words.{or, last_that, result_map, ok_or, and_then}
use Rattle.schema_definitions.specs.Identifiers.{resolved, anchors, dynamic_anchors}
use Rattle.schema_definitions.specs.Places.{Dialect, SchemaPlace, schema_in_force, placed, entered, root_place, children, places}
use Rattle.schema_definitions.specs.Bearers.{Documents, Standing, standings, bears, bears_anchor, last_standing, bearer_under}
use Rattle.schema_definitions.specs.Lookup.{unretrievable, pointer_to_nowhere, invalid_percent_encoding, no_such_anchor, invalid_anchor, invalid_uri, Walk, at_place, part_of, holds_schema, in_element, in_member, arrived, item_at, step_to, walk, ended, behind_first, by_pointer, target_of, by_anchor, by_fragment, lookup_under}
use Rattle.document_laws.specs.Agreeing.{Agrees, AlikeTell}
use Rattle.document_laws.proofs.Agreeing.{AllAgree, by_text, same_root, same_children, same_places, same_standings}

module _ {X Y E : Type 0} where
  same_map : (f g : X → Y) → ((x : X) → f x ≡ g x) → (r : Result X E) → result_map f r ≡ result_map g r
  same_map f g h (Ok x) = ap Ok (h x)
  same_map f g h (Err e) = refl

  same_then : (f g : X → Result Y E) → ((x : X) → f x ≡ g x) → (r : Result X E) → and_then r f ≡ and_then r g
  same_then f g h (Ok x) = h x
  same_then f g h (Err e) = refl

module _ (m n : List ℕ → Option Dialect) (h : (uri : List ℕ) → m uri ≡ n uri) where
  all_agree : (ps : List SchemaPlace) → AllAgree n m ps
  unfolding AllAgree
  all_agree [] = tt
  all_agree (p ∷ ps) = (record { same = λ uri e. h uri }, all_agree ps)

  pub all_stand : (ss : List Standing) → AllByRecursion (Agrees n m) ss
  all_stand [] = tt
  all_stand (s ∷ ss) = (record { agrees = λ uri e. h uri }, all_stand ss)

  same_entry : (outer : List ℕ) (around : Dialect) (path : List Part) (d : Data) → entered m outer around path d ≡ entered n outer around path d
  same_entry outer around path d = ap (placed outer around path d) (by_text n m around (schema_in_force around.siblings false d) (λ u e. h u))

  begun : (uri : List ℕ) (default : Dialect) (d : Data) → root_place m uri default d ≡ root_place n uri default d
  begun uri default d = same_root n m uri default d (record { same = λ u e. h u })

  same_below : (p : SchemaPlace) → children m p ≡ children n p
  same_below p = same_children n m p (all_agree (children n p))

  same_inside : (uri : List ℕ) (default : Dialect) (d : Data) → places m uri default d ≡ places n uri default d
  same_inside uri default d = same_places n m uri default d (all_agree (places n uri default d))

  same_standing : (docs : Documents) → standings m docs ≡ standings n docs
  same_standing docs = same_standings n m docs (all_stand (standings n docs))

  same_last : (test : Standing → Bool) (docs : Documents) → last_standing test m docs ≡ last_standing test n docs
  same_last test docs = ap (last_that test) (same_standing docs)

  -- ---- walks

  same_arrived : (w : Walk) (holds : Holds) (part : Part) (e : Data) → arrived m w holds part e ≡ arrived n w holds part e
  same_arrived w holds part e =
      ap (λ q. if holds_schema holds e
      then record { path = part ∷ w.path; contents = e; last = q; within = at_place }
      else record { path = part ∷ w.path; contents = e; last = w.last; within = part_of holds })
      (same_entry w.last.base w.last.dialect (part ∷ w.path) e)

  same_item : (written token : List ℕ) (w : Walk) (d : Data) (i : Option ℕ) → item_at m written token w d i ≡ item_at n written token w d i
  same_item written token w d None = refl
  same_item written token w null (Some i) = refl
  same_item written token w (boolean b) (Some i) = refl
  same_item written token w (number x) (Some i) = refl
  same_item written token w (string s) (Some i) = refl
  same_item written token w (array ds) (Some i) =
      let holds = in_element w.within in
      same_map (arrived m w holds (index i)) (arrived n w holds (index i)) (same_arrived w holds (index i)) (ok_or (pointer_to_nowhere written) (get_item i ds))
  same_item written token w (object ms) (Some i) = refl

  same_step : (written token : List ℕ) (w : Walk) (d : Data) → step_to m written token w d ≡ step_to n written token w d
  same_step written token w null = refl
  same_step written token w (boolean b) = refl
  same_step written token w (number x) = refl
  same_step written token w (string s) = refl
  same_step written token w (array ds) = same_item written token w (array ds) (index_of token)
  same_step written token w (object ms) =
      let k = unescape token in
      let holds = in_member w.last w.within k in
      same_map (arrived m w holds (name k)) (arrived n w holds (name k)) (same_arrived w holds (name k)) (ok_or (pointer_to_nowhere written) (get_member k ms))

  same_walk : (written : List ℕ) (tokens : List (List ℕ)) (w : Walk) → walk m written tokens w ≡ walk n written tokens w
  same_walk written [] w = refl
  same_walk written (token ∷ tokens) w =
      ap (λ r. and_then r (walk m written tokens)) (same_step written token w w.contents)
      ∙ same_then (walk m written tokens) (walk n written tokens) (same_walk written tokens) (step_to n written token w w.contents)

  -- ---- lookup

  same_pointer : (s : Standing) (written decoded : List ℕ) → by_pointer m s written decoded ≡ by_pointer n s written decoded
  same_pointer s written decoded =
      ap (λ r. if is_utf8 decoded then result_map (ended s) r else Err (invalid_percent_encoding written))
      (same_walk written (behind_first (pieces 47 decoded)) (record { path = s.place.path; contents = s.place.contents; last = s.place; within = at_place }))

  same_anchor : (docs : Documents) (s : Standing) (k : List ℕ) → by_anchor m docs s k ≡ by_anchor n docs s k
  same_anchor docs s k =
      ap (λ o. if has 47 k then Err (invalid_anchor k) else result_map target_of (ok_or (no_such_anchor k) o))
      (same_last (bears_anchor anchors s.place.base k) docs)

  same_fragment : (docs : Documents) (f : List ℕ) (s : Standing) → by_fragment m docs s f ≡ by_fragment n docs s f
  same_fragment docs [] s = refl
  same_fragment docs (b ∷ f) s =
      ap₂ (λ pointed anchored. if b == 47 then pointed else anchored) (same_pointer s (b ∷ f) (percent_decode (b ∷ f))) (same_anchor docs s (b ∷ f))

  same_uri : (docs : Documents) (f uri : List ℕ)
      → and_then (ok_or (unretrievable uri) (bearer_under m docs uri)) (λ s. by_fragment m docs s f)
      ≡ and_then (ok_or (unretrievable uri) (bearer_under n docs uri)) (λ s. by_fragment n docs s f)
  same_uri docs f uri =
      ap (λ o. and_then (ok_or (unretrievable uri) o) (λ s. by_fragment m docs s f)) (same_last (bears uri) docs)
      ∙ same_then (λ s. by_fragment m docs s f) (λ s. by_fragment n docs s f) (same_fragment docs f) (ok_or (unretrievable uri) (bearer_under n docs uri))

  same_lookup : (docs : Documents) (base reference : List ℕ) → lookup_under m docs base reference ≡ lookup_under n docs base reference
  unfolding lookup_under
  same_lookup docs base reference =
      let c = cut_at 35 reference in
      let f = or [] c.1 in
      same_then
      (λ uri. and_then (ok_or (unretrievable uri) (bearer_under m docs uri)) (λ s. by_fragment m docs s f))
      (λ uri. and_then (ok_or (unretrievable uri) (bearer_under n docs uri)) (λ s. by_fragment n docs s f))
      (same_uri docs f) (ok_or (invalid_uri c.0) (resolved base c.0))

pub alike_tell : AlikeTell
alike_tell m n h = record {
  entry = same_entry m n h;
  root = begun m n h;
  below = same_below m n h;
  inside = same_inside m n h;
  standing = same_standing m n h;
  last = same_last m n h;
  bearers = λ docs uri. same_last m n h (bears uri) docs;
  anchored = λ docs base k. same_last m n h (bears_anchor anchors base k) docs;
  dynamic = λ docs base k. same_last m n h (bears_anchor dynamic_anchors base k) docs;
  walks = same_walk m n h;
  lookups = same_lookup m n h;
}
