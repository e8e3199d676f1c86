-- A walk along a pointer passes places that await nothing, so it is the same whatever is told of meta-schemas.
use Rattle.std.proofs.Common.{◌≡◌, ℕ, List, [], ◌∷◌, Bool, false, Option, Some, None, Result, Ok, Err, IfOk, refl, sym, ap, ◌∙◌, subst}
use Rattle.std.specs.List.{AllByRecursion}
use Rattle.std.specs.Prelude.{is_some, if◌then◌else◌}
use Rattle.serde_json.specs.Data.{Data, null, boolean, number, string, array, object, Items}
use Rattle.serde_json.specs.Find.{get_member, get_item, unescape}
use Rattle.json_values.specs.Parts.{Part, name, index}
use Rattle.json_values.specs.Pointers.{index_of}
use Rattle.schema_drafts.specs.Subschemas.{Holds, nothing, one, several, one_or_several, by_name}
use Rattle.schema_definitions.specs.Words.{result_map, ok_or, and_then}
use Rattle.schema_definitions.specs.Places.{Dialect, SchemaPlace, by_schema, schema_in_force, entered, held, children_in}
use Rattle.schema_definitions.specs.Lookup.{LookupCause, pointer_to_nowhere, Within, at_place, part_of, Walk, in_element, in_member, arrived, item_at, step_to, walk}
use Rattle.schema_dialects.specs.Unknown.{no_meta}
use Rattle.document_laws.proofs.Depths.{placed_contents, placed_path}
use Rattle.document_laws.proofs.Unmoved.{same_entered}
use Rattle.document_laws.proofs.Lasting.{KnownBelow, known_itself, known_children}
use Rattle.document_laws.proofs.Passing.{stops_at, at_item, at_member}
use Rattle.document_laws.proofs.Passing as passing

children_within : (p : SchemaPlace) → KnownBelow p → is_some p.awaits ≡ false → AllByRecursion KnownBelow (children_in no_meta p p.contents)
children_within p k goes = subst (λ (b : Bool). AllByRecursion KnownBelow (if b then [] else children_in no_meta p p.contents)) goes (known_children p k)

-- at a place that awaits its meta-schema it does not stand
goes_on : (p : SchemaPlace) (w : Within) → KnownBelow p → stops_at p w ≡ false
goes_on p at_place k = ap is_some (known_itself p k).nothing_awaited
goes_on p (part_of h) k = refl

abbrev Stands : Walk → Type 0
Stands w = passing.Stands no_meta KnownBelow w

-- ---- one step

-- two walks that are one, and stand
pub record SameWalk (v w : Walk) : Type 0 where
  pub same : v ≡ w
  pub stands : Stands w

module _ (meta : List ℕ → Option Dialect) where
  stays : (w : Walk) (h : Holds) (part : Part) (e : Data) → KnownBelow w.last → AllByRecursion KnownBelow (held no_meta w.last (part ∷ w.path) h e)
      → SameWalk (record { path = part ∷ w.path; contents = e; last = w.last; within = part_of h }) (record { path = part ∷ w.path; contents = e; last = w.last; within = part_of h })
  stays w h part e b k = record { same = refl; stands = record { last = b; here = k } }

  enters : (w : Walk) (part : Part) (e : Data) → KnownBelow (entered no_meta w.last.base w.last.dialect (part ∷ w.path) e)
      → SameWalk
      (record { path = part ∷ w.path; contents = e; last = entered meta w.last.base w.last.dialect (part ∷ w.path) e; within = at_place })
      (record { path = part ∷ w.path; contents = e; last = entered no_meta w.last.base w.last.dialect (part ∷ w.path) e; within = at_place })
  enters w part e b =
      let p = w.last in
      let path : List Part = part ∷ w.path in
      let named = by_schema no_meta p.dialect (schema_in_force p.dialect.siblings false e) in
      let arrive : SchemaPlace → Walk = λ q. record { path = path; contents = e; last = q; within = at_place } in
      record {
        same = ap arrive (same_entered meta p.base p.dialect path e (known_itself (entered no_meta p.base p.dialect path e) b));
        stands = record { last = b; here = (sym (placed_path p.base p.dialect path e named), sym (placed_contents p.base p.dialect path e named)) };
      }

  same_arrived : (w : Walk) (h : Holds) (part : Part) (e : Data) → KnownBelow w.last → AllByRecursion KnownBelow (held no_meta w.last (part ∷ w.path) h e)
      → SameWalk (arrived meta w h part e) (arrived no_meta w h part e)
  same_arrived w nothing part e b k = stays w nothing part e b k
  same_arrived w one part null b k = stays w one part null b k
  same_arrived w one part (boolean x) b k = enters w part (boolean x) k.0
  same_arrived w one part (number n) b k = stays w one part (number n) b k
  same_arrived w one part (string s) b k = stays w one part (string s) b k
  same_arrived w one part (array ds) b k = stays w one part (array ds) b k
  same_arrived w one part (object ms) b k = enters w part (object ms) k.0
  same_arrived w several part e b k = stays w several part e b k
  same_arrived w one_or_several part null b k = stays w one_or_several part null b k
  same_arrived w one_or_several part (boolean x) b k = enters w part (boolean x) k.0
  same_arrived w one_or_several part (number n) b k = stays w one_or_several part (number n) b k
  same_arrived w one_or_several part (string s) b k = stays w one_or_several part (string s) b k
  same_arrived w one_or_several part (array ds) b k = stays w one_or_several part (array ds) b k
  same_arrived w one_or_several part (object ms) b k = enters w part (object ms) k.0
  same_arrived w by_name part e b k = stays w by_name part e b k

  -- ---- steps that may lead nowhere

  pub record SameStep (r s : Result Walk LookupCause) : Type 0 where
    pub same : r ≡ s
    pub stands : IfOk s Stands

  refused : (cause : LookupCause) → SameStep (Err cause) (Err cause)
  refused cause = record { same = refl; stands = tt }

  if_found : (cause : LookupCause) (o : Option Data) (f g : Data → Walk) → ((e : Data) → o ≡ Some e → SameWalk (f e) (g e))
      → SameStep (result_map f (ok_or cause o)) (result_map g (ok_or cause o))
  if_found cause None f g each = refused cause
  if_found cause (Some e) f g each = (let s = each e refl in record { same = ap Ok s.same; stands = s.stands })

  same_item : (written token : List ℕ) (w : Walk) (ds : Items) (i : Option ℕ) → Stands w → w.contents ≡ array ds
      → SameStep (item_at meta written token w (array ds) i) (item_at no_meta written token w (array ds) i)
  same_item written token w ds None s is = record { same = refl; stands = tt }
  same_item written token w ds (Some i) s is =
      if_found (pointer_to_nowhere written) (get_item i ds) (arrived meta w (in_element w.within) (index i)) (arrived no_meta w (in_element w.within) (index i))
      (λ e g. same_arrived w (in_element w.within) (index i) e s.last (at_item no_meta KnownBelow w.last w.path w.contents w.within ds i e s.here is g))

  same_step : (written token : List ℕ) (w : Walk) (d : Data) → Stands w → w.contents ≡ d → SameStep (step_to meta written token w d) (step_to no_meta written token w d)
  same_step written token w null s is = refused (pointer_to_nowhere written)
  same_step written token w (boolean b) s is = refused (pointer_to_nowhere written)
  same_step written token w (number n) s is = refused (pointer_to_nowhere written)
  same_step written token w (string t) s is = refused (pointer_to_nowhere written)
  same_step written token w (array ds) s is = same_item written token w ds (index_of token) s is
  same_step written token w (object ms) s is =
      let k = unescape token in
      let h = in_member w.last w.within k in
      if_found (pointer_to_nowhere written) (get_member k ms) (arrived meta w h (name k)) (arrived no_meta w h (name k))
      (λ e g. same_arrived w h (name k) e s.last (at_member no_meta KnownBelow children_within w.last w.path w.contents w.within ms k e s.last (goes_on w.last w.within s.last) s.here is g))

  same_rest : (r s : Result Walk LookupCause) → SameStep r s → (f g : Walk → Result Walk LookupCause) → ((w : Walk) → Stands w → f w ≡ g w) → and_then r f ≡ and_then s g
  same_rest r (Ok w) h f g each = ap (λ x. and_then x f) h.same ∙ each w h.stands
  same_rest r (Err cause) h f g each = ap (λ x. and_then x f) h.same

  pub same_walk : (written : List ℕ) (tokens : List (List ℕ)) (w : Walk) → Stands w → walk meta written tokens w ≡ walk no_meta written tokens w
  same_walk written [] w s = refl
  same_walk written (token ∷ tokens) w s =
      same_rest (step_to meta written token w w.contents) (step_to no_meta written token w w.contents) (same_step written token w w.contents s refl)
      (walk meta written tokens) (walk no_meta written tokens) (same_walk written tokens)
