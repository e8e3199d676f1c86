-- A walk along a pointer stays inside the document.
use Rattle.std.proofs.Common.{◌≡◌, ℕ, List, [], ◌∷◌, Bool, true, false, Option, Some, None, IfOk, refl}
use Rattle.std.specs.Prelude.{if◌then◌else◌}
use Rattle.serde_json.specs.Data.{Data, null, boolean, number, string, array, object, Items, Members}
use Rattle.serde_json.specs.Find.{get_member, get_item, unescape}
use Rattle.json_values.specs.Parts.{Part, name, index}
use Rattle.json_values.specs.Pointers.{index_of}
use Rattle.schema_drafts.specs.Subschemas.{Holds}
use Rattle.schema_definitions.specs.Words.{result_map, ok_or}
use Rattle.schema_definitions.specs.Places.{Dialect, entered}
use Rattle.schema_definitions.specs.Lookup.{LookupCause, pointer_to_nowhere, Walk, at_place, part_of, holds_schema, in_element, in_member, arrived, item_at, step_to, walk}
use Rattle.document_laws.proofs.Results.{ok_next}
use Rattle.document_laws.proofs.Inside.{Inside, held_found, item_inside, member_inside}

-- a walk that stands inside a document
pub record WalkInside (whole : Data) (w : Walk) : Type 0 where
  pub is : Inside whole w.path w.contents

module _ (whole : Data) (meta : List ℕ → Option Dialect) where
  either : (b : Bool) (v w : Walk) → WalkInside whole v → WalkInside whole w → WalkInside whole (if b then v else w)
  either true v w h g = h
  either false v w h g = g

  arrived_inside : (w : Walk) (h : Holds) (part : Part) (e : Data) → Inside whole (part ∷ w.path) e → WalkInside whole (arrived meta w h part e)
  arrived_inside w h part e i =
      either (holds_schema h e)
      (record { path = part ∷ w.path; contents = e; last = entered meta w.last.base w.last.dialect (part ∷ w.path) e; within = at_place })
      (record { path = part ∷ w.path; contents = e; last = w.last; within = part_of h })
      (record { is = i }) (record { is = i })

  if_found : (cause : LookupCause) (o : Option Data) (f : Data → Walk) → ((e : Data) → o ≡ Some e → WalkInside whole (f e))
      → IfOk (result_map f (ok_or cause o)) (WalkInside whole)
  if_found cause None f each = tt
  if_found cause (Some e) f each = each e refl

  item_reached : (written token : List ℕ) (w : Walk) (ds : Items) (i : Option ℕ) → Inside whole w.path (array ds)
      → IfOk (item_at meta written token w (array ds) i) (WalkInside whole)
  item_reached written token w ds None s = tt
  item_reached written token w ds (Some i) s =
      if_found (pointer_to_nowhere written) (get_item i ds) (arrived meta w (in_element w.within) (index i))
      (λ e g. arrived_inside w (in_element w.within) (index i) e (item_inside whole w.path ds i e s g))

  member_reached : (written : List ℕ) (w : Walk) (k : List ℕ) (ms : Members) → Inside whole w.path (object ms)
      → IfOk (result_map (arrived meta w (in_member w.last w.within k) (name k)) (ok_or (pointer_to_nowhere written) (get_member k ms))) (WalkInside whole)
  member_reached written w k ms s =
      if_found (pointer_to_nowhere written) (get_member k ms) (arrived meta w (in_member w.last w.within k) (name k))
      (λ e g. arrived_inside w (in_member w.last w.within k) (name k) e (member_inside whole w.path ms k e s (held_found k e ms g)))

  step_inside : (written token : List ℕ) (w : Walk) (d : Data) → Inside whole w.path d → IfOk (step_to meta written token w d) (WalkInside whole)
  step_inside written token w null s = tt
  step_inside written token w (boolean b) s = tt
  step_inside written token w (number n) s = tt
  step_inside written token w (string t) s = tt
  step_inside written token w (array ds) s = item_reached written token w ds (index_of token) s
  step_inside written token w (object ms) s = member_reached written w (unescape token) ms s

  pub walk_inside : (written : List ℕ) (tokens : List (List ℕ)) (w : Walk) → WalkInside whole w → IfOk (walk meta written tokens w) (WalkInside whole)
  walk_inside written [] w i = i
  walk_inside written (token ∷ tokens) w i =
      ok_next (WalkInside whole) (WalkInside whole) (step_to meta written token w w.contents) (walk meta written tokens)
      (step_inside written token w w.contents i.is) (walk_inside written tokens)
