-- Parts of a value, each with its path.
use Rattle.std.proofs.Common.{◌≡◌, ◌≤◌, ℕ, List, ◌∷◌, ◌++◌, true, nat_cmp, Some, is_some, Ordering, Less, Equal, Greater, refl, ap, arith}
use Rattle.std.specs.Cmp.Lexicographic.{slice_cmp}
use Rattle.std.specs.Ordering.{match_ordering}
use Rattle.serde_json.specs.Data.{Data, array, object, Items, Members, no_members, member, depth}
use Rattle.serde_json.specs.Find.{get_item, get_member}
use Rattle.json_values.specs.Parts.{Part, name, index}
use Rattle.json_values.proofs.Names.{get_same}
use Rattle.document_laws.proofs.Inside.{HoldsMember, here, behind, item_shallow, member_shallow, Inside, item_inside, member_inside}

-- a value that lies at a path, and what lies in it
pub data PartOf (d : Data) (from : List Part) : List Part → Data → Type 0 where
  itself : PartOf d from from d
  item_of : {path : List Part} {ds : Items} {e : Data} (i : ℕ) → PartOf d from path (array ds) → get_item i ds ≡ Some e → PartOf d from (index i ∷ path) e
  member_of : {path : List Part} {ms : Members} {e : Data} (k : List ℕ) → PartOf d from path (object ms) → HoldsMember k e ms → PartOf d from (name k ∷ path) e

pub part_shallow : (d : Data) (from path : List Part) (e : Data) → PartOf d from path e → depth e ≤ depth d
part_shallow d from _ _ itself = omega arith
part_shallow d from _ _ (item_of {path = path} {ds = ds} {e = e} i p g) =
    let outer = part_shallow d from path (array ds) p in
    let inner = item_shallow ds i e g in omega (arith, outer, inner)
part_shallow d from _ _ (member_of {path = path} {ms = ms} {e = e} k p g) =
    let outer = part_shallow d from path (object ms) p in
    let inner = member_shallow k e ms g in omega (arith, outer, inner)

-- what is inside a whole has its parts there
pub part_inside : (whole d : Data) (outer from path : List Part) (e : Data) → Inside whole (from ++ outer) d → PartOf d from path e → Inside whole (path ++ outer) e
part_inside whole d outer from _ _ i itself = i
part_inside whole d outer from _ _ i (item_of {path = path} {ds = ds} {e = e} n p g) =
    item_inside whole (path ++ outer) ds n e (part_inside whole d outer from path (array ds) i p) g
part_inside whole d outer from _ _ i (member_of {path = path} {ms = ms} {e = e} k p g) =
    member_inside whole (path ++ outer) ms k e (part_inside whole d outer from path (object ms) i p) g

-- a member stands under its name
pub held_stands : (k : List ℕ) (d : Data) (ms : Members) → HoldsMember k d ms → is_some (get_member k ms) ≡ true
held_stands k d no_members h = elim h [ ]
held_stands k d (member l e ms) here = ap is_some (get_same k k d ms refl)
held_stands k d (member l e ms) (behind h) = by (slice_cmp nat_cmp k l) (held_stands k d ms h)
  where
    by : (o : Ordering) → is_some (get_member k ms) ≡ true → is_some (match_ordering o (get_member k ms) (Some e) (get_member k ms)) ≡ true
    by Less rest = rest
    by Equal rest = refl
    by Greater rest = rest
