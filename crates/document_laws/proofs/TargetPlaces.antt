-- Every schema place of a document stands inside it.
use Rattle.std.proofs.Common.{◌≡◌, ◌+◌, ℕ, suc, List, [], ◌∷◌, Bool, true, false, Option, Some, refl, ap, ◌∙◌, arith}
use Rattle.std.specs.List.{AllByRecursion}
use Rattle.std.specs.Prelude.{is_some}
use Rattle.serde_json.specs.Data.{Data, null, boolean, number, string, array, object, Items, no_items, item, Members, no_members, member, depth}
use Rattle.serde_json.specs.Find.{get_item}
use Rattle.json_values.specs.Parts.{Part, name, index}
use Rattle.schema_drafts.specs.Subschemas.{Holds, nothing, one, several, one_or_several, by_name, held_by}
use Rattle.schema_definitions.specs.Identifiers.{is_hidden}
use Rattle.schema_definitions.specs.Places.{Dialect, SchemaPlace, Named, settled, awaited, by_schema, schema_in_force, placed, entered, root_place, if_schema, each_item, each_member, in_list, in_map, held, children_of, children_in, children, places}
use Rattle.document_laws.proofs.Lists.{joined, unless, by_levels}
use Rattle.document_laws.proofs.Inside.{Inside, HoldsMember, here, behind, itself, item_inside, member_inside}

-- a schema place inside a document
pub record PlaceInside (whole : Data) (p : SchemaPlace) : Type 0 where
  pub is : Inside whole p.path p.contents

-- the items stand in the others from i on
record From (i : ℕ) (ds all : Items) : Type 0 where
  found : (n : ℕ) (e : Data) → get_item n ds ≡ Some e → get_item (n + i) all ≡ Some e

from_first : (ds : Items) → From 0 ds ds
from_first ds = record {
  found = λ n e h. (let same : n + 0 ≡ n = omega arith in ap (λ (k : ℕ). get_item k ds) same ∙ h);
}

from_rest : (i : ℕ) (d : Data) (ds all : Items) → From i (item d ds) all → From (suc i) ds all
from_rest i d ds all f = record {
  found = λ n e h. (let same : n + suc i ≡ suc n + i = omega arith in ap (λ (k : ℕ). get_item k all) same ∙ f.found (suc n) e h);
}

from_here : (i : ℕ) (d : Data) (ds all : Items) → From i (item d ds) all → get_item i all ≡ Some d
from_here i d ds all f = (let same : i ≡ 0 + i = omega arith in ap (λ (k : ℕ). get_item k all) same ∙ f.found 0 d refl)

-- each of the first members is one of the others
record Among (ms all : Members) : Type 0 where
  found : (k : List ℕ) (e : Data) → HoldsMember k e ms → HoldsMember k e all

module _ (whole : Data) (meta : List ℕ → Option Dialect) where
  placed_inside : (outer : List ℕ) (around : Dialect) (path : List Part) (d : Data) (n : Named) → Inside whole path d
      → PlaceInside whole (placed outer around path d n)
  placed_inside outer around path d (settled dialect) i = record { is = i }
  placed_inside outer around path d (awaited uri) i = record { is = i }

  entered_inside : (p : SchemaPlace) (path : List Part) (d : Data) → Inside whole path d → PlaceInside whole (entered meta p.base p.dialect path d)
  entered_inside p path d i = placed_inside p.base p.dialect path d (by_schema meta p.dialect (schema_in_force p.dialect.siblings false d)) i

  schema_inside : (p : SchemaPlace) (path : List Part) (d : Data) → Inside whole path d → AllByRecursion (PlaceInside whole) (if_schema meta p path d)
  schema_inside p path null i = tt
  schema_inside p path (boolean b) i = (entered_inside p path (boolean b) i, tt)
  schema_inside p path (number n) i = tt
  schema_inside p path (string s) i = tt
  schema_inside p path (array ds) i = tt
  schema_inside p path (object ms) i = (entered_inside p path (object ms) i, tt)

  items_inside : (p : SchemaPlace) (path : List Part) (all : Items) → Inside whole path (array all) → (n : ℕ) (ds : Items) → From n ds all
      → AllByRecursion (PlaceInside whole) (each_item meta p path n ds)
  items_inside p path all i n no_items f = tt
  items_inside p path all i n (item d ds) f =
      joined (PlaceInside whole) (if_schema meta p (index n ∷ path) d) (each_item meta p path (suc n) ds)
      (schema_inside p (index n ∷ path) d (item_inside whole path all n d i (from_here n d ds all f)))
      (items_inside p path all i (suc n) ds (from_rest n d ds all f))

  members_inside : (p : SchemaPlace) (path : List Part) (all : Members) → Inside whole path (object all) → (ms : Members) → Among ms all
      → AllByRecursion (PlaceInside whole) (each_member meta p path ms)
  members_inside p path all i no_members a = tt
  members_inside p path all i (member k d ms) a =
      joined (PlaceInside whole) (if_schema meta p (name k ∷ path) d) (each_member meta p path ms)
      (schema_inside p (name k ∷ path) d (member_inside whole path all k d i (a.found k d here)))
      (members_inside p path all i ms (record { found = λ l e h. a.found l e (behind h) }))

  list_inside : (p : SchemaPlace) (path : List Part) (d : Data) → Inside whole path d → AllByRecursion (PlaceInside whole) (in_list meta p path d)
  list_inside p path null i = tt
  list_inside p path (boolean b) i = tt
  list_inside p path (number n) i = tt
  list_inside p path (string s) i = tt
  list_inside p path (array ds) i = items_inside p path ds i 0 ds (from_first ds)
  list_inside p path (object ms) i = tt

  map_inside : (p : SchemaPlace) (path : List Part) (d : Data) → Inside whole path d → AllByRecursion (PlaceInside whole) (in_map meta p path d)
  map_inside p path null i = tt
  map_inside p path (boolean b) i = tt
  map_inside p path (number n) i = tt
  map_inside p path (string s) i = tt
  map_inside p path (array ds) i = tt
  map_inside p path (object ms) i = members_inside p path ms i ms (record { found = λ k e h. h })

  held_inside : (p : SchemaPlace) (path : List Part) (h : Holds) (d : Data) → Inside whole path d → AllByRecursion (PlaceInside whole) (held meta p path h d)
  held_inside p path nothing d i = tt
  held_inside p path one d i = schema_inside p path d i
  held_inside p path several d i = list_inside p path d i
  held_inside p path one_or_several d i =
      joined (PlaceInside whole) (if_schema meta p path d) (in_list meta p path d) (schema_inside p path d i) (list_inside p path d i)
  held_inside p path by_name d i = map_inside p path d i

  each_inside : (p : SchemaPlace) (hidden : Bool) (all : Members) → Inside whole p.path (object all) → (ms : Members) → Among ms all
      → AllByRecursion (PlaceInside whole) (children_of meta p hidden ms)
  each_inside p hidden all i no_members a = tt
  each_inside p hidden all i (member k d ms) a =
      joined (PlaceInside whole) (held meta p (name k ∷ p.path) (held_by p.dialect.draft hidden k) d) (children_of meta p hidden ms)
      (held_inside p (name k ∷ p.path) (held_by p.dialect.draft hidden k) d (member_inside whole p.path all k d i (a.found k d here)))
      (each_inside p hidden all i ms (record { found = λ l e h. a.found l e (behind h) }))

  inside_inside : (p : SchemaPlace) (d : Data) → Inside whole p.path d → AllByRecursion (PlaceInside whole) (children_in meta p d)
  inside_inside p null i = tt
  inside_inside p (boolean b) i = tt
  inside_inside p (number n) i = tt
  inside_inside p (string s) i = tt
  inside_inside p (array ds) i = tt
  inside_inside p (object ms) i = each_inside p (is_hidden p.dialect (object ms)) ms i ms (record { found = λ k e h. h })

  children_inside : (p : SchemaPlace) → PlaceInside whole p → AllByRecursion (PlaceInside whole) (children meta p)
  children_inside p s = unless (PlaceInside whole) (is_some p.awaits) (children_in meta p p.contents) (inside_inside p p.contents s.is)

pub places_inside : (meta : List ℕ → Option Dialect) (uri : List ℕ) (default : Dialect) (d : Data) → AllByRecursion (PlaceInside d) (places meta uri default d)
unfolding places
places_inside meta uri default d =
    let root = placed_inside d meta uri default [] d (by_schema meta default (schema_in_force default.siblings true d)) (itself d) in
    by_levels (PlaceInside d) (children meta) (children_inside d meta) (suc (depth d)) (root_place meta uri default d ∷ []) (root, tt)
