-- The places below a place are less deep.
use Rattle.std.proofs.Common.{◌≡◌, ◌<◌, ℕ, suc, List, ◌∷◌, Bool, false, Option, refl, subst, sym, arith}
use Rattle.std.specs.List.{AllByRecursion}
use Rattle.std.specs.Prelude.{is_some}
use Rattle.serde_json.specs.Data.{Data, null, boolean, number, string, array, object, Items, no_items, item, Members, no_members, member, depth, items_depth, members_depth}
use Rattle.json_values.specs.Parts.{Part, name, index}
use Rattle.schema_drafts.specs.Subschemas.{Holds, nothing, one, several, one_or_several, by_name, held_by}
use Rattle.schema_definitions.specs.Identifiers.{is_hidden}
use Rattle.schema_definitions.specs.Places.{Dialect, SchemaPlace, Named, settled, awaited, by_schema, schema_in_force, placed, entered, if_schema, each_item, each_member, in_list, in_map, held, children_of, children_in, children}
use Rattle.document_laws.proofs.Lists.{joined, unless}

pub placed_contents : (outer : List ℕ) (around : Dialect) (path : List Part) (d : Data) (n : Named) → (placed outer around path d n).contents ≡ d
placed_contents outer around path d (settled dialect) = refl
placed_contents outer around path d (awaited uri) = refl

pub placed_path : (outer : List ℕ) (around : Dialect) (path : List Part) (d : Data) (n : Named) → (placed outer around path d n).path ≡ path
placed_path outer around path d (settled dialect) = refl
placed_path outer around path d (awaited uri) = refl

-- the trees of these places are less deep than n
pub record Shallow (n : ℕ) (p : SchemaPlace) : Type 0 where
  pub is : depth p.contents < n

module _ (meta : List ℕ → Option Dialect) (n : ℕ) where
  entered_shallow : (p : SchemaPlace) (path : List Part) (d : Data) → depth d < n → Shallow n (entered meta p.base p.dialect path d)
  entered_shallow p path d h =
      record { is = subst (λ c. depth c < n) (sym (placed_contents p.base p.dialect path d (by_schema meta p.dialect (schema_in_force p.dialect.siblings false d)))) h }

  schema_shallow : (p : SchemaPlace) (path : List Part) (d : Data) → depth d < n → AllByRecursion (Shallow n) (if_schema meta p path d)
  schema_shallow p path null h = tt
  schema_shallow p path (boolean b) h = (entered_shallow p path (boolean b) h, tt)
  schema_shallow p path (number m) h = tt
  schema_shallow p path (string s) h = tt
  schema_shallow p path (array ds) h = tt
  schema_shallow p path (object ms) h = (entered_shallow p path (object ms) h, tt)

  items_shallow : (p : SchemaPlace) (path : List Part) (i : ℕ) (ds : Items) → items_depth ds < n → AllByRecursion (Shallow n) (each_item meta p path i ds)
  items_shallow p path i no_items h = tt
  items_shallow p path i (item d ds) h =
      joined (Shallow n) (if_schema meta p (index i ∷ path) d) (each_item meta p path (suc i) ds)
      (schema_shallow p (index i ∷ path) d (omega (arith, h))) (items_shallow p path (suc i) ds (omega (arith, h)))

  members_shallow : (p : SchemaPlace) (path : List Part) (ms : Members) → members_depth ms < n → AllByRecursion (Shallow n) (each_member meta p path ms)
  members_shallow p path no_members h = tt
  members_shallow p path (member k d ms) h =
      joined (Shallow n) (if_schema meta p (name k ∷ path) d) (each_member meta p path ms)
      (schema_shallow p (name k ∷ path) d (omega (arith, h))) (members_shallow p path ms (omega (arith, h)))

  list_shallow : (p : SchemaPlace) (path : List Part) (d : Data) → depth d < n → AllByRecursion (Shallow n) (in_list meta p path d)
  list_shallow p path null h = tt
  list_shallow p path (boolean b) h = tt
  list_shallow p path (number m) h = tt
  list_shallow p path (string s) h = tt
  list_shallow p path (array ds) h = items_shallow p path 0 ds (omega (arith, h))
  list_shallow p path (object ms) h = tt

  map_shallow : (p : SchemaPlace) (path : List Part) (d : Data) → depth d < n → AllByRecursion (Shallow n) (in_map meta p path d)
  map_shallow p path null h = tt
  map_shallow p path (boolean b) h = tt
  map_shallow p path (number m) h = tt
  map_shallow p path (string s) h = tt
  map_shallow p path (array ds) h = tt
  map_shallow p path (object ms) h = members_shallow p path ms (omega (arith, h))

  held_shallow : (p : SchemaPlace) (path : List Part) (h : Holds) (d : Data) → depth d < n → AllByRecursion (Shallow n) (held meta p path h d)
  held_shallow p path nothing d h = tt
  held_shallow p path one d h = schema_shallow p path d h
  held_shallow p path several d h = list_shallow p path d h
  held_shallow p path one_or_several d h =
      joined (Shallow n) (if_schema meta p path d) (in_list meta p path d) (schema_shallow p path d h) (list_shallow p path d h)
  held_shallow p path by_name d h = map_shallow p path d h

  each_shallow : (p : SchemaPlace) (hidden : Bool) (ms : Members) → members_depth ms < n → AllByRecursion (Shallow n) (children_of meta p hidden ms)
  each_shallow p hidden no_members h = tt
  each_shallow p hidden (member k d ms) h =
      joined (Shallow n) (held meta p (name k ∷ p.path) (held_by p.dialect.draft hidden k) d) (children_of meta p hidden ms)
      (held_shallow p (name k ∷ p.path) (held_by p.dialect.draft hidden k) d (omega (arith, h))) (each_shallow p hidden ms (omega (arith, h)))

  inside_shallow : (p : SchemaPlace) (d : Data) → depth d < suc n → AllByRecursion (Shallow n) (children_in meta p d)
  inside_shallow p null h = tt
  inside_shallow p (boolean b) h = tt
  inside_shallow p (number m) h = tt
  inside_shallow p (string s) h = tt
  inside_shallow p (array ds) h = tt
  inside_shallow p (object ms) h = each_shallow p (is_hidden p.dialect (object ms)) ms (omega (arith, h))

  pub children_shallow : (p : SchemaPlace) → Shallow (suc n) p → AllByRecursion (Shallow n) (children meta p)
  children_shallow p s = unless (Shallow n) (is_some p.awaits) (children_in meta p p.contents) (inside_shallow p p.contents s.is)
