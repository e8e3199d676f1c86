-- The places below one are less deep.
use Rattle.std.proofs.Common.{◌<◌, ℕ, suc, List, [], ◌∷◌, Bool, true, false, if◌then◌else◌, Option, is_some, ap, arith}
use Rattle.std.specs.List.{AllByRecursion}
use Rattle.serde_json.specs.Data.{Data, null, boolean, number, string, array, object, Items, no_items, item, Members, no_members, member, depth, items_depth, members_depth}
use Rattle.json_values.specs.Parts.{Part, name, index}
use Rattle.schema_drafts.specs.Subschemas.{Holds, nothing, one, several, one_or_several, by_name, held_by}
use Rattle.schema_definitions.specs.Identifiers.{is_hidden}
use Rattle.schema_definitions.specs.Places.{Dialect, SchemaPlace, entered, if_schema, each_item, each_member, in_list, in_map, held, children_of, children_in, children}
use Rattle.schema_places.proofs.Entered.{entered-contents}
use Rattle.schema_places.proofs.Levels.{Falls, both}

abbrev pub height : SchemaPlace → ℕ
height p = depth p.contents

abbrev pub AllBelow : ℕ → List SchemaPlace → Type 0
AllBelow n ps = AllByRecursion (λ c. height c < n) ps

module _ (meta : List ℕ → Option Dialect) (p : SchemaPlace) (n : ℕ) where
  one-schema : (path : List Part) (d : Data) → depth d < n → AllBelow n (entered meta p.base p.dialect path d ∷ [])
  one-schema path d h = (omega (arith, h, ap depth (entered-contents meta p.base p.dialect path d)), tt)

  of-schema : (path : List Part) (d : Data) → depth d < n → AllBelow n (if_schema meta p path d)
  of-schema path null h = tt
  of-schema path (boolean b) h = one-schema path (boolean b) h
  of-schema path (number x) h = tt
  of-schema path (string s) h = tt
  of-schema path (array ds) h = tt
  of-schema path (object ms) h = one-schema path (object ms) h

  of-items : (path : List Part) (i : ℕ) (ds : Items) → items_depth ds < n → AllBelow n (each_item meta p path i ds)
  of-items path i no_items h = tt
  of-items path i (item d ds) h =
      both SchemaPlace height n (if_schema meta p (index i ∷ path) d) (each_item meta p path (suc i) ds) (of-schema (index i ∷ path) d (omega (arith, h))) (of-items path (suc i) ds (omega (arith, h)))

  of-members : (path : List Part) (ms : Members) → members_depth ms < n → AllBelow n (each_member meta p path ms)
  of-members path no_members h = tt
  of-members path (member k d ms) h =
      both SchemaPlace height n (if_schema meta p (name k ∷ path) d) (each_member meta p path ms) (of-schema (name k ∷ path) d (omega (arith, h))) (of-members path ms (omega (arith, h)))

  of-list : (path : List Part) (d : Data) → depth d < n → AllBelow n (in_list meta p path d)
  of-list path null h = tt
  of-list path (boolean b) h = tt
  of-list path (number x) h = tt
  of-list path (string s) h = tt
  of-list path (array ds) h = of-items path 0 ds (omega (arith, h))
  of-list path (object ms) h = tt

  of-map : (path : List Part) (d : Data) → depth d < n → AllBelow n (in_map meta p path d)
  of-map path null h = tt
  of-map path (boolean b) h = tt
  of-map path (number x) h = tt
  of-map path (string s) h = tt
  of-map path (array ds) h = tt
  of-map path (object ms) h = of-members path ms (omega (arith, h))

  of-held : (path : List Part) (h : Holds) (d : Data) → depth d < n → AllBelow n (held meta p path h d)
  of-held path nothing d h = tt
  of-held path one d h = of-schema path d h
  of-held path several d h = of-list path d h
  of-held path one_or_several d h = both SchemaPlace height n (if_schema meta p path d) (in_list meta p path d) (of-schema path d h) (of-list path d h)
  of-held path by_name d h = of-map path d h

  of-children : (hidden : Bool) (ms : Members) → members_depth ms < n → AllBelow n (children_of meta p hidden ms)
  of-children hidden no_members h = tt
  of-children hidden (member k d ms) h =
      let held_there : Holds = held_by p.dialect.draft hidden k in
      both SchemaPlace height n (held meta p (name k ∷ p.path) held_there d) (children_of meta p hidden ms) (of-held (name k ∷ p.path) held_there d (omega (arith, h))) (of-children hidden ms (omega (arith, h)))

in-data : (meta : List ℕ → Option Dialect) (p : SchemaPlace) (d : Data) → AllBelow (depth d) (children_in meta p d)
in-data meta p null = tt
in-data meta p (boolean b) = tt
in-data meta p (number x) = tt
in-data meta p (string s) = tt
in-data meta p (array ds) = tt
in-data meta p (object ms) = of-children meta p (suc (members_depth ms)) (is_hidden p.dialect (object ms)) ms (omega arith)

unless : (b : Bool) (ps : List SchemaPlace) (n : ℕ) → AllBelow n ps → AllBelow n (if b then [] else ps)
unless true ps n h = tt
unless false ps n h = h

pub falls : (meta : List ℕ → Option Dialect) → Falls SchemaPlace (children meta) height
falls meta = record { below = λ p. unless (is_some p.awaits) (children_in meta p p.contents) (height p) (in-data meta p p.contents) }
