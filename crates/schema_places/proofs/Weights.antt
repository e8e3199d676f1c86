-- The places below one have together fewer nodes than it has.
use Rattle.std.proofs.Common.{◌<◌, ◌≤◌, ◌+◌, ℕ, suc, List, [], ◌∷◌, ◌++◌, Bool, true, false, if◌then◌else◌, Option, is_some, ap, arith}
use Rattle.std.specs.List.{sum_by}
use Rattle.std.proofs.lemmas.List.Sums.{sum_by-append}
use Rattle.serde_json.specs.Data.{Data, null, boolean, number, string, array, object, Items, no_items, item, Members, no_members, member}
use Rattle.json_values.specs.Parts.{Part, name, index}
use Rattle.schema_drafts.specs.Subschemas.{Holds, nothing, one, several, one_or_several, by_name, held_by}
use Rattle.schema_definitions.specs.Identifiers.{is_hidden}
use Rattle.schema_definitions.specs.Places.{Dialect, SchemaPlace, entered, if_schema, each_item, each_member, in_list, in_map, held, children_of, children_in, children}
use Rattle.schema_places.proofs.Entered.{entered-contents}
use Rattle.schema_places.proofs.Queues.{Shrinks}

abbrev mutual
  pub nodes : Data → ℕ
  nodes null = 1
  nodes (boolean b) = 1
  nodes (number n) = 1
  nodes (string s) = 1
  nodes (array ds) = suc (nodes_of_items ds)
  nodes (object ms) = suc (nodes_of_members ms)

  pub nodes_of_items : Items → ℕ
  nodes_of_items no_items = 0
  nodes_of_items (item d ds) = nodes d + nodes_of_items ds

  pub nodes_of_members : Members → ℕ
  nodes_of_members no_members = 0
  nodes_of_members (member k d ms) = nodes d + nodes_of_members ms

abbrev pub size : SchemaPlace → ℕ
size p = nodes p.contents

module _ (meta : List ℕ → Option Dialect) (p : SchemaPlace) where
  one-schema : (path : List Part) (d : Data) → sum_by size (entered meta p.base p.dialect path d ∷ []) ≤ nodes d
  one-schema path d = omega (arith, ap nodes (entered-contents meta p.base p.dialect path d))

  of-schema : (path : List Part) (d : Data) → sum_by size (if_schema meta p path d) ≤ nodes d
  of-schema path null = omega arith
  of-schema path (boolean b) = one-schema path (boolean b)
  of-schema path (number n) = omega arith
  of-schema path (string s) = omega arith
  of-schema path (array ds) = omega arith
  of-schema path (object ms) = one-schema path (object ms)

  of-items : (path : List Part) (i : ℕ) (ds : Items) → sum_by size (each_item meta p path i ds) ≤ nodes_of_items ds
  of-items path i no_items = omega arith
  of-items path i (item d ds) = omega (arith, sum_by-append size (if_schema meta p (index i ∷ path) d) (each_item meta p path (suc i) ds), of-schema (index i ∷ path) d, of-items path (suc i) ds)

  of-members : (path : List Part) (ms : Members) → sum_by size (each_member meta p path ms) ≤ nodes_of_members ms
  of-members path no_members = omega arith
  of-members path (member k d ms) = omega (arith, sum_by-append size (if_schema meta p (name k ∷ path) d) (each_member meta p path ms), of-schema (name k ∷ path) d, of-members path ms)

  of-list : (path : List Part) (d : Data) → sum_by size (in_list meta p path d) ≤ nodes d
  of-list path null = omega arith
  of-list path (boolean b) = omega arith
  of-list path (number n) = omega arith
  of-list path (string s) = omega arith
  of-list path (array ds) = omega (arith, of-items path 0 ds)
  of-list path (object ms) = omega arith

  of-map : (path : List Part) (d : Data) → sum_by size (in_map meta p path d) ≤ nodes d
  of-map path null = omega arith
  of-map path (boolean b) = omega arith
  of-map path (number n) = omega arith
  of-map path (string s) = omega arith
  of-map path (array ds) = omega arith
  of-map path (object ms) = omega (arith, of-members path ms)

  -- a schema or a list, never both
  of-either : (path : List Part) (d : Data) → sum_by size (if_schema meta p path d ++ in_list meta p path d) ≤ nodes d
  of-either path null = omega arith
  of-either path (boolean b) = one-schema path (boolean b)
  of-either path (number n) = omega arith
  of-either path (string s) = omega arith
  of-either path (array ds) = of-list path (array ds)
  of-either path (object ms) = one-schema path (object ms)

  of-held : (path : List Part) (h : Holds) (d : Data) → sum_by size (held meta p path h d) ≤ nodes d
  of-held path nothing d = omega arith
  of-held path one d = of-schema path d
  of-held path several d = of-list path d
  of-held path one_or_several d = of-either path d
  of-held path by_name d = of-map path d

  of-children : (hidden : Bool) (ms : Members) → sum_by size (children_of meta p hidden ms) ≤ nodes_of_members ms
  of-children hidden no_members = omega arith
  of-children hidden (member k d ms) =
      let h : Holds = held_by p.dialect.draft hidden k in
      omega (arith, sum_by-append size (held meta p (name k ∷ p.path) h d) (children_of meta p hidden ms), of-held (name k ∷ p.path) h d, of-children hidden ms)

  in-data : (d : Data) → sum_by size (children_in meta p d) < nodes d
  in-data null = omega arith
  in-data (boolean b) = omega arith
  in-data (number n) = omega arith
  in-data (string s) = omega arith
  in-data (array ds) = omega arith
  in-data (object ms) = omega (arith, of-children (is_hidden p.dialect (object ms)) ms)

unless : (b : Bool) (ps : List SchemaPlace) (n : ℕ) → sum_by size ps < n → sum_by size (if b then [] else ps) < n
unless true ps n h = omega (arith, h)
unless false ps n h = h

pub shrinks : (meta : List ℕ → Option Dialect) → Shrinks SchemaPlace (children meta) size
shrinks meta = record { less = λ p. unless (is_some p.awaits) (children_in meta p p.contents) (size p) (in-data meta p p.contents) }
