-- The contents of the places below a place.
use Rattle.std.proofs.Common.{◌≡◌, ℕ, suc, List, [], ◌∷◌, ◌++◌, Bool, false, Option, refl, ap, ◌∙◌}
use Rattle.serde_json.specs.Data.{Data, null, boolean, number, string, array, object, Items, no_items, item, Members, no_members, member}
use Rattle.json_values.specs.Parts.{Part, name, index}
use Rattle.schema_drafts.specs.Subschemas.{Holds, nothing, one, several, one_or_several, by_name, held_by}
use Rattle.schema_drafts.specs.Identifiers.{is_hidden}
use Rattle.schema_drafts.specs.Children as inside
use Rattle.schema_definitions.specs.Places.{Dialect, SchemaPlace, Named, settled, awaited, by_schema, schema_in_force, placed, if_schema, each_item, each_member, in_list, in_map, held, children_of, children_in}
use Rattle.document_laws.specs.Subschemas.{contents_of}

placed_contents : (outer : List ℕ) (around : Dialect) (path : List Part) (d : Data) (n : Named) → (placed outer around path d n).contents ≡ d
placed_contents outer around path d (settled dialect) = refl
placed_contents outer around path d (awaited uri) = refl

apart : (ps qs : List SchemaPlace) (ds es : List Data) → contents_of ps ≡ ds → contents_of qs ≡ es → contents_of (ps ++ qs) ≡ ds ++ es
apart [] qs ds es a b = b ∙ ap (λ xs. xs ++ es) a
apart (p ∷ ps) qs ds es a b = ap (λ xs. p.contents ∷ xs) (apart ps qs (contents_of ps) es refl b) ∙ ap (λ xs. xs ++ es) a

module _ (meta : List ℕ → Option Dialect) (p : SchemaPlace) where
  entered_contents : (path : List Part) (d : Data) → (placed p.base p.dialect path d (by_schema meta p.dialect (schema_in_force p.dialect.siblings false d))).contents ∷ [] ≡ d ∷ []
  entered_contents path d = ap (λ x. x ∷ []) (placed_contents p.base p.dialect path d (by_schema meta p.dialect (schema_in_force p.dialect.siblings false d)))

  one_contents : (path : List Part) (d : Data) → contents_of (if_schema meta p path d) ≡ inside.if_schema d
  one_contents path null = refl
  one_contents path (boolean b) = entered_contents path (boolean b)
  one_contents path (number n) = refl
  one_contents path (string s) = refl
  one_contents path (array ds) = refl
  one_contents path (object ms) = entered_contents path (object ms)

  item_contents : (path : List Part) (i : ℕ) (ds : Items) → contents_of (each_item meta p path i ds) ≡ inside.among_items ds
  item_contents path i no_items = refl
  item_contents path i (item d ds) =
      apart (if_schema meta p (index i ∷ path) d) (each_item meta p path (suc i) ds) (inside.if_schema d) (inside.among_items ds)
      (one_contents (index i ∷ path) d) (item_contents path (suc i) ds)

  member_contents : (path : List Part) (ms : Members) → contents_of (each_member meta p path ms) ≡ inside.among_members ms
  member_contents path no_members = refl
  member_contents path (member k d ms) =
      apart (if_schema meta p (name k ∷ path) d) (each_member meta p path ms) (inside.if_schema d) (inside.among_members ms)
      (one_contents (name k ∷ path) d) (member_contents path ms)

  list_contents : (path : List Part) (d : Data) → contents_of (in_list meta p path d) ≡ inside.in_list d
  list_contents path null = refl
  list_contents path (boolean b) = refl
  list_contents path (number n) = refl
  list_contents path (string s) = refl
  list_contents path (array ds) = item_contents path 0 ds
  list_contents path (object ms) = refl

  map_contents : (path : List Part) (d : Data) → contents_of (in_map meta p path d) ≡ inside.in_map d
  map_contents path null = refl
  map_contents path (boolean b) = refl
  map_contents path (number n) = refl
  map_contents path (string s) = refl
  map_contents path (array ds) = refl
  map_contents path (object ms) = member_contents path ms

  held_contents : (path : List Part) (h : Holds) (d : Data) → contents_of (held meta p path h d) ≡ inside.schemas_held h d
  held_contents path nothing d = refl
  held_contents path one d = one_contents path d
  held_contents path several d = list_contents path d
  held_contents path one_or_several d =
      apart (if_schema meta p path d) (in_list meta p path d) (inside.if_schema d) (inside.in_list d) (one_contents path d) (list_contents path d)
  held_contents path by_name d = map_contents path d

  members_contents : (hidden : Bool) (ms : Members) → contents_of (children_of meta p hidden ms) ≡ inside.of_members p.dialect.draft hidden ms
  members_contents hidden no_members = refl
  members_contents hidden (member k d ms) =
      let h = held_by p.dialect.draft hidden k in
      apart (held meta p (name k ∷ p.path) h d) (children_of meta p hidden ms) (inside.schemas_held h d) (inside.of_members p.dialect.draft hidden ms)
      (held_contents (name k ∷ p.path) h d) (members_contents hidden ms)

  pub children_contents : (d : Data) → contents_of (children_in meta p d) ≡ inside.subschemas p.dialect d
  children_contents null = refl
  children_contents (boolean b) = refl
  children_contents (number n) = refl
  children_contents (string s) = refl
  children_contents (array ds) = refl
  children_contents (object ms) = members_contents (is_hidden p.dialect (object ms)) ms
