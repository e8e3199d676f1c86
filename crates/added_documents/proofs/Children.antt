-- Each of the places below a place is entered from it, with a value inside its contents.
use Rattle.std.proofs.Common.{◌≡◌, ℕ, suc, List, [], ◌∷◌, Bool, true, false, Option, refl, sym, subst}
use Rattle.std.specs.List.{AllByRecursion}
use Rattle.std.specs.Prelude.{is_some}
use Rattle.serde_json.specs.Data.{Data, null, boolean, number, string, array, object, Items, no_items, item, Members, no_members, member, depth}
use Rattle.json_values.specs.Parts.{Part, name, index}
use Rattle.schema_drafts.specs.Subschemas.{Holds, nothing, one, several, one_or_several, by_name, held_by}
use Rattle.schema_definitions.specs.Identifiers.{is_hidden}
use Rattle.schema_definitions.specs.Places.{Dialect, SchemaPlace, by_schema, schema_in_force, entered, root_place, if_schema, each_item, each_member, in_list, in_map, held, children_of, children_in, children, places}
use Rattle.document_laws.proofs.Lists.{joined, unless, by_levels}
use Rattle.document_laws.proofs.Depths.{placed_contents}
use Rattle.added_documents.specs.Added.{EachNamed, EachNamedIn, EachNamedAmong}

module _ (P : List ℕ → Type 0) (meta : List ℕ → Option Dialect) (p : SchemaPlace) where
  pub record IsEntered (c : SchemaPlace) : Type 0 where
    pub path : List Part
    pub contents : Data
    pub is : c ≡ entered meta p.base p.dialect path contents
    pub each : EachNamed P contents

  one_entered : (path : List Part) (d : Data) → EachNamed P d → AllByRecursion IsEntered (if_schema meta p path d)
  one_entered path null h = tt
  one_entered path (boolean b) h = (record { path = path; contents = boolean b; is = refl; each = h }, tt)
  one_entered path (number n) h = tt
  one_entered path (string s) h = tt
  one_entered path (array ds) h = tt
  one_entered path (object ms) h = (record { path = path; contents = object ms; is = refl; each = h }, tt)

  items_entered : (path : List Part) (i : ℕ) (ds : Items) → EachNamedIn P ds → AllByRecursion IsEntered (each_item meta p path i ds)
  items_entered path i no_items h = tt
  items_entered path i (item d ds) h =
      joined IsEntered (if_schema meta p (index i ∷ path) d) (each_item meta p path (suc i) ds)
      (one_entered (index i ∷ path) d h.0) (items_entered path (suc i) ds h.1)

  members_entered : (path : List Part) (ms : Members) → EachNamedAmong P ms → AllByRecursion IsEntered (each_member meta p path ms)
  members_entered path no_members h = tt
  members_entered path (member k d ms) h =
      joined IsEntered (if_schema meta p (name k ∷ path) d) (each_member meta p path ms)
      (one_entered (name k ∷ path) d h.0) (members_entered path ms h.1)

  list_entered : (path : List Part) (d : Data) → EachNamed P d → AllByRecursion IsEntered (in_list meta p path d)
  list_entered path null h = tt
  list_entered path (boolean b) h = tt
  list_entered path (number n) h = tt
  list_entered path (string s) h = tt
  list_entered path (array ds) h = items_entered path 0 ds h
  list_entered path (object ms) h = tt

  map_entered : (path : List Part) (d : Data) → EachNamed P d → AllByRecursion IsEntered (in_map meta p path d)
  map_entered path null h = tt
  map_entered path (boolean b) h = tt
  map_entered path (number n) h = tt
  map_entered path (string s) h = tt
  map_entered path (array ds) h = tt
  map_entered path (object ms) h = members_entered path ms h.1

  held_entered : (path : List Part) (holds : Holds) (d : Data) → EachNamed P d → AllByRecursion IsEntered (held meta p path holds d)
  held_entered path nothing d h = tt
  held_entered path one d h = one_entered path d h
  held_entered path several d h = list_entered path d h
  held_entered path one_or_several d h = joined IsEntered (if_schema meta p path d) (in_list meta p path d) (one_entered path d h) (list_entered path d h)
  held_entered path by_name d h = map_entered path d h

  each_entered : (hidden : Bool) (ms : Members) → EachNamedAmong P ms → AllByRecursion IsEntered (children_of meta p hidden ms)
  each_entered hidden no_members h = tt
  each_entered hidden (member k d ms) h =
      joined IsEntered (held meta p (name k ∷ p.path) (held_by p.dialect.draft hidden k) d) (children_of meta p hidden ms)
      (held_entered (name k ∷ p.path) (held_by p.dialect.draft hidden k) d h.0) (each_entered hidden ms h.1)

  pub inside_entered : (d : Data) → EachNamed P d → AllByRecursion IsEntered (children_in meta p d)
  inside_entered null h = tt
  inside_entered (boolean b) h = tt
  inside_entered (number n) h = tt
  inside_entered (string s) h = tt
  inside_entered (array ds) h = tt
  inside_entered (object ms) h = each_entered (is_hidden p.dialect (object ms)) ms h.1

-- ---- the values at places

module _ (P : List ℕ → Type 0) (meta : List ℕ → Option Dialect) where
  pub record NamedAt (p : SchemaPlace) : Type 0 where
    pub each : EachNamed P p.contents

  placed_named : (p c : SchemaPlace) → IsEntered P meta p c → NamedAt c
  placed_named p c h =
      let named = by_schema meta p.dialect (schema_in_force p.dialect.siblings false h.contents) in
      subst NamedAt (sym h.is)
      (record { each = subst (EachNamed P) (sym (placed_contents p.base p.dialect h.path h.contents named)) h.each })

  each_named : (p : SchemaPlace) (cs : List SchemaPlace) → AllByRecursion (IsEntered P meta p) cs → AllByRecursion NamedAt cs
  each_named p [] h = tt
  each_named p (c ∷ cs) h = (placed_named p c h.0, each_named p cs h.1)

  children_named : (p : SchemaPlace) → NamedAt p → AllByRecursion NamedAt (children meta p)
  children_named p h =
      unless NamedAt (is_some p.awaits) (children_in meta p p.contents)
      (each_named p (children_in meta p p.contents) (inside_entered P meta p p.contents h.each))

  pub places_named : (uri : List ℕ) (default : Dialect) (d : Data) → EachNamed P d → AllByRecursion NamedAt (places meta uri default d)
  unfolding places
  places_named uri default d h =
      let named = by_schema meta default (schema_in_force default.siblings true d) in
      let root : NamedAt (root_place meta uri default d) = record { each = subst (EachNamed P) (sym (placed_contents uri default [] d named)) h } in
      by_levels NamedAt (children meta) children_named (suc (depth d)) (root_place meta uri default d ∷ []) (root, tt)
