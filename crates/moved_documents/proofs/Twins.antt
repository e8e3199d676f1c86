-- Schema places that differ in their paths alone, or in what else stands inside a value at their place: the places below them are such too.
use Rattle.std.proofs.Common.{◌≡◌, ℕ, suc, List, [], ◌∷◌, ◌++◌, Bool, true, false, if◌then◌else◌, Option, is_some, refl, ap, subst}
use Rattle.std.specs.List.{AllZip}
use Rattle.serde_json.specs.Data.{Data, null, boolean, number, string, array, object, Items, no_items, item, Members, no_members, member}
use Rattle.json_values.specs.Parts.{Part, name, index}
use Rattle.schema_drafts.specs.Subschemas.{Holds, nothing, one, several, one_or_several, by_name, held_by}
use Rattle.schema_meaning.specs.Members.{In, first, later}
use Rattle.schema_definitions.specs.Identifiers.{is_hidden}
use Rattle.schema_definitions.specs.Places.{Dialect, SchemaPlace, Named, settled, awaited, by_schema, schema_in_force, placed, if_schema, each_item, each_member, in_list, in_map, held, children_of, children_in, children}
use Rattle.schema_definitions.specs.Bearers.{is_root}
use Rattle.reading_laws.proofs.Results.{zip_append}

-- the same but for their paths
pub record Twin (p q : SchemaPlace) : Type 0 where
  pub contents : p.contents ≡ q.contents
  pub base : p.base ≡ q.base
  pub dialect : p.dialect ≡ q.dialect
  pub awaits : p.awaits ≡ q.awaits

-- how the paths of two places go together, and stay so with one part more
pub record Paths : Type 1 where
  pub along : List Part → List Part → Type 0
  pub next : (part : Part) (path path' : List Part) → along path path' → along (part ∷ path) (part ∷ path')

-- neither is a root, and their paths go together
pub record Below (r : Paths) (p q : SchemaPlace) : Type 0 where
  pub twin : Twin p q
  pub here : is_root p.path ≡ false
  pub there : is_root q.path ≡ false
  pub paths : r.along p.path q.path

abbrev pub same_paths : Paths
same_paths = record { along = λ path path'. path ≡ path'; next = λ part path path' e. ap (λ (q : List Part). part ∷ q) e }

-- a path that begins, from the root, with another
pub record IsUnder (above path : List Part) : Type 0 where
  pub parts : List Part
  pub is : path ≡ parts ++ above

-- the second path is the first, below another
abbrev pub paths_under : List Part → Paths
paths_under above = record { along = λ path path'. path' ≡ path ++ above; next = λ part path path' e. ap (λ (q : List Part). part ∷ q) e }

-- ---- lists one by one

pub in_zip : {A : Type 0} (R : A → A → Type 0) (x : A) (xs ys : List A) → AllZip R xs ys → In x xs → (y : A) × In y ys × R x y
in_zip R x [] ys z i = elim i [ ]
in_zip R x (w ∷ xs) [] z i = absurd z
in_zip R x (w ∷ xs) (y ∷ ys) z first = (y, first, z.0)
in_zip R x (w ∷ xs) (y ∷ ys) z (later i) = (let h = in_zip R x xs ys z.1 i in (h.0, later h.1, h.2))

pub zip_in : {A : Type 0} (R : A → A → Type 0) (y : A) (xs ys : List A) → AllZip R xs ys → In y ys → (x : A) × In x xs × R x y
zip_in R y xs [] z i = elim i [ ]
zip_in R y [] (w ∷ ys) z i = absurd z
zip_in R y (x ∷ xs) (w ∷ ys) z first = (x, first, z.0)
zip_in R y (x ∷ xs) (w ∷ ys) z (later i) = (let h = zip_in R y xs ys z.1 i in (h.0, later h.1, h.2))

-- ---- a place and another of the same base and dialect

placed_twin : (r : Paths) (outer : List ℕ) (around : Dialect) (path path' : List Part) (d : Data) (n : Named) → is_root path ≡ false → is_root path' ≡ false → r.along path path'
    → Below r (placed outer around path d n) (placed outer around path' d n)
placed_twin r outer around path path' d (settled dialect) h t a =
    record { twin = record { contents = refl; base = refl; dialect = refl; awaits = refl }; here = h; there = t; paths = a }
placed_twin r outer around path path' d (awaited uri) h t a =
    record { twin = record { contents = refl; base = refl; dialect = refl; awaits = refl }; here = h; there = t; paths = a }

module _ (meta : List ℕ → Option Dialect) (p : SchemaPlace) (elsewhere : List Part) (contents : Data) where
  abbrev pub another : SchemaPlace
  another = record { path = elsewhere; contents = contents; base = p.base; dialect = p.dialect; awaits = p.awaits }

  module _ (r : Paths) where
    abbrev AllBelow : List SchemaPlace → List SchemaPlace → Type 0
    AllBelow ps qs = AllZip (Below r) ps qs

    schemas : (path path' : List Part) (d : Data) → is_root path ≡ false → is_root path' ≡ false → r.along path path'
        → AllBelow (if_schema meta p path d) (if_schema meta another path' d)
    schemas path path' null h t a = tt
    schemas path path' (boolean b) h t a =
        (placed_twin r p.base p.dialect path path' (boolean b) (by_schema meta p.dialect (schema_in_force p.dialect.siblings false (boolean b))) h t a, tt)
    schemas path path' (number n) h t a = tt
    schemas path path' (string s) h t a = tt
    schemas path path' (array ds) h t a = tt
    schemas path path' (object ms) h t a =
        (placed_twin r p.base p.dialect path path' (object ms) (by_schema meta p.dialect (schema_in_force p.dialect.siblings false (object ms))) h t a, tt)

    items_below : (path path' : List Part) → r.along path path' → (i : ℕ) (ds : Items) → AllBelow (each_item meta p path i ds) (each_item meta another path' i ds)
    items_below path path' a i no_items = tt
    items_below path path' a i (item d ds) =
        zip_append (Below r) (if_schema meta p (index i ∷ path) d) (if_schema meta another (index i ∷ path') d) (each_item meta p path (suc i) ds) (each_item meta another path' (suc i) ds)
        (schemas (index i ∷ path) (index i ∷ path') d refl refl (r.next (index i) path path' a)) (items_below path path' a (suc i) ds)

    pub members_below : (path path' : List Part) → r.along path path' → (ms : Members) → AllBelow (each_member meta p path ms) (each_member meta another path' ms)
    members_below path path' a no_members = tt
    members_below path path' a (member k d ms) =
        zip_append (Below r) (if_schema meta p (name k ∷ path) d) (if_schema meta another (name k ∷ path') d) (each_member meta p path ms) (each_member meta another path' ms)
        (schemas (name k ∷ path) (name k ∷ path') d refl refl (r.next (name k) path path' a)) (members_below path path' a ms)

    list_below : (path path' : List Part) → r.along path path' → (d : Data) → AllBelow (in_list meta p path d) (in_list meta another path' d)
    list_below path path' a (array ds) = items_below path path' a 0 ds
    list_below path path' a d = tt

    map_below : (path path' : List Part) → r.along path path' → (d : Data) → AllBelow (in_map meta p path d) (in_map meta another path' d)
    map_below path path' a (object ms) = members_below path path' a ms
    map_below path path' a d = tt

    pub held_below : (path path' : List Part) (h : Holds) (d : Data) → is_root path ≡ false → is_root path' ≡ false → r.along path path'
        → AllBelow (held meta p path h d) (held meta another path' h d)
    held_below path path' nothing d h t a = tt
    held_below path path' one d h t a = schemas path path' d h t a
    held_below path path' several d h t a = list_below path path' a d
    held_below path path' one_or_several d h t a =
        zip_append (Below r) (if_schema meta p path d) (if_schema meta another path' d) (in_list meta p path d) (in_list meta another path' d) (schemas path path' d h t a)
        (list_below path path' a d)
    held_below path path' by_name d h t a = map_below path path' a d

    module _ (along : r.along p.path elsewhere) where
      pub all_below : (hidden : Bool) (ms : Members) → AllBelow (children_of meta p hidden ms) (children_of meta another hidden ms)
      all_below hidden no_members = tt
      all_below hidden (member k d ms) =
          zip_append (Below r) (held meta p (name k ∷ p.path) (held_by p.dialect.draft hidden k) d) (held meta another (name k ∷ elsewhere) (held_by p.dialect.draft hidden k) d)
          (children_of meta p hidden ms) (children_of meta another hidden ms)
          (held_below (name k ∷ p.path) (name k ∷ elsewhere) (held_by p.dialect.draft hidden k) d refl refl (r.next (name k) p.path elsewhere along)) (all_below hidden ms)

      inside_below : (d : Data) → AllBelow (children_in meta p d) (children_in meta another d)
      inside_below (object ms) = all_below (is_hidden p.dialect (object ms)) ms
      inside_below d = tt

-- the places below twins are twins
unless_awaits : (r : Paths) (b : Bool) (ps qs : List SchemaPlace) → AllZip (Below r) ps qs → AllZip (Below r) (if b then [] else ps) (if b then [] else qs)
unless_awaits r true ps qs z = tt
unless_awaits r false ps qs z = z

pub children_below : (r : Paths) (meta : List ℕ → Option Dialect) (p q : SchemaPlace) → Twin p q → r.along p.path q.path → AllZip (Below r) (children meta p) (children meta q)
children_below r meta p q t along =
    let same : another meta p q.path p.contents ≡ q =
    rw (t.contents, t.base, t.dialect, t.awaits) refl in
    subst (λ (x : SchemaPlace). AllZip (Below r) (children meta p) (children meta x)) same
    (unless_awaits r (is_some p.awaits) (children_in meta p p.contents) (children_in meta (another meta p q.path p.contents) p.contents)
    (inside_below meta p q.path p.contents r along p.contents))
