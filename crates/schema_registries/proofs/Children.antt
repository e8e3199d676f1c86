-- The places below a place lie below its path, with names that rise, and their paths part.
use Rattle.std.proofs.Common.{◌≡◌, ◌∙◌, ◌≤◌, ℕ, suc, List, [], ◌∷◌, ◌++◌, Bool, true, false, Option, Some, None, refl, sym, append_assoc, arith}
use Rattle.std.specs.Cmp.{first_so, second_so}
use Rattle.std.specs.List.{AllByRecursion}
use Rattle.std.specs.Prelude.{is_some, if◌then◌else◌}
use Rattle.serde_json.specs.Data.{Data, null, boolean, number, string, array, object, Items, no_items, item, Members, no_members, member}
use Rattle.serde_json.specs.Find.{get_member}
use Rattle.json_values.specs.Parts.{Part, name, index}
use Rattle.json_values.specs.Equality.{rises_from}
use Rattle.json_values.proofs.Names.{get_same, get_other}
use Rattle.json_values.proofs.Kept.{first_rise, behind_none}
use Rattle.schema_drafts.specs.Subschemas.{Holds, nothing, one, several, one_or_several, by_name, held_by}
use Rattle.schema_definitions.specs.Identifiers.{is_hidden}
use Rattle.schema_definitions.specs.Places.{Dialect, SchemaPlace, Named, settled, awaited, by_schema, schema_in_force, placed, entered, if_schema, each_item, each_member, in_list, in_map, held, children_of, children_in, children}
use Rattle.json_values.specs.Rising.{rises, are_rising, items_rise, members_rise}
use Rattle.document_laws.proofs.Lists.{joined, unless}
use Rattle.schema_registries.proofs.Lists.{each_implied, pairs_joined}
use Rattle.schema_registries.proofs.Levels.{PathsPart, PathsApart, IsChild}

abbrev pub path_of : SchemaPlace → List Part
path_of p = p.path

-- a place at this path or below, with names that rise
pub record Inside (path : List Part) (x : SchemaPlace) : Type 0 where
  pub parts : List Part
  pub is : x.path ≡ parts ++ path
  pub rising : rises x.contents ≡ true

-- one whose names rise
pub record Rises (x : SchemaPlace) : Type 0 where
  pub rising : rises x.contents ≡ true

-- in an item from the i-th on
record InLater (path : List Part) (i : ℕ) (x : SchemaPlace) : Type 0 where
  position : ℕ
  behind : i ≤ position
  inside : Inside (index position ∷ path) x

-- in a member of another name
record InOther (path : List Part) (k : List ℕ) (x : SchemaPlace) : Type 0 where
  other : List ℕ
  differs : k ≡ other → ⊥
  inside : Inside (name other ∷ path) x

further : (path : List Part) (part : Part) (x : SchemaPlace) → Inside (part ∷ path) x → Inside path x
further path part x h = record {
  parts = h.parts ++ part ∷ [];
  is = h.is ∙ sym (append_assoc h.parts (part ∷ []) path);
  rising = h.rising;
}

parted : (path : List Part) (a b : Part) (x y : SchemaPlace) → (a ≡ b → ⊥) → Inside (a ∷ path) x → Inside (b ∷ path) y → PathsPart path_of x y
parted path a b x y differ h g = record {
  apart = record { common = path; here = a; there = b; behind_here = h.parts; behind_there = g.parts; first = h.is; second = g.is; differ = differ };
}

lacks_first : (k l : List ℕ) (e : Data) (ms : Members) → get_member k (member l e ms) ≡ None → k ≡ l → ⊥
lacks_first k l e ms h same = (let no : None ≡ Some e = sym h ∙ get_same k l e ms same in cc)

lacks_rest : (k l : List ℕ) (e : Data) (ms : Members) → get_member k (member l e ms) ≡ None → get_member k ms ≡ None
lacks_rest k l e ms h = sym (get_other k l e ms (lacks_first k l e ms h)) ∙ h

rising_rest : (k : List ℕ) (ms : Members) → rises_from k ms ≡ true → are_rising ms ≡ true
rising_rest k no_members h = refl
rising_rest k (member l e ms) h = (first_rise k l e ms h).1

module _ (meta : List ℕ → Option Dialect) (p : SchemaPlace) where
  -- ---- where they lie

  placed_inside : (path : List Part) (d : Data) (n : Named) → rises d ≡ true → Inside path (placed p.base p.dialect path d n)
  placed_inside path d (settled dialect) r = record { parts = []; is = refl; rising = r }
  placed_inside path d (awaited uri) r = record { parts = []; is = refl; rising = r }

  entered_inside : (path : List Part) (d : Data) → rises d ≡ true → Inside path (entered meta p.base p.dialect path d)
  entered_inside path d r = placed_inside path d (by_schema meta p.dialect (schema_in_force p.dialect.siblings false d)) r

  schema_inside : (path : List Part) (d : Data) → rises d ≡ true → AllByRecursion (Inside path) (if_schema meta p path d)
  schema_inside path null r = tt
  schema_inside path (boolean b) r = (entered_inside path (boolean b) r, tt)
  schema_inside path (number n) r = tt
  schema_inside path (string s) r = tt
  schema_inside path (array ds) r = tt
  schema_inside path (object ms) r = (entered_inside path (object ms) r, tt)

  items_inside : (path : List Part) (i : ℕ) (ds : Items) → items_rise ds ≡ true → AllByRecursion (InLater path i) (each_item meta p path i ds)
  items_inside path i no_items r = tt
  items_inside path i (item d ds) r =
      let here = if_schema meta p (index i ∷ path) d in
      let rest = each_item meta p path (suc i) ds in
      joined (InLater path i) here rest
      (each_implied (Inside (index i ∷ path)) (InLater path i) here (λ x h. record { position = i; behind = omega arith; inside = h })
      (schema_inside (index i ∷ path) d (first_so (rises d) (items_rise ds) r)))
      (each_implied (InLater path (suc i)) (InLater path i) rest (λ x h. record { position = h.position; behind = omega (arith, h.behind); inside = h.inside })
      (items_inside path (suc i) ds (second_so (rises d) (items_rise ds) r)))

  members_inside : (path : List Part) (k : List ℕ) (ms : Members) → get_member k ms ≡ None → members_rise ms ≡ true
      → AllByRecursion (InOther path k) (each_member meta p path ms)
  members_inside path k no_members n r = tt
  members_inside path k (member l d ms) n r =
      let here = if_schema meta p (name l ∷ path) d in
      joined (InOther path k) here (each_member meta p path ms)
      (each_implied (Inside (name l ∷ path)) (InOther path k) here (λ x h. record { other = l; differs = lacks_first k l d ms n; inside = h })
      (schema_inside (name l ∷ path) d (first_so (rises d) (members_rise ms) r)))
      (members_inside path k ms (lacks_rest k l d ms n) (second_so (rises d) (members_rise ms) r))

  each_inside : (path : List Part) (ms : Members) → members_rise ms ≡ true → AllByRecursion (Inside path) (each_member meta p path ms)
  each_inside path no_members r = tt
  each_inside path (member l d ms) r =
      let here = if_schema meta p (name l ∷ path) d in
      joined (Inside path) here (each_member meta p path ms)
      (each_implied (Inside (name l ∷ path)) (Inside path) here (further path (name l)) (schema_inside (name l ∷ path) d (first_so (rises d) (members_rise ms) r)))
      (each_inside path ms (second_so (rises d) (members_rise ms) r))

  list_inside : (path : List Part) (d : Data) → rises d ≡ true → AllByRecursion (Inside path) (in_list meta p path d)
  list_inside path null r = tt
  list_inside path (boolean b) r = tt
  list_inside path (number n) r = tt
  list_inside path (string s) r = tt
  list_inside path (array ds) r =
      each_implied (InLater path 0) (Inside path) (each_item meta p path 0 ds) (λ x h. further path (index h.position) x h.inside) (items_inside path 0 ds r)
  list_inside path (object ms) r = tt

  map_inside : (path : List Part) (d : Data) → rises d ≡ true → AllByRecursion (Inside path) (in_map meta p path d)
  map_inside path null r = tt
  map_inside path (boolean b) r = tt
  map_inside path (number n) r = tt
  map_inside path (string s) r = tt
  map_inside path (array ds) r = tt
  map_inside path (object ms) r = each_inside path ms (second_so (are_rising ms) (members_rise ms) r)

  held_inside : (path : List Part) (h : Holds) (d : Data) → rises d ≡ true → AllByRecursion (Inside path) (held meta p path h d)
  held_inside path nothing d r = tt
  held_inside path one d r = schema_inside path d r
  held_inside path several d r = list_inside path d r
  held_inside path one_or_several d r = joined (Inside path) (if_schema meta p path d) (in_list meta p path d) (schema_inside path d r) (list_inside path d r)
  held_inside path by_name d r = map_inside path d r

  others_inside : (hidden : Bool) (k : List ℕ) (ms : Members) → get_member k ms ≡ None → members_rise ms ≡ true
      → AllByRecursion (InOther p.path k) (children_of meta p hidden ms)
  others_inside hidden k no_members n r = tt
  others_inside hidden k (member l d ms) n r =
      let h = held_by p.dialect.draft hidden l in
      let here = held meta p (name l ∷ p.path) h d in
      joined (InOther p.path k) here (children_of meta p hidden ms)
      (each_implied (Inside (name l ∷ p.path)) (InOther p.path k) here (λ x g. record { other = l; differs = lacks_first k l d ms n; inside = g })
      (held_inside (name l ∷ p.path) h d (first_so (rises d) (members_rise ms) r)))
      (others_inside hidden k ms (lacks_rest k l d ms n) (second_so (rises d) (members_rise ms) r))

  children_inside : (hidden : Bool) (ms : Members) → members_rise ms ≡ true → AllByRecursion (IsChild path_of Rises p) (children_of meta p hidden ms)
  children_inside hidden no_members r = tt
  children_inside hidden (member l d ms) r =
      let h = held_by p.dialect.draft hidden l in
      let here = held meta p (name l ∷ p.path) h d in
      joined (IsChild path_of Rises p) here (children_of meta p hidden ms)
      (each_implied (Inside (name l ∷ p.path)) (IsChild path_of Rises p) here
      (λ x g. record { lies = record { below = record { next = name l; more = g.parts; is = g.is } }; sound = record { rising = g.rising } })
      (held_inside (name l ∷ p.path) h d (first_so (rises d) (members_rise ms) r)))
      (children_inside hidden ms (second_so (rises d) (members_rise ms) r))

  contents_inside : (d : Data) → rises d ≡ true → AllByRecursion (IsChild path_of Rises p) (children_in meta p d)
  contents_inside null r = tt
  contents_inside (boolean b) r = tt
  contents_inside (number n) r = tt
  contents_inside (string s) r = tt
  contents_inside (array ds) r = tt
  contents_inside (object ms) r = children_inside (is_hidden p.dialect (object ms)) ms (second_so (are_rising ms) (members_rise ms) r)

  pub all_inside : Rises p → AllByRecursion (IsChild path_of Rises p) (children meta p)
  all_inside s = unless (IsChild path_of Rises p) (is_some p.awaits) (children_in meta p p.contents) (contents_inside p.contents s.rising)

  -- ---- their paths part

  schema_apart : (path : List Part) (d : Data) → PathsApart path_of (if_schema meta p path d)
  schema_apart path null = tt
  schema_apart path (boolean b) = (tt, tt)
  schema_apart path (number n) = tt
  schema_apart path (string s) = tt
  schema_apart path (array ds) = tt
  schema_apart path (object ms) = (tt, tt)

  items_apart : (path : List Part) (i : ℕ) (ds : Items) → items_rise ds ≡ true → PathsApart path_of (each_item meta p path i ds)
  items_apart path i no_items r = tt
  items_apart path i (item d ds) r =
      let here = if_schema meta p (index i ∷ path) d in
      let rest = each_item meta p path (suc i) ds in
      pairs_joined (PathsPart path_of) here rest (schema_apart (index i ∷ path) d) (items_apart path (suc i) ds (second_so (rises d) (items_rise ds) r))
      (each_implied (Inside (index i ∷ path)) (λ x. AllByRecursion (PathsPart path_of x) rest) here
      (λ x h. each_implied (InLater path (suc i)) (PathsPart path_of x) rest (λ y g. parted path (index i) (index g.position) x y (next i g.position g.behind) h g.inside)
      (items_inside path (suc i) ds (second_so (rises d) (items_rise ds) r)))
      (schema_inside (index i ∷ path) d (first_so (rises d) (items_rise ds) r)))
    where
      next : (i j : ℕ) → suc i ≤ j → index i ≡ index j → ⊥
      next i j behind e = (let same : i ≡ j = cc in omega (arith, behind, same))

  members_apart : (path : List Part) (ms : Members) → are_rising ms ≡ true → members_rise ms ≡ true → PathsApart path_of (each_member meta p path ms)
  members_apart path no_members g r = tt
  members_apart path (member k d ms) g r =
      let here = if_schema meta p (name k ∷ path) d in
      let rest = each_member meta p path ms in
      pairs_joined (PathsPart path_of) here rest (schema_apart (name k ∷ path) d) (members_apart path ms (rising_rest k ms g) (second_so (rises d) (members_rise ms) r))
      (each_implied (Inside (name k ∷ path)) (λ x. AllByRecursion (PathsPart path_of x) rest) here
      (λ x h. each_implied (InOther path k) (PathsPart path_of x) rest (λ y o. parted path (name k) (name o.other) x y (λ e. o.differs (let same : k ≡ o.other = cc in same)) h o.inside)
      (members_inside path k ms (behind_none k ms g) (second_so (rises d) (members_rise ms) r)))
      (schema_inside (name k ∷ path) d (first_so (rises d) (members_rise ms) r)))

  list_apart : (path : List Part) (d : Data) → rises d ≡ true → PathsApart path_of (in_list meta p path d)
  list_apart path null r = tt
  list_apart path (boolean b) r = tt
  list_apart path (number n) r = tt
  list_apart path (string s) r = tt
  list_apart path (array ds) r = items_apart path 0 ds r
  list_apart path (object ms) r = tt

  either_apart : (path : List Part) (d : Data) → rises d ≡ true → PathsApart path_of (held meta p path one_or_several d)
  either_apart path null r = tt
  either_apart path (boolean b) r = (tt, tt)
  either_apart path (number n) r = tt
  either_apart path (string s) r = tt
  either_apart path (array ds) r = items_apart path 0 ds r
  either_apart path (object ms) r = (tt, tt)

  map_apart : (path : List Part) (d : Data) → rises d ≡ true → PathsApart path_of (in_map meta p path d)
  map_apart path null r = tt
  map_apart path (boolean b) r = tt
  map_apart path (number n) r = tt
  map_apart path (string s) r = tt
  map_apart path (array ds) r = tt
  map_apart path (object ms) r = members_apart path ms (first_so (are_rising ms) (members_rise ms) r) (second_so (are_rising ms) (members_rise ms) r)

  held_apart : (path : List Part) (h : Holds) (d : Data) → rises d ≡ true → PathsApart path_of (held meta p path h d)
  held_apart path nothing d r = tt
  held_apart path one d r = schema_apart path d
  held_apart path several d r = list_apart path d r
  held_apart path one_or_several d r = either_apart path d r
  held_apart path by_name d r = map_apart path d r

  each_apart : (hidden : Bool) (ms : Members) → are_rising ms ≡ true → members_rise ms ≡ true → PathsApart path_of (children_of meta p hidden ms)
  each_apart hidden no_members g r = tt
  each_apart hidden (member k d ms) g r =
      let h = held_by p.dialect.draft hidden k in
      let here = held meta p (name k ∷ p.path) h d in
      let rest = children_of meta p hidden ms in
      pairs_joined (PathsPart path_of) here rest (held_apart (name k ∷ p.path) h d (first_so (rises d) (members_rise ms) r))
      (each_apart hidden ms (rising_rest k ms g) (second_so (rises d) (members_rise ms) r))
      (each_implied (Inside (name k ∷ p.path)) (λ x. AllByRecursion (PathsPart path_of x) rest) here
      (λ x i. each_implied (InOther p.path k) (PathsPart path_of x) rest (λ y o. parted p.path (name k) (name o.other) x y (λ e. o.differs (let same : k ≡ o.other = cc in same)) i o.inside)
      (others_inside hidden k ms (behind_none k ms g) (second_so (rises d) (members_rise ms) r)))
      (held_inside (name k ∷ p.path) h d (first_so (rises d) (members_rise ms) r)))

  contents_apart : (d : Data) → rises d ≡ true → PathsApart path_of (children_in meta p d)
  contents_apart null r = tt
  contents_apart (boolean b) r = tt
  contents_apart (number n) r = tt
  contents_apart (string s) r = tt
  contents_apart (array ds) r = tt
  contents_apart (object ms) r = each_apart (is_hidden p.dialect (object ms)) ms (first_so (are_rising ms) (members_rise ms) r) (second_so (are_rising ms) (members_rise ms) r)

  pub all_apart : Rises p → PathsApart path_of (children meta p)
  all_apart s = none_if (is_some p.awaits) (children_in meta p p.contents) (contents_apart p.contents s.rising)
    where
      none_if : (b : Bool) (xs : List SchemaPlace) → PathsApart path_of xs → PathsApart path_of (if b then [] else xs)
      none_if true xs h = tt
      none_if false xs h = h
