-- Each schema place of a document whose names rise is reached along its path.
use Rattle.std.proofs.Common.{◌≡◌, ◌∙◌, ℕ, suc, List, [], ◌∷◌, Bool, true, false, if◌then◌else◌, Option, Some, refl, ap, subst}
use Rattle.std.specs.Cmp.{first_so, second_so}
use Rattle.std.specs.List.{AllByRecursion}
use Rattle.std.specs.Prelude.{is_some, option_map}
use Rattle.serde_json.specs.Data.{Data, null, boolean, number, string, array, object, Items, no_items, item, Members, no_members, member, depth}
use Rattle.json_values.specs.Parts.{Part, name, index}
use Rattle.json_values.specs.Pointers.{value_in}
use Rattle.json_values.specs.Rising.{rises, are_rising, items_rise, members_rise}
use Rattle.json_values.proofs.Names.{get_same}
use Rattle.schema_drafts.specs.Subschemas.{Holds, nothing, one, several, one_or_several, by_name, held_by}
use Rattle.schema_definitions.specs.Identifiers.{is_hidden}
use Rattle.schema_definitions.specs.Places.{Dialect, SchemaPlace, Named, settled, awaited, by_schema, schema_in_force, is_schema, placed, entered, root_place, if_schema, each_item, each_member, in_list, in_map, held, children_of, children_in, children, places}
use Rattle.schema_definitions.specs.Lookup.{Walk, at_place, part_of, holds_schema, in_element, arrived}
use Rattle.document_laws.proofs.Lists.{joined, by_levels}
use Rattle.document_laws.proofs.Leading.{Among, among_itself, among_rest, rising_rest, From, from_first, from_rest, from_here}
use Rattle.document_laws.proofs.Depths.{placed_contents, placed_path}
use Rattle.document_laws.proofs.Reaching.{start, stops, held_in, reach, passed}

module _ (meta : List ℕ → Option Dialect) (root : SchemaPlace) where
  abbrev pub Meets : List Part → Walk → Type 0
  Meets path w = reach meta (start root) path ≡ Some w

  -- a place that is reached along its path, with names that rise
  pub record Arrives (p : SchemaPlace) : Type 0 where
    pub there : Meets p.path (start p)
    pub rising : rises p.contents ≡ true

  -- a value below a place, by what a member or an item of its kind holds
  abbrev come : SchemaPlace → Holds → List Part → Data → Walk
  come p h path e =
      if holds_schema h e
      then record { path = path; contents = e; last = entered meta p.base p.dialect path e; within = at_place }
      else record { path = path; contents = e; last = p; within = part_of h }

  abbrev inner : SchemaPlace → Holds → List Part → Data → Walk
  inner p h path e = record { path = path; contents = e; last = p; within = part_of h }

  meets_next : (w : Walk) (path : List Part) → Meets path w → stops w ≡ false → (part : Part) (e : Data) → value_in part w.contents ≡ Some e
      → Meets (part ∷ path) (arrived meta w (held_in w part) part e)
  meets_next w path m goes part e v = passed meta (start root) w path m goes part ∙ ap (option_map (arrived meta w (held_in w part) part)) v

  -- ---- one place

  placed_arrives : (outer : List ℕ) (around : Dialect) (path : List Part) (d : Data) (n : Named)
      → Meets path (record { path = path; contents = d; last = placed outer around path d n; within = at_place }) → rises d ≡ true
      → Arrives (placed outer around path d n)
  placed_arrives outer around path d (settled dialect) m r = record { there = m; rising = r }
  placed_arrives outer around path d (awaited uri) m r = record { there = m; rising = r }

  entered_arrives : (p : SchemaPlace) (h : Holds) (path : List Part) (d : Data) → holds_schema h d ≡ true → Meets path (come p h path d) → rises d ≡ true
      → Arrives (entered meta p.base p.dialect path d)
  entered_arrives p h path d schema m r =
      placed_arrives p.base p.dialect path d (by_schema meta p.dialect (schema_in_force p.dialect.siblings false d))
      (subst (λ b. Meets path (if b then record { path = path; contents = d; last = entered meta p.base p.dialect path d; within = at_place } else inner p h path d)) schema m) r

  -- where a schema of its own holds one
  schema_arrives : (p : SchemaPlace) (h : Holds) → ((e : Data) → holds_schema h e ≡ is_schema e) → (path : List Part) (d : Data) → Meets path (come p h path d)
      → rises d ≡ true → AllByRecursion Arrives (if_schema meta p path d)
  schema_arrives p h same path null m r = tt
  schema_arrives p h same path (boolean b) m r = (entered_arrives p h path (boolean b) (same (boolean b)) m r, tt)
  schema_arrives p h same path (number n) m r = tt
  schema_arrives p h same path (string s) m r = tt
  schema_arrives p h same path (array ds) m r = tt
  schema_arrives p h same path (object ms) m r = (entered_arrives p h path (object ms) (same (object ms)) m r, tt)

  -- ---- the places that a member holds

  items_arrive : (p : SchemaPlace) (h : Holds) → in_element (part_of h) ≡ one → (path : List Part) (all : Items) → Meets path (inner p h path (array all))
      → (i : ℕ) (ds : Items) → From i ds all → items_rise ds ≡ true → AllByRecursion Arrives (each_item meta p path i ds)
  items_arrive p h same path all m i no_items f r = tt
  items_arrive p h same path all m i (item d ds) f r =
      let next : Meets (index i ∷ path) (come p (in_element (part_of h)) (index i ∷ path) d) =
      meets_next (inner p h path (array all)) path m refl (index i) d (from_here i d ds all f) in
      joined Arrives (if_schema meta p (index i ∷ path) d) (each_item meta p path (suc i) ds)
      (schema_arrives p one (λ e. refl) (index i ∷ path) d (subst (λ k. Meets (index i ∷ path) (come p k (index i ∷ path) d)) same next) (first_so (rises d) (items_rise ds) r))
      (items_arrive p h same path all m (suc i) ds (from_rest i d ds all f) (second_so (rises d) (items_rise ds) r))

  members_arrive : (p : SchemaPlace) (path : List Part) (all : Members) → Meets path (inner p by_name path (object all)) → (ms : Members) → Among ms all
      → are_rising ms ≡ true → members_rise ms ≡ true → AllByRecursion Arrives (each_member meta p path ms)
  members_arrive p path all m no_members a g r = tt
  members_arrive p path all m (member k d ms) a g r =
      let next : Meets (name k ∷ path) (come p one (name k ∷ path) d) =
      meets_next (inner p by_name path (object all)) path m refl (name k) d (a.found k d (get_same k k d ms refl)) in
      joined Arrives (if_schema meta p (name k ∷ path) d) (each_member meta p path ms)
      (schema_arrives p one (λ e. refl) (name k ∷ path) d next (first_so (rises d) (members_rise ms) r))
      (members_arrive p path all m ms (among_rest k d ms all g a) (rising_rest k ms g) (second_so (rises d) (members_rise ms) r))

  list_arrives : (p : SchemaPlace) (h : Holds) → in_element (part_of h) ≡ one → (path : List Part) (d : Data)
      → ((ds : Items) → d ≡ array ds → Meets path (inner p h path (array ds))) → rises d ≡ true → AllByRecursion Arrives (in_list meta p path d)
  list_arrives p h same path null m r = tt
  list_arrives p h same path (boolean b) m r = tt
  list_arrives p h same path (number n) m r = tt
  list_arrives p h same path (string s) m r = tt
  list_arrives p h same path (array ds) m r = items_arrive p h same path ds (m ds refl) 0 ds (from_first ds) r
  list_arrives p h same path (object ms) m r = tt

  map_arrives : (p : SchemaPlace) (path : List Part) (d : Data) → Meets path (come p by_name path d) → rises d ≡ true → AllByRecursion Arrives (in_map meta p path d)
  map_arrives p path null m r = tt
  map_arrives p path (boolean b) m r = tt
  map_arrives p path (number n) m r = tt
  map_arrives p path (string s) m r = tt
  map_arrives p path (array ds) m r = tt
  map_arrives p path (object ms) m r =
      members_arrive p path ms m ms (among_itself ms) (first_so (are_rising ms) (members_rise ms) r) (second_so (are_rising ms) (members_rise ms) r)

  held_arrives : (p : SchemaPlace) (path : List Part) (h : Holds) (d : Data) → Meets path (come p h path d) → rises d ≡ true
      → AllByRecursion Arrives (held meta p path h d)
  held_arrives p path nothing d m r = tt
  held_arrives p path one d m r = schema_arrives p one (λ e. refl) path d m r
  held_arrives p path several d m r = list_arrives p several refl path d (λ ds e. subst (λ x. Meets path (come p several path x)) e m) r
  held_arrives p path one_or_several d m r =
      joined Arrives (if_schema meta p path d) (in_list meta p path d)
      (schema_arrives p one_or_several (λ e. refl) path d m r)
      (list_arrives p one_or_several refl path d (λ ds e. subst (λ x. Meets path (come p one_or_several path x)) e m) r)
  held_arrives p path by_name d m r = map_arrives p path d m r

  -- ---- the places below a place

  each_arrives : (p : SchemaPlace) → Meets p.path (start p) → is_some p.awaits ≡ false → (hidden : Bool) (all : Members) → p.contents ≡ object all
      → is_hidden p.dialect p.contents ≡ hidden → (ms : Members) → Among ms all → are_rising ms ≡ true → members_rise ms ≡ true
      → AllByRecursion Arrives (children_of meta p hidden ms)
  each_arrives p m goes hidden all is same no_members a g r = tt
  each_arrives p m goes hidden all is same (member k d ms) a g r =
      let found : value_in (name k) p.contents ≡ Some d = ap (value_in (name k)) is ∙ a.found k d (get_same k k d ms refl) in
      let next : Meets (name k ∷ p.path) (come p (held_by p.dialect.draft (is_hidden p.dialect p.contents) k) (name k ∷ p.path) d) =
      meets_next (start p) p.path m goes (name k) d found in
      let there = subst (λ b. Meets (name k ∷ p.path) (come p (held_by p.dialect.draft b k) (name k ∷ p.path) d)) same next in
      joined Arrives (held meta p (name k ∷ p.path) (held_by p.dialect.draft hidden k) d) (children_of meta p hidden ms)
      (held_arrives p (name k ∷ p.path) (held_by p.dialect.draft hidden k) d there (first_so (rises d) (members_rise ms) r))
      (each_arrives p m goes hidden all is same ms (among_rest k d ms all g a) (rising_rest k ms g) (second_so (rises d) (members_rise ms) r))

  inside_arrives : (p : SchemaPlace) → Meets p.path (start p) → is_some p.awaits ≡ false → (d : Data) → p.contents ≡ d → rises d ≡ true
      → AllByRecursion Arrives (children_in meta p d)
  inside_arrives p m goes null is r = tt
  inside_arrives p m goes (boolean b) is r = tt
  inside_arrives p m goes (number n) is r = tt
  inside_arrives p m goes (string s) is r = tt
  inside_arrives p m goes (array ds) is r = tt
  inside_arrives p m goes (object ms) is r =
      each_arrives p m goes (is_hidden p.dialect (object ms)) ms is (ap (is_hidden p.dialect) is) ms (among_itself ms)
      (first_so (are_rising ms) (members_rise ms) r) (second_so (are_rising ms) (members_rise ms) r)

  children_arrive : (p : SchemaPlace) → Arrives p → AllByRecursion Arrives (children meta p)
  children_arrive p a = by (is_some p.awaits) refl
    where
      by : (b : Bool) → is_some p.awaits ≡ b → AllByRecursion Arrives (if b then [] else children_in meta p p.contents)
      by true e = tt
      by false e = inside_arrives p a.there e p.contents refl a.rising

-- where the names rise, each schema place of a document is reached along its path
pub places_arrive : (meta : List ℕ → Option Dialect) (uri : List ℕ) (default : Dialect) (d : Data) → rises d ≡ true
    → AllByRecursion (Arrives meta (root_place meta uri default d)) (places meta uri default d)
unfolding places
places_arrive meta uri default d r =
    let root = root_place meta uri default d in
    let named = by_schema meta default (schema_in_force default.siblings true d) in
    let at_root : reach meta (start root) root.path ≡ Some (start root) = ap (reach meta (start root)) (placed_path uri default [] d named) in
    let first : Arrives meta root root =
    record { there = at_root; rising = ap rises (placed_contents uri default [] d named) ∙ r } in
    by_levels (Arrives meta root) (children meta) (children_arrive meta root) (suc (depth d)) (root ∷ []) (first, tt)
