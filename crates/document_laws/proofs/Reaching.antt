-- Where a walk from a schema place stands at each path below it, as long as it stands at no place that awaits its meta-schema.
use Rattle.std.proofs.Common.{◌≡◌, ◌∙◌, ◌++◌, ℕ, List, [], ◌∷◌, Bool, true, false, if◌then◌else◌, Option, Some, None, refl, sym, ap}
use Rattle.std.specs.List.{AllByRecursion}
use Rattle.std.specs.Prelude.{is_some, IfSome, option_map, option_and_then}
use Rattle.serde_json.specs.Data.{Data, null, boolean, number, string, array, object}
use Rattle.serde_json.specs.Find.{get, at, get_member, get_item}
use Rattle.json_values.specs.Parts.{Part, name, index}
use Rattle.json_values.specs.Pointers.{value_in}
use Rattle.schema_drafts.specs.Subschemas.{Holds}
use Rattle.schema_definitions.specs.Places.{Dialect, SchemaPlace, entered, children_in}
use Rattle.schema_definitions.specs.Lookup.{Walk, at_place, part_of, holds_schema, in_element, in_member, arrived}
use Rattle.document_laws.proofs.Passing.{Stands, stops_at, at_item, at_member, arrived_stands}

abbrev pub start : SchemaPlace → Walk
start p = record { path = p.path; contents = p.contents; last = p; within = at_place }

abbrev pub stops : Walk → Bool
stops w = stops_at w.last w.within

abbrev pub held_in : Walk → Part → Holds
held_in w (name k) = in_member w.last w.within k
held_in w (index i) = in_element w.within

-- one part further, where it leads to a value
abbrev pub onward : (List ℕ → Option Dialect) → Walk → Part → Option Walk
onward meta w part = option_map (arrived meta w (held_in w part) part) (value_in part w.contents)

abbrev pub one_further : (List ℕ → Option Dialect) → Part → Walk → Option Walk
one_further meta part w = if stops w then None else onward meta w part

-- a path has its last part first
abbrev pub reach : (List ℕ → Option Dialect) → Walk → List Part → Option Walk
reach meta from [] = Some from
reach meta from (part ∷ path) = option_and_then (one_further meta part) (reach meta from path)

-- ---- what it passes

if_found : (P : Walk → Type 0) (o : Option Data) (f : Data → Walk) → ((e : Data) → o ≡ Some e → P (f e)) → IfSome (option_map f o) P
if_found P None f each = tt
if_found P (Some e) f each = each e refl

module _ (meta : List ℕ → Option Dialect) (S : SchemaPlace → Type 0)
    (kept : (p : SchemaPlace) → S p → is_some p.awaits ≡ false → AllByRecursion S (children_in meta p p.contents)) where
  abbrev Stood : Walk → Type 0
  Stood w = Stands meta S w

  by_name_stands : (w : Walk) (k : List ℕ) (d : Data) → Stood w → stops w ≡ false → w.contents ≡ d
      → IfSome (option_map (arrived meta w (in_member w.last w.within k) (name k)) (get k d)) Stood
  by_name_stands w k null s goes is = tt
  by_name_stands w k (boolean b) s goes is = tt
  by_name_stands w k (number n) s goes is = tt
  by_name_stands w k (string t) s goes is = tt
  by_name_stands w k (array ds) s goes is = tt
  by_name_stands w k (object ms) s goes is =
      let h = in_member w.last w.within k in
      if_found Stood (get_member k ms) (arrived meta w h (name k))
      (λ e g. arrived_stands meta S w h (name k) e s.last (at_member meta S kept w.last w.path w.contents w.within ms k e s.last goes s.here is g))

  by_index_stands : (w : Walk) (i : ℕ) (d : Data) → Stood w → w.contents ≡ d
      → IfSome (option_map (arrived meta w (in_element w.within) (index i)) (at i d)) Stood
  by_index_stands w i null s is = tt
  by_index_stands w i (boolean b) s is = tt
  by_index_stands w i (number n) s is = tt
  by_index_stands w i (string t) s is = tt
  by_index_stands w i (array ds) s is =
      let h = in_element w.within in
      if_found Stood (get_item i ds) (arrived meta w h (index i))
      (λ e g. arrived_stands meta S w h (index i) e s.last (at_item meta S w.last w.path w.contents w.within ds i e s.here is g))
  by_index_stands w i (object ms) s is = tt

  onward_stands : (w : Walk) (part : Part) → Stood w → stops w ≡ false → IfSome (onward meta w part) Stood
  onward_stands w (name k) s goes = by_name_stands w k w.contents s goes refl
  onward_stands w (index i) s goes = by_index_stands w i w.contents s refl

  further_stands : (w : Walk) (part : Part) → Stood w → (b : Bool) → stops w ≡ b → IfSome (if b then None else onward meta w part) Stood
  further_stands w part s true e = tt
  further_stands w part s false e = onward_stands w part s e

  next_stands : (part : Part) (o : Option Walk) → IfSome o Stood → IfSome (option_and_then (one_further meta part) o) Stood
  next_stands part None s = tt
  next_stands part (Some w) s = further_stands w part s (stops w) refl

  pub reach_stands : (from : Walk) → Stood from → (path : List Part) → IfSome (reach meta from path) Stood
  reach_stands from s [] = s
  reach_stands from s (part ∷ path) = next_stands part (reach meta from path) (reach_stands from s path)

-- ---- its path

module _ (meta : List ℕ → Option Dialect) where
  arrived_path : (w : Walk) (part : Part) (e : Data) (q : SchemaPlace) (h : Holds) (b : Bool) (v : Walk)
      → (if b then record { path = part ∷ w.path; contents = e; last = q; within = at_place } else record { path = part ∷ w.path; contents = e; last = w.last; within = part_of h }) ≡ v
      → v.path ≡ part ∷ w.path
  arrived_path w part e q h true v same = ap (λ (x : Walk). x.path) (sym same)
  arrived_path w part e q h false v same = ap (λ (x : Walk). x.path) (sym same)

  found_path : (w : Walk) (h : Holds) (part : Part) (o : Option Data) (v : Walk) → option_map (arrived meta w h part) o ≡ Some v → v.path ≡ part ∷ w.path
  found_path w h part None v e = (let no : None ≡ Some v = e in cc)
  found_path w h part (Some d) v e =
      let same : arrived meta w h part d ≡ v = cc in
      arrived_path w part d (entered meta w.last.base w.last.dialect (part ∷ w.path) d) h (holds_schema h d) v same

  pub onward_path : (w : Walk) (part : Part) (v : Walk) → onward meta w part ≡ Some v → v.path ≡ part ∷ w.path
  onward_path w part v e = found_path w (held_in w part) part (value_in part w.contents) v e

  further_path : (w : Walk) (part : Part) (v : Walk) (b : Bool) → (if b then None else onward meta w part) ≡ Some v → v.path ≡ part ∷ w.path
  further_path w part v true e = (let no : None ≡ Some v = e in cc)
  further_path w part v false e = onward_path w part v e

  next_path : (part : Part) (path : List Part) (o : Option Walk) → ((u : Walk) → o ≡ Some u → u.path ≡ path) → (v : Walk)
      → option_and_then (one_further meta part) o ≡ Some v → v.path ≡ part ∷ path
  next_path part path None f v e = (let no : None ≡ Some v = e in cc)
  next_path part path (Some u) f v e = further_path u part v (stops u) e ∙ ap (λ q. part ∷ q) (f u refl)

  -- what is reached along a path stands at it
  pub reach_path : (from : Walk) → from.path ≡ [] → (path : List Part) (v : Walk) → reach meta from path ≡ Some v → v.path ≡ path
  reach_path from root [] v e = (let same : from ≡ v = cc in ap (λ (w : Walk). w.path) (sym same) ∙ root)
  reach_path from root (part ∷ path) v e = next_path part path (reach meta from path) (reach_path from root path) v e

  -- ---- where it stops

  -- behind a path along which nothing is reached nothing is
  pub none_behind : (from : Walk) (parts path : List Part) → reach meta from path ≡ None → reach meta from (parts ++ path) ≡ None
  none_behind from [] path e = e
  none_behind from (part ∷ parts) path e = ap (option_and_then (one_further meta part)) (none_behind from parts path e)

  -- nor behind a place that awaits its meta-schema
  pub stopped : (from u : Walk) (path : List Part) → reach meta from path ≡ Some u → stops u ≡ true → (part : Part) → reach meta from (part ∷ path) ≡ None
  stopped from u path e s part =
      ap (option_and_then (one_further meta part)) e ∙ ap (λ b. if b then None else onward meta u part) s

  -- one that does not is one part further where that leads
  pub passed : (from u : Walk) (path : List Part) → reach meta from path ≡ Some u → stops u ≡ false → (part : Part)
      → reach meta from (part ∷ path) ≡ onward meta u part
  passed from u path e s part =
      ap (option_and_then (one_further meta part)) e ∙ ap (λ b. if b then None else onward meta u part) s
