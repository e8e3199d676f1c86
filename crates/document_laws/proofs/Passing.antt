-- Where a walk along a pointer stands: what holds of the schema place that it passed last, and of those below the value there.
use Rattle.std.proofs.Common.{◌≡◌, ◌+◌, ℕ, zero, suc, List, ◌∷◌, Bool, false, ◌&&◌, inl, inr, Option, Some, None, sym, ◌∙◌, subst, arith}
use Rattle.std.specs.List.{AllByRecursion}
use Rattle.std.specs.Prelude.{is_some}
use Rattle.serde_json.specs.Data.{Data, null, boolean, number, string, array, object, Items, no_items, item, Members, no_members, member}
use Rattle.serde_json.specs.Find.{get_member, get_item}
use Rattle.json_values.specs.Parts.{Part, name, index}
use Rattle.json_values.proofs.Names.{found_at}
use Rattle.schema_drafts.specs.Subschemas.{Holds, nothing, one, several, one_or_several, by_name, held_by}
use Rattle.schema_definitions.specs.Identifiers.{is_hidden}
use Rattle.schema_definitions.specs.Places.{Dialect, SchemaPlace, by_schema, schema_in_force, entered, if_schema, each_item, each_member, held, children_of, children_in}
use Rattle.schema_definitions.specs.Lookup.{Within, at_place, part_of, Walk, is_at_place, in_element, in_member, arrived}
use Rattle.document_laws.proofs.Lists.{first_part, second_part}
use Rattle.document_laws.proofs.Depths.{placed_contents, placed_path}

-- at a place that awaits its meta-schema, below which there is none
abbrev pub stops_at : SchemaPlace → Within → Bool
stops_at p within = is_at_place within && is_some p.awaits

module _ (meta : List ℕ → Option Dialect) (S : SchemaPlace → Type 0) where
  -- ---- one of the places below a place

  one_member : (p : SchemaPlace) (path : List Part) (ms : Members) (k : List ℕ) (e : Data) → get_member k ms ≡ Some e
      → AllByRecursion S (each_member meta p path ms) → AllByRecursion S (if_schema meta p (name k ∷ path) e)
  one_member p path no_members k e g h = (let no : None ≡ Some e = g in cc)
  one_member p path (member l d ms) k e g h =
      elim (found_at k l d ms e g) [
        | inl s ↦ subst (λ n. AllByRecursion S (if_schema meta p (name n ∷ path) e)) (sym s.0)
            (subst (λ x. AllByRecursion S (if_schema meta p (name l ∷ path) x)) s.1
            (first_part S (if_schema meta p (name l ∷ path) d) (each_member meta p path ms) h))
        | inr s ↦ one_member p path ms k e s (second_part S (if_schema meta p (name l ∷ path) d) (each_member meta p path ms) h)
      ]

  one_child : (p : SchemaPlace) (hidden : Bool) (ms : Members) (k : List ℕ) (e : Data) → get_member k ms ≡ Some e
      → AllByRecursion S (children_of meta p hidden ms) → AllByRecursion S (held meta p (name k ∷ p.path) (held_by p.dialect.draft hidden k) e)
  one_child p hidden no_members k e g h = (let no : None ≡ Some e = g in cc)
  one_child p hidden (member l d ms) k e g h =
      let here : List ℕ → Data → List SchemaPlace = λ n x. held meta p (name n ∷ p.path) (held_by p.dialect.draft hidden n) x in
      elim (found_at k l d ms e g) [
        | inl s ↦ subst (λ n. AllByRecursion S (here n e)) (sym s.0)
            (subst (λ x. AllByRecursion S (here l x)) s.1
            (first_part S (here l d) (children_of meta p hidden ms) h))
        | inr s ↦ one_child p hidden ms k e s (second_part S (here l d) (children_of meta p hidden ms) h)
      ]

  one_item : (p : SchemaPlace) (path : List Part) (i : ℕ) (ds : Items) (n : ℕ) (e : Data) → get_item n ds ≡ Some e
      → AllByRecursion S (each_item meta p path i ds) → AllByRecursion S (if_schema meta p (index (n + i) ∷ path) e)
  one_item p path i no_items n e g h = (let no : None ≡ Some e = g in cc)
  one_item p path i (item d ds) zero e g h =
      let same : i ≡ 0 + i = omega arith in
      let value : d ≡ e = cc in
      subst (λ (k : ℕ). AllByRecursion S (if_schema meta p (index k ∷ path) e)) same
      (subst (λ x. AllByRecursion S (if_schema meta p (index i ∷ path) x)) value
      (first_part S (if_schema meta p (index i ∷ path) d) (each_item meta p path (suc i) ds) h))
  one_item p path i (item d ds) (suc n) e g h =
      let same : n + suc i ≡ suc n + i = omega arith in
      subst (λ (k : ℕ). AllByRecursion S (if_schema meta p (index k ∷ path) e)) same
      (one_item p path (suc i) ds n e g (second_part S (if_schema meta p (index i ∷ path) d) (each_item meta p path (suc i) ds) h))

  -- ---- where a walk stands

  -- at a place itself, or in a value all of whose schemas hold
  abbrev pub Here : SchemaPlace → List Part → Data → Within → Type 0
  Here p path d at_place = (path ≡ p.path) × (d ≡ p.contents)
  Here p path d (part_of h) = AllByRecursion S (held meta p path h d)

  pub record Stands (w : Walk) : Type 0 where
    pub last : S w.last
    pub here : Here w.last w.path w.contents w.within

  first_item : (p : SchemaPlace) (path : List Part) (ds : Items) (i : ℕ) (e : Data) → get_item i ds ≡ Some e
      → AllByRecursion S (each_item meta p path 0 ds) → AllByRecursion S (if_schema meta p (index i ∷ path) e)
  first_item p path ds i e g h =
      let same : i + 0 ≡ i = omega arith in
      subst (λ (k : ℕ). AllByRecursion S (if_schema meta p (index k ∷ path) e)) same (one_item p path 0 ds i e g h)

  pub at_item : (p : SchemaPlace) (path : List Part) (d : Data) (within : Within) (ds : Items) (i : ℕ) (e : Data) → Here p path d within
      → d ≡ array ds → get_item i ds ≡ Some e → AllByRecursion S (held meta p (index i ∷ path) (in_element within) e)
  at_item p path d at_place ds i e here is g = tt
  at_item p path d (part_of nothing) ds i e here is g = tt
  at_item p path d (part_of one) ds i e here is g = tt
  at_item p path d (part_of several) ds i e here is g =
      first_item p path ds i e g (subst (λ x. AllByRecursion S (held meta p path several x)) is here)
  at_item p path d (part_of one_or_several) ds i e here is g =
      first_item p path ds i e g (subst (λ x. AllByRecursion S (held meta p path one_or_several x)) is here)
  at_item p path d (part_of by_name) ds i e here is g = tt

  module _ (kept : (p : SchemaPlace) → S p → is_some p.awaits ≡ false → AllByRecursion S (children_in meta p p.contents)) where
    pub at_member : (p : SchemaPlace) (path : List Part) (d : Data) (within : Within) (ms : Members) (k : List ℕ) (e : Data) → S p → stops_at p within ≡ false
        → Here p path d within → d ≡ object ms → get_member k ms ≡ Some e → AllByRecursion S (held meta p (name k ∷ path) (in_member p within k) e)
    at_member p path d at_place ms k e s goes here is g =
        let contents : p.contents ≡ object ms = sym here.1 ∙ is in
        let below : AllByRecursion S (children_in meta p (object ms)) = subst (λ x. AllByRecursion S (children_in meta p x)) contents (kept p s goes) in
        let there = one_child p (is_hidden p.dialect (object ms)) ms k e g below in
        subst (λ x. AllByRecursion S (held meta p (name k ∷ path) (held_by p.dialect.draft (is_hidden p.dialect x) k) e)) (sym contents)
        (subst (λ q. AllByRecursion S (held meta p (name k ∷ q) (held_by p.dialect.draft (is_hidden p.dialect (object ms)) k) e)) (sym here.0) there)
    at_member p path d (part_of nothing) ms k e s goes here is g = tt
    at_member p path d (part_of one) ms k e s goes here is g = tt
    at_member p path d (part_of several) ms k e s goes here is g = tt
    at_member p path d (part_of one_or_several) ms k e s goes here is g = tt
    at_member p path d (part_of by_name) ms k e s goes here is g =
        one_member p path ms k e g (subst (λ x. AllByRecursion S (held meta p path by_name x)) is here)

  -- ---- one part further

  stays : (w : Walk) (h : Holds) (part : Part) (e : Data) → S w.last → AllByRecursion S (held meta w.last (part ∷ w.path) h e)
      → Stands (record { path = part ∷ w.path; contents = e; last = w.last; within = part_of h })
  stays w h part e s k = record { last = s; here = k }

  enters : (w : Walk) (part : Part) (e : Data) → S (entered meta w.last.base w.last.dialect (part ∷ w.path) e)
      → Stands (record { path = part ∷ w.path; contents = e; last = entered meta w.last.base w.last.dialect (part ∷ w.path) e; within = at_place })
  enters w part e s =
      let p = w.last in
      let path : List Part = part ∷ w.path in
      let named = by_schema meta p.dialect (schema_in_force p.dialect.siblings false e) in
      record { last = s; here = (sym (placed_path p.base p.dialect path e named), sym (placed_contents p.base p.dialect path e named)) }

  pub arrived_stands : (w : Walk) (h : Holds) (part : Part) (e : Data) → S w.last → AllByRecursion S (held meta w.last (part ∷ w.path) h e)
      → Stands (arrived meta w h part e)
  arrived_stands w nothing part e s k = stays w nothing part e s k
  arrived_stands w one part null s k = stays w one part null s k
  arrived_stands w one part (boolean x) s k = enters w part (boolean x) k.0
  arrived_stands w one part (number n) s k = stays w one part (number n) s k
  arrived_stands w one part (string t) s k = stays w one part (string t) s k
  arrived_stands w one part (array ds) s k = stays w one part (array ds) s k
  arrived_stands w one part (object ms) s k = enters w part (object ms) k.0
  arrived_stands w several part e s k = stays w several part e s k
  arrived_stands w one_or_several part null s k = stays w one_or_several part null s k
  arrived_stands w one_or_several part (boolean x) s k = enters w part (boolean x) k.0
  arrived_stands w one_or_several part (number n) s k = stays w one_or_several part (number n) s k
  arrived_stands w one_or_several part (string t) s k = stays w one_or_several part (string t) s k
  arrived_stands w one_or_several part (array ds) s k = stays w one_or_several part (array ds) s k
  arrived_stands w one_or_several part (object ms) s k = enters w part (object ms) k.0
  arrived_stands w by_name part e s k = stays w by_name part e s k
