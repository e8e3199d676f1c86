-- A place whose base nobody bears awaits its meta-schema: what bears no URI has no place under it as its base.
use Rattle.std.proofs.Common.{◌≡◌, ◌∙◌, ℕ, zero, suc, List, [], ◌∷◌, Bool, true, false, not, ◌&&◌, ◌||◌, if◌then◌else◌, Option, Some, None, is_some, option_and_then, bytes_eq, map, refl, sym, subst}
use Rattle.std.proofs.lemmas.Slice.Eq.{bytes_eq-Decides}
use Rattle.std.specs.List.{flat_map, AllByRecursion}
use Rattle.serde_json.specs.Data.{Data, depth}
use Rattle.json_values.specs.Parts.{Part}
use Rattle.schema_definitions.specs.Words.{or, has_text, levels}
use Rattle.schema_definitions.specs.Identifiers.{resolved, identifier}
use Rattle.schema_definitions.specs.Places.{Dialect, SchemaPlace, Named, settled, awaited, by_schema, schema_in_force, placed, root_place, children_in, children, places}
use Rattle.schema_definitions.specs.Bearers.{Documents, document_name, uri_in, Standing, standing_in, standings, is_root, bears, bears_anchor, last_standing}
use Rattle.document_laws.proofs.Lists.{joined, first_part, second_part}
use Rattle.reading_laws.proofs.Elements.{each_in}
use Rattle.added_documents.proofs.Lists.{none_passes, none_found, found}
use Rattle.added_documents.proofs.Named.{all_named}
use Rattle.added_documents.proofs.Children.{IsEntered, inside_entered}

Any : List ℕ → Type 0
Any t = t ≡ t

module _ (q : List ℕ) where
  -- a place that bears q not, in a document of that name
  pub record BearsNot (name : List ℕ) (p : SchemaPlace) : Type 0 where
    pub is : bears q (record { document = name; place = p }) ≡ false

  -- a place whose base is another
  pub record Elsewhere (p : SchemaPlace) : Type 0 where
    pub is : p.awaits ≡ None → bytes_eq p.base q ≡ false

  second_false : (a b : Bool) → (a || b) ≡ false → b ≡ false
  second_false true b e = cc
  second_false false b e = e

  first_false : (a b : Bool) → (a || b) ≡ false → a ≡ false
  first_false true b e = cc
  first_false false b e = refl

  own_elsewhere : (outer : List ℕ) (x : Bool) (o : Option (List ℕ)) → bytes_eq outer q ≡ false
      → (x || (is_some o && bytes_eq (or outer (option_and_then (resolved outer) o)) q)) ≡ false → bytes_eq (or outer (option_and_then (resolved outer) o)) q ≡ false
  own_elsewhere outer x None e h = e
  own_elsewhere outer x (Some i) e h = second_false x _ h

  placed_elsewhere : (name outer : List ℕ) (around : Dialect) (path : List Part) (d : Data) (n : Named) → bytes_eq outer q ≡ false
      → BearsNot name (placed outer around path d n) → Elsewhere (placed outer around path d n)
  placed_elsewhere name outer around path d (settled dialect) e h =
      record { is = λ known. own_elsewhere outer (is_root path && bytes_eq (uri_in name) q) (identifier dialect d) e h.is }
  placed_elsewhere name outer around path d (awaited other) e h = record { is = λ known. cc }

  root_outer : (name : List ℕ) (around : Dialect) (d : Data) (n : Named) → BearsNot name (placed (uri_in name) around [] d n)
      → Elsewhere (placed (uri_in name) around [] d n)
  root_outer name around d (settled dialect) h =
      placed_elsewhere name (uri_in name) around [] d (settled dialect) (first_false (bytes_eq (uri_in name) q) _ h.is) h
  root_outer name around d (awaited other) h = record { is = λ known. cc }

  module _ (meta : List ℕ → Option Dialect) (name : List ℕ) where
    -- ---- the places below a place

    child_elsewhere : (p c : SchemaPlace) → IsEntered Any meta p c → bytes_eq p.base q ≡ false → BearsNot name c → Elsewhere c
    child_elsewhere p c i e h =
        let named = by_schema meta p.dialect (schema_in_force p.dialect.siblings false i.contents) in
        subst Elsewhere (sym i.is) (placed_elsewhere name p.base p.dialect i.path i.contents named e (subst (BearsNot name) i.is h))

    each_elsewhere : (p : SchemaPlace) (cs : List SchemaPlace) → AllByRecursion (IsEntered Any meta p) cs → bytes_eq p.base q ≡ false
        → AllByRecursion (BearsNot name) cs → AllByRecursion Elsewhere cs
    each_elsewhere p [] i e h = tt
    each_elsewhere p (c ∷ cs) i e h = (child_elsewhere p c i.0 e h.0, each_elsewhere p cs i.1 e h.1)

    unless_awaited : (p : SchemaPlace) (o : Option (List ℕ)) → p.awaits ≡ o → Elsewhere p
        → AllByRecursion (BearsNot name) (if is_some o then [] else children_in meta p p.contents) → AllByRecursion Elsewhere (if is_some o then [] else children_in meta p p.contents)
    unfolding Any
    unless_awaited p (Some other) is e h = tt
    unless_awaited p None is e h =
        each_elsewhere p (children_in meta p p.contents) (inside_entered Any meta p p.contents (all_named Any (λ t. refl) p.contents)) (e.is is) h

    children_elsewhere : (p : SchemaPlace) → Elsewhere p → AllByRecursion (BearsNot name) (children meta p) → AllByRecursion Elsewhere (children meta p)
    children_elsewhere p e h = unless_awaited p p.awaits refl e h

    -- ---- by levels

    below_elsewhere : (ps : List SchemaPlace) → AllByRecursion Elsewhere ps → AllByRecursion (BearsNot name) (flat_map (children meta) ps)
        → AllByRecursion Elsewhere (flat_map (children meta) ps)
    below_elsewhere [] e h = tt
    below_elsewhere (p ∷ ps) e h =
        joined Elsewhere (children meta p) (flat_map (children meta) ps)
        (children_elsewhere p e.0 (first_part (BearsNot name) (children meta p) (flat_map (children meta) ps) h))
        (below_elsewhere ps e.1 (second_part (BearsNot name) (children meta p) (flat_map (children meta) ps) h))

    levels_elsewhere : (n : ℕ) (ps : List SchemaPlace) → AllByRecursion Elsewhere ps → AllByRecursion (BearsNot name) (levels (children meta) n ps)
        → AllByRecursion Elsewhere (levels (children meta) n ps)
    levels_elsewhere zero ps e h = tt
    levels_elsewhere (suc zero) ps e h = joined Elsewhere ps [] e tt
    levels_elsewhere (suc (suc n)) ps e h =
        let next = flat_map (children meta) ps in
        let deeper = second_part (BearsNot name) ps (levels (children meta) (suc n) next) h in
        let below = first_part (BearsNot name) next (levels (children meta) n (flat_map (children meta) next)) deeper in
        joined Elsewhere ps (levels (children meta) (suc n) next) e (levels_elsewhere (suc n) next (below_elsewhere ps e below) deeper)

    places_elsewhere : (default : Dialect) (d : Data) → AllByRecursion (BearsNot name) (places meta (uri_in name) default d)
        → AllByRecursion Elsewhere (places meta (uri_in name) default d)
    unfolding places
    places_elsewhere default d h =
        let root = root_outer name default d (by_schema meta default (schema_in_force default.siblings true d)) h.0 in
        levels_elsewhere (suc (depth d)) (root_place meta (uri_in name) default d ∷ []) (root, tt) h

  -- ---- documents

  pub record StandsElsewhere (s : Standing) : Type 0 where
    pub is : s.place.awaits ≡ None → bytes_eq s.place.base q ≡ false

  at_places : (name : List ℕ) (ps : List SchemaPlace) → AllByRecursion (λ s. bears q s ≡ false) (map (λ p. record { document = name; place = p }) ps)
      → AllByRecursion (BearsNot name) ps
  at_places name [] h = tt
  at_places name (p ∷ ps) h = (record { is = h.0 }, at_places name ps h.1)

  as_standings : (name : List ℕ) (ps : List SchemaPlace) → AllByRecursion Elsewhere ps → AllByRecursion StandsElsewhere (map (λ p. record { document = name; place = p }) ps)
  as_standings name [] h = tt
  as_standings name (p ∷ ps) h = (record { is = h.0.is }, as_standings name ps h.1)

  each_document : (meta : List ℕ → Option Dialect) (docs : Documents) → AllByRecursion (λ s. bears q s ≡ false) (flat_map (standing_in meta) docs)
      → AllByRecursion StandsElsewhere (flat_map (standing_in meta) docs)
  each_document meta [] h = tt
  each_document meta (d ∷ docs) h =
      let ps = places meta d.uri d.default d.contents in
      let fails : Standing → Type 0 = λ s. bears q s ≡ false in
      let none = at_places (document_name d) ps (first_part fails (standing_in meta d) (flat_map (standing_in meta) docs) h) in
      joined StandsElsewhere (standing_in meta d) (flat_map (standing_in meta) docs)
      (as_standings (document_name d) ps (places_elsewhere meta (document_name d) d.default d.contents none))
      (each_document meta docs (second_part fails (standing_in meta d) (flat_map (standing_in meta) docs) h))

  stand_elsewhere : (meta : List ℕ → Option Dialect) (docs : Documents) → last_standing (bears q) meta docs ≡ None
      → AllByRecursion StandsElsewhere (standings meta docs)
  unfolding standings
  stand_elsewhere meta docs e = each_document meta docs (none_passes (bears q) (flat_map (standing_in meta) docs) e)

  -- no anchor stands under what nobody bears

  no_anchor : (o : Option (List ℕ)) (b c : Bool) → (o ≡ None → b ≡ false) → (not (is_some o) && b && c) ≡ false
  no_anchor None b c h = rw (h refl) refl
  no_anchor (Some t) b c h = refl

  each_fails : (of : Dialect → Data → List (List ℕ)) (k : List ℕ) (ss : List Standing) → AllByRecursion StandsElsewhere ss → AllByRecursion (λ s. bears_anchor of q k s ≡ false) ss
  each_fails of k [] h = tt
  each_fails of k (s ∷ ss) h =
      (no_anchor s.place.awaits (bytes_eq s.place.base q) (has_text k (of s.place.dialect s.place.contents)) h.0.is, each_fails of k ss h.1)

  pub none_anchored : (of : Dialect → Data → List (List ℕ)) (k : List ℕ) (meta : List ℕ → Option Dialect) (docs : Documents)
      → last_standing (bears q) meta docs ≡ None → last_standing (bears_anchor of q k) meta docs ≡ None
  none_anchored of k meta docs e =
      none_found (bears_anchor of q k) (standings meta docs) (each_fails of k (standings meta docs) (stand_elsewhere meta docs e))

-- ---- each base of what is found is borne

module _ (meta : List ℕ → Option Dialect) (test : Standing → Bool) where
  pub found_passes : (docs : Documents) (s : Standing) → last_standing test meta docs ≡ Some s → test s ≡ true
  found_passes docs s e = (found test (standings meta docs) s e).passes

  pub base_borne : (docs : Documents) (s : Standing) → last_standing test meta docs ≡ Some s → s.place.awaits ≡ None
      → is_some (last_standing (bears s.place.base) meta docs) ≡ true
  base_borne docs s e known = by (last_standing (bears s.place.base) meta docs) refl
    where
      by : (o : Option Standing) → last_standing (bears s.place.base) meta docs ≡ o → is_some o ≡ true
      by (Some t) is = refl
      by None is =
          let among = (found test (standings meta docs) s e).among in
          let elsewhere = each_in (StandsElsewhere s.place.base) (standings meta docs) (stand_elsewhere s.place.base meta docs is) s among in
          let itself = (bytes_eq-Decides s.place.base s.place.base).1 refl in
          let no : false ≡ true = sym (elsewhere.is known) ∙ itself in cc
