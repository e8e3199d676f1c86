-- Each schema place of the two documents has one in the document with the other inside, and the other way round.
use Rattle.std.proofs.Common.{◌≡◌, ◌⊎◌, inl, inr, ℕ, suc, List, [], ◌∷◌, ◌++◌, Bool, true, false, if◌then◌else◌, Option, is_some, refl, sym, subst}
use Rattle.serde_json.specs.Data.{Data, depth}
use Rattle.json_values.specs.Parts.{Part}
use Rattle.schema_drafts.specs.declared.draft.Draft.{Draft}
use Rattle.schema_meaning.specs.Members.{In}
use Rattle.schema_definitions.specs.Places.{Dialect, SchemaPlace, root_place, children_in, children, places}
use Rattle.schema_definitions.specs.Bearers.{by_default}
use Rattle.document_laws.proofs.Lists.{by_levels}
use Rattle.document_laws.proofs.Listed.{of_in, each_in}
use Rattle.document_laws.proofs.Levels.{root_among, places_closed}
use Rattle.moved_documents.specs.Forms.{Pair}
use Rattle.moved_documents.specs.Premises.{CanMove}
use Rattle.moved_documents.proofs.Twins.{Twin, Paths, Below, same_paths, paths_under, in_zip, zip_in, children_below}
use Rattle.moved_documents.proofs.Grown.{IsMoved, Grown}
use Rattle.moved_documents.proofs.Roots.{the_root, the_whole, the_moved, root_is, whole_is, moved_is, moved_path, root_grown}

-- ---- the list of places has those below each of them, and no others

module _ (told : List ℕ → Option Dialect) (uri : List ℕ) (default : Dialect) (d : Data) where
  pub closed : (p : SchemaPlace) → In p (places told uri default d) → (c : SchemaPlace) → In c (children told p) → In c (places told uri default d)
  closed p i c j = by (is_some p.awaits) refl j
    where
      by : (b : Bool) → is_some p.awaits ≡ b → In c (if b then [] else children_in told p p.contents) → In c (places told uri default d)
      by true e k = elim k [ ]
      by false e k = of_in (λ x. In x (places told uri default d)) c (children_in told p p.contents) (places_closed told uri default d p i e) k

  -- what holds of the root and of all below what it holds of
  pub each_place : (S : SchemaPlace → Type 0) → S (root_place told uri default d) → ((p : SchemaPlace) → S p → (c : SchemaPlace) → In c (children told p) → S c)
      → (p : SchemaPlace) → In p (places told uri default d) → S p
  unfolding places
  each_place S root kept p i =
      of_in S p (places told uri default d)
      (by_levels S (children told) (λ x h. each_in S (children told x) (kept x h)) (suc (depth d)) (root_place told uri default d ∷ []) (root, tt)) i

module _ (p : Pair) (draft : Draft) (whole : Data) (can : CanMove p draft whole) (told : List ℕ → Option Dialect) where
  abbrev root : SchemaPlace
  root = the_root p draft whole can told

  abbrev root_inside : SchemaPlace
  root_inside = the_whole p draft whole can told

  abbrev moved : SchemaPlace
  moved = the_moved p draft whole can told

  -- a place of the root document, and one of the document with the other inside
  pub data OfRoot : SchemaPlace → SchemaPlace → Type 0 where
    both_roots : OfRoot (the_root p draft whole can told) (the_whole p draft whole can told)
    both_below : {x y : SchemaPlace} → Below same_paths x y → OfRoot x y

  pub data OfMoved : SchemaPlace → SchemaPlace → Type 0 where
    moved_root : {y : SchemaPlace} → IsMoved (moved_path p draft whole can told) (the_moved p draft whole can told) y → OfMoved (the_moved p draft whole can told) y
    moved_below : {x y : SchemaPlace} → Below (paths_under (moved_path p draft whole can told)) x y → OfMoved x y

  abbrev at : List Part
  at = moved_path p draft whole can told

  abbrev under : Paths
  under = paths_under at

  abbrev grown : Grown at moved (children told root) (children told root_inside)
  grown = root_grown p draft whole can told

  -- ---- one step

  root_step : (x y : SchemaPlace) → OfRoot x y → (c : SchemaPlace) → In c (children told x) → (e : SchemaPlace) × In e (children told y) × OfRoot c e
  root_step _ _ both_roots c i = (let h = grown.forth c i in (h.0, h.1, both_below h.2))
  root_step _ _ (both_below {x = x} {y = y} b) c i =
      (let h = in_zip (Below same_paths) c (children told x) (children told y) (children_below same_paths told x y b.twin b.paths) i in (h.0, h.1, both_below h.2))

  by_twins : (x y : SchemaPlace) → Twin x y → y.path ≡ x.path ++ at → (c : SchemaPlace) → In c (children told x) → (e : SchemaPlace) × In e (children told y) × OfMoved c e
  by_twins x y t u c i = (let h = in_zip (Below under) c (children told x) (children told y) (children_below under told x y t u) i in (h.0, h.1, moved_below h.2))

  moved_step : (x y : SchemaPlace) → OfMoved x y → (c : SchemaPlace) → In c (children told x) → (e : SchemaPlace) × In e (children told y) × OfMoved c e
  moved_step _ _ (moved_root {y = y} h) c i = by_twins moved y h.twin h.path c i
  moved_step _ _ (moved_below {x = x} {y = y} b) c i = by_twins x y b.twin b.paths c i

  -- ---- all places

  abbrev inside_places : List SchemaPlace
  inside_places = places told p.root_uri (by_default p.layer) whole

  abbrev root_places : List SchemaPlace
  root_places = places told p.root_uri (by_default p.layer) p.root

  abbrev moved_places : List SchemaPlace
  moved_places = places told p.moved_uri (by_default p.layer) p.moved

  abbrev HasOfRoot : SchemaPlace → Type 0
  HasOfRoot x = (y : SchemaPlace) × In y inside_places × OfRoot x y

  abbrev HasOfMoved : SchemaPlace → Type 0
  HasOfMoved x = (y : SchemaPlace) × In y inside_places × OfMoved x y

  whole_among : In root_inside inside_places
  whole_among = subst (λ (x : SchemaPlace). In x inside_places) (whole_is p draft whole can told) (root_among told p.root_uri (by_default p.layer) whole)

  pub root_has : (x : SchemaPlace) → In x root_places → HasOfRoot x
  root_has =
      each_place told p.root_uri (by_default p.layer) p.root HasOfRoot
      (subst HasOfRoot (sym (root_is p draft whole can told)) (root_inside, whole_among, both_roots))
      (λ x h c i. (let n = root_step x h.0 h.2 c i in (n.0, closed told p.root_uri (by_default p.layer) whole h.0 h.1 n.0 n.1, n.2)))

  moved_has_root : HasOfMoved moved
  moved_has_root =
      let n = grown.there in
      (n.0, closed told p.root_uri (by_default p.layer) whole root_inside whole_among n.0 n.1, moved_root n.2)

  pub moved_has : (x : SchemaPlace) → In x moved_places → HasOfMoved x
  moved_has =
      each_place told p.moved_uri (by_default p.layer) p.moved HasOfMoved (subst HasOfMoved (sym (moved_is p draft whole can told)) moved_has_root)
      (λ x h c i. (let n = moved_step x h.0 h.2 c i in (n.0, closed told p.root_uri (by_default p.layer) whole h.0 h.1 n.0 n.1, n.2)))

  -- ---- and back

  pub data Comes (y : SchemaPlace) : Type 0 where
    from_root : (x : SchemaPlace) → In x root_places → OfRoot x y → Comes y
    from_moved : (x : SchemaPlace) → In x moved_places → OfMoved x y → Comes y

  root_among_root : In root root_places
  root_among_root = subst (λ (x : SchemaPlace). In x root_places) (root_is p draft whole can told) (root_among told p.root_uri (by_default p.layer) p.root)

  moved_among : In moved moved_places
  moved_among = subst (λ (x : SchemaPlace). In x moved_places) (moved_is p draft whole can told) (root_among told p.moved_uri (by_default p.layer) p.moved)

  grown_back : (c : SchemaPlace) → ((x : SchemaPlace) × In x (children told root) × Below same_paths x c) ⊎ IsMoved at moved c → Comes c
  grown_back c (inl h) = from_root h.0 (closed told p.root_uri (by_default p.layer) p.root root root_among_root h.0 h.1) (both_below h.2)
  grown_back c (inr h) = from_moved moved moved_among (moved_root h)

  back_of_root : (x y : SchemaPlace) → OfRoot x y → In x root_places → (c : SchemaPlace) → In c (children told y) → Comes c
  back_of_root _ _ both_roots i c j = grown_back c (grown.back c j)
  back_of_root _ _ (both_below {x = x} {y = y} b) i c j =
      let h = zip_in (Below same_paths) c (children told x) (children told y) (children_below same_paths told x y b.twin b.paths) j in
      from_root h.0 (closed told p.root_uri (by_default p.layer) p.root x i h.0 h.1) (both_below h.2)

  back_of_twins : (x y : SchemaPlace) → Twin x y → y.path ≡ x.path ++ at → In x moved_places → (c : SchemaPlace) → In c (children told y) → Comes c
  back_of_twins x y t u i c j =
      let h = zip_in (Below under) c (children told x) (children told y) (children_below under told x y t u) j in
      from_moved h.0 (closed told p.moved_uri (by_default p.layer) p.moved x i h.0 h.1) (moved_below h.2)

  back_of_moved : (x y : SchemaPlace) → OfMoved x y → In x moved_places → (c : SchemaPlace) → In c (children told y) → Comes c
  back_of_moved _ _ (moved_root {y = y} h) i c j = back_of_twins moved y h.twin h.path i c j
  back_of_moved _ _ (moved_below {x = x} {y = y} b) i c j = back_of_twins x y b.twin b.paths i c j

  back_step : (y : SchemaPlace) → Comes y → (c : SchemaPlace) → In c (children told y) → Comes c
  back_step y (from_root x i h) c j = back_of_root x y h i c j
  back_step y (from_moved x i h) c j = back_of_moved x y h i c j

  pub comes : (y : SchemaPlace) → In y inside_places → Comes y
  comes =
      each_place told p.root_uri (by_default p.layer) whole Comes
      (subst Comes (sym (whole_is p draft whole can told)) (from_root root root_among_root both_roots)) back_step
