-- Where one document can be moved into the other, no URI is borne by both, and a root that builds by itself stands alone.
use Rattle.std.proofs.Common.{◌≡◌, ◌∙◌, ℕ, List, [], ◌∷◌, ◌++◌, ◌||◌, map, inl, inr, Bool, true, false, bytes_eq, codes, reverse, Option, Some, None, is_some, refl, sym, ap, subst}
use Rattle.std.proofs.lemmas.List.{reverse-append}
use Rattle.std.proofs.lemmas.Slice.Eq.{bytes_eq-Decides}
use Rattle.serde_json.specs.Data.{Data}
use Rattle.json_values.specs.Parts.{Part, name}
use Rattle.json_values.specs.Pointers.{value_at}
use Rattle.schema_drafts.specs.declared.draft.Draft.{Draft}
use Rattle.schema_meaning.specs.Members.{In}
use Rattle.schema_definitions.specs.Places.{Dialect, SchemaPlace, places}
use Rattle.schema_definitions.specs.Bearers.{Standing, by_default, uri_in, standing_in, standings, bears, last_standing, bearer, meta}
use Rattle.document_laws.proofs.Listed.{in_first, in_second, in_either, of_in}
use Rattle.document_laws.proofs.Levels.{root_among}
use Rattle.document_laws.proofs.TargetPlaces.{PlaceInside, places_inside}
use Rattle.added_documents.specs.Added.{Joined, neither, one_kept, one_added, EachNamedBy, IsToldAlike, IsFree, LeftAlone}
use Rattle.added_documents.proofs.Walking.{same_last}
use Rattle.moved_documents.specs.Forms.{Pair, document_at, root_alone, moved_alone, added, inside}
use Rattle.moved_documents.specs.Premises.{BornOnce, CanMove}
use Rattle.moved_documents.specs.Laws.{RootStandsAlone}
use Rattle.moved_documents.proofs.Twins.{IsUnder}
use Rattle.moved_documents.proofs.Roots.{the_root, the_moved, root_is, moved_is, moved_path, nothing_there}
use Rattle.moved_documents.proofs.Placed.{OfRoot, both_roots, both_below, OfMoved, moved_root, moved_below, root_has, moved_has}
use Rattle.moved_documents.proofs.Standings.{standing, in_mapped, found_last, root_name, moved_name, root_alike, moved_alike, inside_listed}
use Rattle.moved_documents.proofs.Settled.{stands_alone}

first_or : (a b : Bool) → a ≡ true → (a || b) ≡ true
first_or true b e = refl
first_or false b e = (let no : false ≡ true = e in cc)

-- a place of one document, among what stands in it alone
record IsPlaceOf (document : List ℕ) (ps : List SchemaPlace) (s : Standing) : Type 0 where
  place : SchemaPlace
  among : In place ps
  is : s ≡ standing document place

place_of : (document : List ℕ) (ps : List SchemaPlace) (s : Standing) → In s (map (λ p. record { document = document; place = p }) ps ++ []) → IsPlaceOf document ps s
place_of document ps s i =
    elim (in_either s (map (standing document) ps) [] i) [
      | inl j ↦ (let h = in_mapped (standing document) s ps j in record { place = h.0; among = h.1; is = h.2 })
      | inr j ↦ elim j [ ]
    ]

module _ (p : Pair) (draft : Draft) (whole : Data) (can : CanMove p draft whole) (there : List ℕ → Option Dialect)
    (once : BornOnce there (inside p whole)) where
  abbrev at : List Part
  at = moved_path p draft whole can there

  abbrev root_places : List SchemaPlace
  root_places = places there p.root_uri (by_default p.layer) p.root

  abbrev moved_places : List SchemaPlace
  moved_places = places there p.moved_uri (by_default p.layer) p.moved

  -- ---- where they stand inside

  same_path : (x y : SchemaPlace) → OfRoot p draft whole can there x y → x.path ≡ y.path
  same_path _ _ both_roots = refl
  same_path _ _ (both_below b) = b.paths

  under : (x y : SchemaPlace) → OfMoved p draft whole can there x y → IsUnder at y.path
  under _ _ (moved_root h) = record { parts = []; is = h.path }
  under _ _ (moved_below {x = x} b) = record { parts = x.path; is = b.paths }

  never_under : (x : SchemaPlace) → In x root_places → IsUnder at x.path → ⊥
  never_under x i u =
      let inside = of_in (PlaceInside p.root) x root_places (places_inside there p.root_uri (by_default p.layer) p.root) i in
      let path : reverse x.path ≡ name (codes "$defs") ∷ name p.fresh ∷ reverse u.parts = ap (λ (q : List Part). reverse q) u.is ∙ reverse-append u.parts at in
      let leads : value_at (name (codes "$defs") ∷ name p.fresh ∷ reverse u.parts) p.root ≡ Some x.contents =
      subst (λ (q : List Part). value_at q p.root ≡ Some x.contents) path (inside.is.leads can.rises) in
      let no : None ≡ Some x.contents = sym (nothing_there p draft whole can there (reverse u.parts)) ∙ leads in
      absurd (cc)

  -- ---- no URI is borne by both

  both_places : (uri : List ℕ) (x z : SchemaPlace) → In x root_places → In z moved_places → bears uri (standing (root_name p draft whole can there) x) ≡ true
      → bears uri (standing (moved_name p draft whole can there) z) ≡ true → ⊥
  both_places uri x z i j e f =
      let document = root_name p draft whole can there in
      let y = root_has p draft whole can there x i in
      let w = moved_has p draft whole can there z j in
      let first : bears uri (standing document y.0) ≡ true = sym ((root_alike p draft whole can there x y.0 y.2).bears_alike uri) ∙ e in
      let second : bears uri (standing document w.0) ≡ true = sym ((moved_alike p draft whole can there z w.0 w.2).bears_alike uri) ∙ f in
      let one : standing document y.0 ≡ standing document w.0 =
      once.uris uri (standing document y.0) (standing document w.0) (inside_listed p draft whole can there y.0 y.1) (inside_listed p draft whole can there w.0 w.1)
      first second in
      let path : x.path ≡ w.0.path = same_path x y.0 y.2 ∙ ap (λ (r : Standing). r.place.path) one in
      let u = under z w.0 w.2 in
      never_under x i (record { parts = u.parts; is = path ∙ u.is })

  both_bear : (uri : List ℕ) (s t : Standing) → last_standing (bears uri) there (root_alone p) ≡ Some s → last_standing (bears uri) there (moved_alone p) ≡ Some t → ⊥
  unfolding standings
  both_bear uri s t e f =
      let last = found_last (bears uri) (standings there (root_alone p)) s e in
      let other = found_last (bears uri) (standings there (moved_alone p)) t f in
      let x = place_of (root_name p draft whole can there) root_places s last.among in
      let z = place_of (moved_name p draft whole can there) moved_places t other.among in
      both_places uri x.place z.place x.among z.among (sym (ap (bears uri) x.is) ∙ last.passes) (sym (ap (bears uri) z.is) ∙ other.passes)

  -- so their own are two
  own_apart : bytes_eq p.root_uri p.moved_uri ≡ false
  own_apart = by (bytes_eq p.root_uri p.moved_uri) refl
    where
      by : (b : Bool) → bytes_eq p.root_uri p.moved_uri ≡ b → bytes_eq p.root_uri p.moved_uri ≡ false
      by false is = is
      by true is =
          let root = root_is p draft whole can there in
          let moved = moved_is p draft whole can there in
          let x = the_root p draft whole can there in
          let z = the_moved p draft whole can there in
          absurd
          (both_places p.moved_uri x z (subst (λ (q : SchemaPlace). In q root_places) root (root_among there p.root_uri (by_default p.layer) p.root))
          (subst (λ (q : SchemaPlace). In q moved_places) moved (root_among there p.moved_uri (by_default p.layer) p.moved))
          (first_or _ _ is) (first_or _ _ ((bytes_eq-Decides p.moved_uri p.moved_uri).1 refl)))

-- ---- by what the two tell

-- no URI is borne by both
abbrev NoneBorneByBoth : Pair → Type 0
NoneBorneByBoth p =
    (uri : List ℕ) (s t : Standing) → last_standing (bears uri) (meta (added p)) (root_alone p) ≡ Some s
    → last_standing (bears uri) (meta (added p)) (moved_alone p) ≡ Some t → ⊥

-- so what the root bears by itself the other does not bear
abbrev pub BearsFree : Pair → Type 0
BearsFree p =
    EachNamedBy (IsToldAlike (meta (root_alone p)) (meta (added p))) (root_alone p) → (uri : List ℕ)
    → is_some (bearer (root_alone p) uri) ≡ true → IsFree (moved_alone p) (added p) uri

bears_free : (p : Pair) → NoneBorneByBoth p → BearsFree p
bears_free p none alike uri borne = by (bearer (root_alone p) uri) (last_standing (bears uri) (meta (added p)) (moved_alone p)) refl refl borne
  where
    by : (o q : Option Standing) → bearer (root_alone p) uri ≡ o → last_standing (bears uri) (meta (added p)) (moved_alone p) ≡ q → is_some o ≡ true → IsFree (moved_alone p) (added p) uri
    by o None e f some = f
    by None (Some t) e f some = absurd (cc)
    by (Some s) (Some t) e f some =
        let here : last_standing (bears uri) (meta (added p)) (root_alone p) ≡ Some s =
        same_last (meta (root_alone p)) (meta (added p)) (bears uri) (root_alone p) alike ∙ e in
        absurd (none uri s t here f)

module _ (p : Pair) (draft : Draft) (whole : Data) (can : CanMove p draft whole) where
  pub uris_apart : bytes_eq p.root_uri p.moved_uri ≡ false
  uris_apart = own_apart p draft whole can (meta (inside p whole)) can.once

  pub bear_apart : BornOnce (meta (added p)) (inside p whole) → BearsFree p
  bear_apart once = bears_free p (both_bear p draft whole can (meta (added p)) once)

-- ---- where nothing is borne twice with the other added

module _ (p : Pair) (apart : bytes_eq p.root_uri p.moved_uri ≡ false) (once : BornOnce (meta (added p)) (added p)) where
  root_beside : (s : Standing) → In s (standings (meta (added p)) (root_alone p)) → In s (standings (meta (added p)) (added p))
  unfolding standings
  root_beside s i = elim (in_either s _ [] i) [ inl j ↦ in_first s _ _ j | inr j ↦ elim j [ ] ]

  moved_beside : (s : Standing) → In s (standings (meta (added p)) (moved_alone p)) → In s (standings (meta (added p)) (added p))
  unfolding standings
  moved_beside s i = in_second s (standing_in (meta (added p)) (document_at p.layer p.root_uri p.root)) _ i

  both_beside : NoneBorneByBoth p
  unfolding standings
  both_beside uri s t e f =
      let told : List ℕ → Option Dialect = meta (added p) in
      let last = found_last (bears uri) (standings told (root_alone p)) s e in
      let other = found_last (bears uri) (standings told (moved_alone p)) t f in
      let x = place_of (p.layer.number ∷ p.root_uri) (places told p.root_uri (by_default p.layer) p.root) s last.among in
      let z = place_of (p.layer.number ∷ p.moved_uri) (places told p.moved_uri (by_default p.layer) p.moved) t other.among in
      let one : s ≡ t = once.uris uri s t (root_beside s last.among) (moved_beside t other.among) last.passes other.passes in
      let same : p.root_uri ≡ p.moved_uri = ap (λ (r : Standing). uri_in r.document) (sym x.is ∙ one ∙ z.is) in
      let no : true ≡ false = sym ((bytes_eq-Decides p.root_uri p.moved_uri).1 same) ∙ apart in
      absurd (cc)

  pub bear_apart_beside : BearsFree p
  bear_apart_beside = bears_free p both_beside

pub added_is_joined : (p : Pair) → Joined (root_alone p) (moved_alone p) (added p)
added_is_joined p = one_kept (document_at p.layer p.root_uri p.root) (one_added (document_at p.layer p.moved_uri p.moved) neither)

pub root_stands_alone : RootStandsAlone
root_stands_alone p draft whole can once accepted makes base reference root builds out =
    let alone : LeftAlone (root_alone p) (moved_alone p) (added p) =
    record { joined = added_is_joined p; told = out.told; apart = bear_apart p draft whole can once out.told } in
    stands_alone (root_alone p) (moved_alone p) (added p) accepted alone makes base reference root builds out.reached
