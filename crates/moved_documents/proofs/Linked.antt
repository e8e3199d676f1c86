-- The two documents, and the root with the moved one inside, are linked place by place.
use Rattle.std.proofs.Common.{◌≡◌, ◌⊎◌, inl, inr, ℕ, List, [], ◌∷◌, ◌++◌, Bool, true, false, Option, refl, sym, ap, subst}
use Rattle.serde_json.specs.Data.{Data}
use Rattle.json_values.specs.Parts.{Part}
use Rattle.schema_drafts.specs.declared.draft.Draft.{Draft}
use Rattle.schema_meaning.specs.Members.{In}
use Rattle.schema_definitions.specs.Places.{Dialect, SchemaPlace, places}
use Rattle.schema_definitions.specs.Bearers.{by_default, is_root}
use Rattle.schema_definitions.specs.DocumentCauses.{document_causes}
use Rattle.schema_definitions.specs.Lookup.{Target}
use Rattle.schema_definitions.specs.Sites.{root_site}
use Rattle.schema_definitions.specs.BuildCauses.{at_root}
use Rattle.added_documents.specs.ReadingLaws.{Builds}
use Rattle.moved_documents.specs.Forms.{Pair, added, inside}
use Rattle.moved_documents.specs.Premises.{CanMove}
use Rattle.moved_documents.specs.Linked.{path_inside, put_below, root_places, moved_places, places_inside, TargetAlike, SiteAlike, AreLinked, InsideIsLinked}
use Rattle.moved_documents.proofs.Twins.{Twin, another}
use Rattle.moved_documents.proofs.Roots.{the_moved}
use Rattle.moved_documents.proofs.Placed.{OfRoot, both_roots, both_below, OfMoved, moved_root, moved_below, Comes, from_root, from_moved, root_has, moved_has, comes}
use Rattle.moved_documents.proofs.Told.{told, tell}
use Rattle.moved_documents.proofs.Lookups.{static_led, dynamic_led, recursive_led}
use Rattle.moved_documents.proofs.Answered.{are_related}

-- a place at another path is its twin there
twin_there : (meta : List ℕ → Option Dialect) (x y : SchemaPlace) (path : List Part) → Twin x y → path ≡ y.path → another meta x path x.contents ≡ y
twin_there meta x y path t e = rw (e, t.contents, t.base, t.dialect, t.awaits) refl

module _ (p : Pair) (draft : Draft) (whole : Data) (can : CanMove p draft whole) (accepted : document_causes (inside p whole) ≡ []) where
  abbrev there : List ℕ → Option Dialect
  there = told p draft whole can

  -- ---- schema places

  abbrev of_the_root : List SchemaPlace
  of_the_root = places there p.root_uri (by_default p.layer) p.root

  abbrev of_the_moved : List SchemaPlace
  of_the_moved = places there p.moved_uri (by_default p.layer) p.moved

  roots_same : root_places p ≡ of_the_root
  roots_same = (tell p draft whole can accepted).inside p.root_uri (by_default p.layer) p.root

  moved_same : moved_places p ≡ of_the_moved
  moved_same = (tell p draft whole can accepted).inside p.moved_uri (by_default p.layer) p.moved

  stays : (x y : SchemaPlace) → OfRoot p draft whole can there x y → is_root x.path ≡ false → x ≡ y
  stays _ _ both_roots below = absurd (cc)
  stays _ _ (both_below {x = x} {y = y} b) below = twin_there there x y x.path b.twin b.paths

  stands : (x y : SchemaPlace) → OfMoved p draft whole can there x y → put_below p x ≡ y
  stands _ _ (moved_root {y = y} h) = twin_there there (the_moved p draft whole can there) y (path_inside p) h.twin (sym h.path)
  stands _ _ (moved_below {x = x} {y = y} b) = twin_there there x y (x.path ++ path_inside p) b.twin (sym b.paths)

  kept : (x : SchemaPlace) → In x (root_places p) → is_root x.path ≡ false → In x (places_inside p whole)
  kept x i below =
      let h = root_has p draft whole can there x (subst (λ xs. In x xs) roots_same i) in
      subst (λ (y : SchemaPlace). In y (places_inside p whole)) (sym (stays x h.0 h.2 below)) h.1

  moved : (x : SchemaPlace) → In x (moved_places p) → In (put_below p x) (places_inside p whole)
  moved x i =
      let h = moved_has p draft whole can there x (subst (λ xs. In x xs) moved_same i) in
      subst (λ (y : SchemaPlace). In y (places_inside p whole)) (sym (stands x h.0 h.2)) h.1

  abbrev IsOneOfThese : SchemaPlace → Type 0
  IsOneOfThese y = (is_root y.path ≡ true) ⊎ (In y (root_places p) ⊎ ((x : SchemaPlace) × In x (moved_places p) × (put_below p x ≡ y)))

  of_root_document : (x y : SchemaPlace) → In x of_the_root → OfRoot p draft whole can there x y → IsOneOfThese y
  of_root_document _ _ i both_roots = inl refl
  of_root_document _ _ i (both_below {x = x} {y = y} b) =
      inr (inl (subst (λ (z : SchemaPlace). In z (root_places p)) (stays x y (both_below b) b.here) (subst (λ xs. In x xs) (sym roots_same) i)))

  no_more : (y : SchemaPlace) → Comes p draft whole can there y → IsOneOfThese y
  no_more y (from_root x i h) = of_root_document x y i h
  no_more y (from_moved x i h) = inr (inr (x, subst (λ xs. In x xs) (sym moved_same) i, stands x y h))

  -- ---- readings

  readings : (makes : List ℕ → Bool) (base reference : List ℕ) (root other : Target) → Builds (added p) makes base reference root
      → Builds (inside p whole) makes base reference other → AreLinked p whole makes root other
  readings makes base reference root other b c =
      let alike : TargetAlike p root other = static_led p draft whole can accepted base reference root other b.found c.found in
      let site : SiteAlike p (root_site root) (root_site other) = record {
        place = alike.place;
        contents = alike.contents;
        base = alike.base;
        scope = ap (λ (x : List ℕ). x ∷ []) alike.base;
        dialect = alike.dialect;
        schema_path = refl;
      } in
      record { roots = (site, at_root, at_root); sites = are_related p draft whole can accepted makes root other b.right c.right }

pub inside_is_linked : InsideIsLinked
inside_is_linked p draft whole can accepted = record {
  kept = kept p draft whole can accepted;
  moved = moved p draft whole can accepted;
  no_more = λ y i. no_more p draft whole can accepted y (comes p draft whole can (told p draft whole can) y i);
  static = static_led p draft whole can accepted;
  dynamic = dynamic_led p draft whole can accepted;
  recursive = recursive_led p draft whole can accepted;
  readings = readings p draft whole can accepted;
}
