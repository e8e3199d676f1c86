-- The places below a root, and below the root with the moved document inside: they are the same but for the moved document's root.
use Rattle.std.proofs.Common.{◌≡◌, ◌⊎◌, inl, inr, ℕ, List, [], ◌∷◌, ◌++◌, Bool, true, false, if◌then◌else◌, codes, Option, Some, None, refl, sym, subst}
use Rattle.std.specs.List.{AllZip}
use Rattle.serde_json.specs.Data.{Data, object, Members, no_members, member}
use Rattle.json_values.specs.Parts.{Part, name}
use Rattle.schema_drafts.specs.Subschemas.{Holds, one as one_schema, by_name, held_by}
use Rattle.schema_meaning.specs.Members.{In, first, later}
use Rattle.schema_definitions.specs.Places.{Dialect, SchemaPlace, is_schema, entered, if_schema, each_member, held, children_of}
use Rattle.schema_definitions.specs.Bearers.{is_root}
use Rattle.document_laws.proofs.Listed.{in_first, in_second, in_either}
use Rattle.moved_documents.specs.Linked.{Changed, set_new, set_again, further, Extended, made, grown}
use Rattle.moved_documents.proofs.Twins.{Twin, Below, same_paths, in_zip, zip_in, another, members_below, held_below, all_below}

-- where the moved document stands: `m` is its root by itself
pub record IsMoved (at : List Part) (m y : SchemaPlace) : Type 0 where
  pub twin : Twin m y
  pub below : is_root y.path ≡ false
  pub path : y.path ≡ at

-- the same place, of the root and of the root with the moved document inside
abbrev pub Kept : SchemaPlace → SchemaPlace → Type 0
Kept x y = Below same_paths x y

-- the second list has the places of the first, and the moved root
pub record Grown (at : List Part) (m : SchemaPlace) (xs ys : List SchemaPlace) : Type 0 where
  pub forth : (x : SchemaPlace) → In x xs → (y : SchemaPlace) × In y ys × Kept x y
  pub back : (y : SchemaPlace) → In y ys → ((x : SchemaPlace) × In x xs × Kept x y) ⊎ IsMoved at m y
  pub there : (y : SchemaPlace) × In y ys × IsMoved at m y

module _ (at : List Part) (m : SchemaPlace) where
  alone : (y : SchemaPlace) → IsMoved at m y → Grown at m [] (y ∷ [])
  alone y h = record {
    forth = λ x i. elim i [ ];
    back = λ z i. inr (only z i);
    there = (y, first, h);
  }
    where
      only : (z : SchemaPlace) → In z (y ∷ []) → IsMoved at m z
      only z first = h
      only z (later i) = elim i [ ]

  in_front : (xs us ys vs : List SchemaPlace) → AllZip Kept xs ys → Grown at m us vs → Grown at m (xs ++ us) (ys ++ vs)
  in_front xs us ys vs z g = record { forth = forth; back = back; there = (g.there.0, in_second g.there.0 ys vs g.there.1, g.there.2) }
    where
      forth : (x : SchemaPlace) → In x (xs ++ us) → (y : SchemaPlace) × In y (ys ++ vs) × Kept x y
      forth x i = elim (in_either x xs us i) [
        | inl j ↦ (let h = in_zip Kept x xs ys z j in (h.0, in_first h.0 ys vs h.1, h.2))
        | inr j ↦ (let h = g.forth x j in (h.0, in_second h.0 ys vs h.1, h.2))
      ]

      behind : (y : SchemaPlace) → ((x : SchemaPlace) × In x us × Kept x y) ⊎ IsMoved at m y → ((x : SchemaPlace) × In x (xs ++ us) × Kept x y) ⊎ IsMoved at m y
      behind y (inl h) = inl (h.0, in_second h.0 xs us h.1, h.2)
      behind y (inr h) = inr h

      back : (y : SchemaPlace) → In y (ys ++ vs) → ((x : SchemaPlace) × In x (xs ++ us) × Kept x y) ⊎ IsMoved at m y
      back y i = elim (in_either y ys vs i) [
        | inl j ↦ (let h = zip_in Kept y xs ys z j in inl (h.0, in_first h.0 xs us h.1, h.2))
        | inr j ↦ behind y (g.back y j)
      ]

  behind : (xs us ys vs : List SchemaPlace) → Grown at m xs ys → AllZip Kept us vs → Grown at m (xs ++ us) (ys ++ vs)
  behind xs us ys vs g z = record { forth = forth; back = back; there = (g.there.0, in_first g.there.0 ys vs g.there.1, g.there.2) }
    where
      forth : (x : SchemaPlace) → In x (xs ++ us) → (y : SchemaPlace) × In y (ys ++ vs) × Kept x y
      forth x i = elim (in_either x xs us i) [
        | inl j ↦ (let h = g.forth x j in (h.0, in_first h.0 ys vs h.1, h.2))
        | inr j ↦ (let h = in_zip Kept x us vs z j in (h.0, in_second h.0 ys vs h.1, h.2))
      ]

      front : (y : SchemaPlace) → ((x : SchemaPlace) × In x xs × Kept x y) ⊎ IsMoved at m y → ((x : SchemaPlace) × In x (xs ++ us) × Kept x y) ⊎ IsMoved at m y
      front y (inl h) = inl (h.0, in_first h.0 xs us h.1, h.2)
      front y (inr h) = inr h

      back : (y : SchemaPlace) → In y (ys ++ vs) → ((x : SchemaPlace) × In x (xs ++ us) × Kept x y) ⊎ IsMoved at m y
      back y i = elim (in_either y ys vs i) [
        | inl j ↦ front y (g.back y j)
        | inr j ↦ (let h = zip_in Kept y us vs z j in inl (h.0, in_second h.0 xs us h.1, h.2))
      ]

-- ---- below the root

module _ (meta : List ℕ → Option Dialect) (p : SchemaPlace) (whole : Data) (fresh : List ℕ) (moved : Data) (m : SchemaPlace)
    (schema : is_schema moved ≡ true) (stands : (path : List Part) → is_root path ≡ false → IsMoved path m (entered meta p.base p.dialect path moved)) where
  abbrev q : SchemaPlace
  q = another meta p p.path whole

  moved_alone : (path : List Part) → is_root path ≡ false → Grown path m [] (if_schema meta q path moved)
  moved_alone path below =
      subst (λ (b : Bool). Grown path m [] (if b then entered meta p.base p.dialect path moved ∷ [] else [])) (sym schema)
      (alone path m (entered meta p.base p.dialect path moved) (stands path below))

  in_definitions : (path : List Part) {o : Option Data} {ds es : Members} → o ≡ None → Changed fresh moved o ds es → Grown (name fresh ∷ path) m (each_member meta p path ds) (each_member meta q path es)
  in_definitions path is (set_new {ms = ds}) =
      behind (name fresh ∷ path) m [] (each_member meta p path ds) (if_schema meta q (name fresh ∷ path) moved) (each_member meta q path ds)
      (moved_alone (name fresh ∷ path) refl) (members_below meta p p.path whole same_paths path path refl ds)
  in_definitions path is (set_again {d = d} {ms = ds}) = absurd (cc)
  in_definitions path is (further {l = l} {d = d} {ms = ds} {ns = es} x more) =
      in_front (name fresh ∷ path) m (if_schema meta p (name l ∷ path) d) (each_member meta p path ds) (if_schema meta q (name l ∷ path) d) (each_member meta q path es)
      (held_below meta p p.path whole same_paths (name l ∷ path) (name l ∷ path) one_schema d refl refl refl) (in_definitions path is more)

  module _ (hidden : Bool) (held_there : held_by p.dialect.draft hidden (codes "$defs") ≡ by_name) where
    abbrev defs : List Part
    defs = name (codes "$defs") ∷ p.path

    abbrev at : List Part
    at = name fresh ∷ defs

    abbrev holds : Holds
    holds = held_by p.dialect.draft hidden (codes "$defs")

    made_anew : (es : Members) {o : Option Data} → o ≡ None → Extended fresh moved o es → Grown at m [] (held meta q defs holds (object es))
    made_anew _ is made =
        subst (λ h. Grown at m [] (held meta q defs h (object (member fresh moved no_members)))) (sym held_there) (in_definitions defs refl (set_new {ms = no_members}))
    made_anew _ is (grown none change) = absurd (cc)

    extended : (es : Members) (d : Data) {o : Option Data} → o ≡ Some d → Extended fresh moved o es → Grown at m (held meta p defs holds d) (held meta q defs holds (object es))
    extended _ d is made = absurd (cc)
    extended es d is (grown {ds = ds} none change) =
        let value : object ds ≡ d = cc in
        subst (λ x. Grown at m (held meta p defs holds x) (held meta q defs holds (object es))) value
        (subst (λ h. Grown at m (held meta p defs h (object ds)) (held meta q defs h (object es))) (sym held_there) (in_definitions defs refl change))

    pub below_root : {es : Members} {o : Option Data} {ms ns : Members} → Extended fresh moved o es → Changed (codes "$defs") (object es) o ms ns
        → Grown at m (children_of meta p hidden ms) (children_of meta q hidden ns)
    below_root {es = es} x (set_new {ms = ms}) =
        behind at m [] (children_of meta p hidden ms) (held meta q defs holds (object es)) (children_of meta q hidden ms) (made_anew es refl x) (all_below meta p p.path whole same_paths refl hidden ms)
    below_root {es = es} x (set_again {d = d} {ms = ms}) =
        behind at m (held meta p defs holds d) (children_of meta p hidden ms) (held meta q defs holds (object es)) (children_of meta q hidden ms) (extended es d refl x)
        (all_below meta p p.path whole same_paths refl hidden ms)
    below_root {es = es} x (further {l = l} {d = d} {ms = ms} {ns = ns} apart more) =
        let h = held_by p.dialect.draft hidden l in
        in_front at m (held meta p (name l ∷ p.path) h d) (children_of meta p hidden ms) (held meta q (name l ∷ p.path) h d) (children_of meta q hidden ns)
        (held_below meta p p.path whole same_paths (name l ∷ p.path) (name l ∷ p.path) h d refl refl refl) (below_root x more)
