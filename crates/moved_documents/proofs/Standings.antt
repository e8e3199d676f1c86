-- Who bears a URI or an anchor: the same in the two documents and in the one with the other inside, where none is borne twice.
use Rattle.std.proofs.Common.{◌≡◌, ◌∙◌, ◌||◌, ◌&&◌, ℕ, List, [], ◌∷◌, ◌++◌, map, inl, inr, Bool, true, false, if◌then◌else◌, bytes_eq, Option, Some, None, is_some, refl, sym, ap, subst}
use Rattle.serde_json.specs.Data.{Data}
use Rattle.json_values.specs.Parts.{Part}
use Rattle.schema_drafts.specs.declared.draft.Draft.{Draft}
use Rattle.schema_meaning.specs.Members.{In, first, later}
use Rattle.schema_definitions.specs.Words.{or_else, last_that}
use Rattle.schema_definitions.specs.Identifiers.{identifier}
use Rattle.schema_definitions.specs.Places.{Dialect, SchemaPlace, places}
use Rattle.schema_definitions.specs.Bearers.{Standing, standings, bears, by_default}
use Rattle.document_laws.proofs.Listed.{in_first, in_second, in_either, in_map}
use Rattle.moved_documents.specs.Forms.{Pair, added, inside}
use Rattle.moved_documents.specs.Premises.{CanMove}
use Rattle.moved_documents.specs.Linked.{Near, unmoved, SamePlace, of_root, of_moved}
use Rattle.moved_documents.proofs.NearTexts.{identifier_near}
use Rattle.moved_documents.proofs.Twins.{Paths, Below}
use Rattle.moved_documents.proofs.Grown.{IsMoved}
use Rattle.moved_documents.proofs.Roots.{near_root, own, moved_path}
use Rattle.moved_documents.proofs.Placed.{OfRoot, both_roots, both_below, OfMoved, moved_root, moved_below, Comes, from_root, from_moved, root_has, moved_has, comes}

abbrev pub standing : List ℕ → SchemaPlace → Standing
standing document p = record { document = document; place = p }

-- ---- lists

pub in_mapped : {A B : Type 0} (f : A → B) (y : B) (xs : List A) → In y (map f xs) → (x : A) × In x xs × (y ≡ f x)
in_mapped f y [] i = elim i [ ]
in_mapped f _ (x ∷ xs) first = (x, first, refl)
in_mapped f y (x ∷ xs) (later i) = (let h = in_mapped f y xs i in (h.0, later h.1, h.2))

module _ {A : Type 0} (test : A → Bool) where
  if_passes : (x : A) (o : Option A) → test x ≡ true → is_some (or_else o (if test x then Some x else None)) ≡ true
  if_passes x None e = ap (λ (b : Bool). is_some (if b then Some x else None)) e
  if_passes x (Some y) e = refl

  more_passes : (o p : Option A) → is_some o ≡ true → is_some (or_else o p) ≡ true
  more_passes None p e = cc
  more_passes (Some y) p e = refl

  pub one_passes : (xs : List A) (x : A) → In x xs → test x ≡ true → is_some (last_that test xs) ≡ true
  one_passes [] x i e = elim i [ ]
  one_passes (y ∷ xs) _ first e = if_passes y (last_that test xs) e
  one_passes (y ∷ xs) x (later i) e = more_passes (last_that test xs) (if test y then Some y else None) (one_passes xs x i e)

  -- one that is found passes, and is among them
  pub record IsLast (xs : List A) (x : A) : Type 0 where
    pub among : In x xs
    pub passes : test x ≡ true

  last_here : (y : A) (ys : List A) (x : A) (b : Bool) → test y ≡ b → (if b then Some y else None) ≡ Some x → IsLast (y ∷ ys) x
  last_here y ys x true is e = (let same : y ≡ x = cc in subst (λ z. IsLast (y ∷ ys) z) same (record { among = first; passes = is }))
  last_here y ys x false is e = (let no : None ≡ Some x = e in absurd (cc))

  pub found_last : (xs : List A) (x : A) → last_that test xs ≡ Some x → IsLast xs x
  found_last [] x e = (let no : None ≡ Some x = e in absurd (cc))
  found_last (y ∷ ys) x e = by (last_that test ys) e (found_last ys)
    where
      by : (o : Option A) → or_else o (if test y then Some y else None) ≡ Some x → ((z : A) → o ≡ Some z → IsLast ys z) → IsLast (y ∷ ys) x
      by None h rest = last_here y ys x (test y) refl h
      by (Some z) h rest = (let behind = rest x h in record { among = later behind.among; passes = behind.passes })

-- ---- standings that are alike

pub record Alike (p : Pair) (s t : Standing) : Type 0 where
  pub place : SamePlace p s.document s.place.path t.document t.place.path
  pub base : s.place.base ≡ t.place.base
  pub dialect : s.place.dialect ≡ t.place.dialect
  pub awaits : s.place.awaits ≡ t.place.awaits
  pub near : Near p.fresh p.moved s.place.contents t.place.contents
  pub bears_alike : (uri : List ℕ) → bears uri s ≡ bears uri t

below_alike : (r : Paths) (p : Pair) (n n' : List ℕ) (x y : SchemaPlace) → SamePlace p n x.path n' y.path → Below r x y → Alike p (standing n x) (standing n' y)
below_alike r p n n' x y place b = record {
  place = place;
  base = b.twin.base;
  dialect = b.twin.dialect;
  awaits = b.twin.awaits;
  near = subst (λ (d : Data). Near p.fresh p.moved x.contents d) b.twin.contents unmoved;
  bears_alike = λ uri. rw (b.here, b.there, b.twin.contents, b.twin.base, b.twin.dialect, b.twin.awaits) refl;
}

twice : (b : Bool) → (b || b) ≡ b
twice true = refl
twice false = refl

module _ (p : Pair) (draft : Draft) (whole : Data) (can : CanMove p draft whole) (told : List ℕ → Option Dialect) where
  abbrev AlikeHere : Standing → Standing → Type 0
  AlikeHere s t = Alike p s t

  abbrev pub root_name : List ℕ
  root_name = p.layer.number ∷ p.root_uri

  abbrev pub moved_name : List ℕ
  moved_name = p.layer.number ∷ p.moved_uri

  pub root_alike : (x y : SchemaPlace) → OfRoot p draft whole can told x y → AlikeHere (standing root_name x) (standing root_name y)
  root_alike _ _ both_roots = record {
    place = of_root;
    base = refl;
    dialect = refl;
    awaits = refl;
    near = near_root p draft whole can told;
    bears_alike = λ uri. rw (identifier_near p.fresh p.moved can.fresh p.root whole (near_root p draft whole can told) (own p draft whole can told)) refl;
  }
  root_alike _ _ (both_below {x = x} {y = y} b) =
      below_alike _ p root_name root_name x y (subst (λ (path : List Part). SamePlace p root_name x.path root_name path) b.paths of_root) b

  moved_bears : (y : SchemaPlace) (h : IsMoved (moved_path p draft whole can told) (record { path = []; contents = p.moved; base = p.moved_uri; dialect = own p draft whole can told; awaits = None }) y) (uri : List ℕ)
      → (bytes_eq p.moved_uri uri || (is_some (identifier (own p draft whole can told) p.moved) && bytes_eq p.moved_uri uri)) ≡ bears uri (standing root_name y)
  moved_bears y h uri =
      let left : (bytes_eq p.moved_uri uri || (is_some (identifier (own p draft whole can told) p.moved) && bytes_eq p.moved_uri uri)) ≡ bytes_eq p.moved_uri uri =
      ap (λ (o : Option (List ℕ)). bytes_eq p.moved_uri uri || (is_some o && bytes_eq p.moved_uri uri)) can.identified ∙ twice (bytes_eq p.moved_uri uri) in
      let right : bears uri (standing root_name y) ≡ bytes_eq p.moved_uri uri =
      rw (h.below, sym h.twin.contents, sym h.twin.base, sym h.twin.dialect, sym h.twin.awaits, can.identified) refl in
      left ∙ sym right

  pub moved_alike : (x y : SchemaPlace) → OfMoved p draft whole can told x y → AlikeHere (standing moved_name x) (standing root_name y)
  moved_alike _ _ (moved_root {y = y} h) = record {
    place = subst (λ (path : List Part). SamePlace p moved_name [] root_name path) (sym h.path) (of_moved {path = []});
    base = h.twin.base;
    dialect = h.twin.dialect;
    awaits = h.twin.awaits;
    near = subst (λ (d : Data). Near p.fresh p.moved p.moved d) h.twin.contents unmoved;
    bears_alike = moved_bears y h;
  }
  moved_alike _ _ (moved_below {x = x} {y = y} b) =
      below_alike _ p moved_name root_name x y (subst (λ (path : List Part). SamePlace p moved_name x.path root_name path) (sym b.paths) of_moved) b

  -- ---- each has one

  abbrev pub before : List Standing
  before = standings told (added p)

  abbrev pub after : List Standing
  after = standings told (inside p whole)

  abbrev HasAfter : Standing → Type 0
  HasAfter s = (t : Standing) × In t after × AlikeHere s t

  abbrev HasBefore : Standing → Type 0
  HasBefore t = (s : Standing) × In s before × AlikeHere s t

  pub inside_listed : (y : SchemaPlace) → In y (places told p.root_uri (by_default p.layer) whole) → In (standing root_name y) after
  unfolding standings
  inside_listed y i = in_first (standing root_name y) _ [] (in_map (standing root_name) y (places told p.root_uri (by_default p.layer) whole) i)

  root_listed : (x : SchemaPlace) → In x (places told p.root_uri (by_default p.layer) p.root) → In (standing root_name x) before
  unfolding standings
  root_listed x i = in_first (standing root_name x) _ _ (in_map (standing root_name) x (places told p.root_uri (by_default p.layer) p.root) i)

  moved_listed : (x : SchemaPlace) → In x (places told p.moved_uri (by_default p.layer) p.moved) → In (standing moved_name x) before
  unfolding standings
  moved_listed x i =
      in_second (standing moved_name x) (map (standing root_name) (places told p.root_uri (by_default p.layer) p.root)) _
      (in_first (standing moved_name x) _ [] (in_map (standing moved_name) x (places told p.moved_uri (by_default p.layer) p.moved) i))

  root_has_after : (x : SchemaPlace) → In x (places told p.root_uri (by_default p.layer) p.root) → HasAfter (standing root_name x)
  root_has_after x i = (let h = root_has p draft whole can told x i in (standing root_name h.0, inside_listed h.0 h.1, root_alike x h.0 h.2))

  moved_has_after : (x : SchemaPlace) → In x (places told p.moved_uri (by_default p.layer) p.moved) → HasAfter (standing moved_name x)
  moved_has_after x i = (let h = moved_has p draft whole can told x i in (standing root_name h.0, inside_listed h.0 h.1, moved_alike x h.0 h.2))

  pub has_after : (s : Standing) → In s before → HasAfter s
  unfolding standings
  has_after s i =
      let roots = map (standing root_name) (places told p.root_uri (by_default p.layer) p.root) in
      let others = map (standing moved_name) (places told p.moved_uri (by_default p.layer) p.moved) in
      elim (in_either s roots (others ++ []) i) [
        | inl j ↦ (let h = in_mapped (standing root_name) s (places told p.root_uri (by_default p.layer) p.root) j in subst HasAfter (sym h.2) (root_has_after h.0 h.1))
        | inr j ↦ elim (in_either s others [] j) [
          | inl k ↦ (let h = in_mapped (standing moved_name) s (places told p.moved_uri (by_default p.layer) p.moved) k in subst HasAfter (sym h.2) (moved_has_after h.0 h.1))
          | inr k ↦ elim k [ ]
        ]
      ]

  comes_before : (y : SchemaPlace) → Comes p draft whole can told y → HasBefore (standing root_name y)
  comes_before y (from_root x i h) = (standing root_name x, root_listed x i, root_alike x y h)
  comes_before y (from_moved x i h) = (standing moved_name x, moved_listed x i, moved_alike x y h)

  pub has_before : (t : Standing) → In t after → HasBefore t
  unfolding standings
  has_before t i =
      let all = map (standing root_name) (places told p.root_uri (by_default p.layer) whole) in
      elim (in_either t all [] i) [
        | inl j ↦ (let h = in_mapped (standing root_name) t (places told p.root_uri (by_default p.layer) whole) j in
            subst HasBefore (sym h.2) (comes_before h.0 (comes p draft whole can told h.0 h.1)))
        | inr j ↦ elim j [ ]
      ]

-- ---- the last that passes a test that does not tell them apart, where one passes at most

pub data BothFound (p : Pair) : Option Standing → Option Standing → Type 0 where
  neither_found : BothFound p None None
  each_found : {s t : Standing} → Alike p s t → BothFound p (Some s) (Some t)

module _ (p : Pair) (draft : Draft) (whole : Data) (can : CanMove p draft whole) (told : List ℕ → Option Dialect) (test : Standing → Bool)
    (same : (s t : Standing) → Alike p s t → test s ≡ test t)
    (once : (s t : Standing) → In s (standings told (inside p whole)) → In t (standings told (inside p whole)) → test s ≡ true → test t ≡ true → s ≡ t) where
  abbrev firsts : List Standing
  firsts = standings told (added p)

  abbrev seconds : List Standing
  seconds = standings told (inside p whole)

  some_after : (s : Standing) → last_that test firsts ≡ Some s → is_some (last_that test seconds) ≡ true
  some_after s e =
      let l = found_last test firsts s e in
      let h = has_after p draft whole can told s l.among in
      one_passes test seconds h.0 h.1 (sym (same s h.0 h.2) ∙ l.passes)

  some_before : (t : Standing) → last_that test seconds ≡ Some t → is_some (last_that test firsts) ≡ true
  some_before t e =
      let l = found_last test seconds t e in
      let h = has_before p draft whole can told t l.among in
      one_passes test firsts h.0 h.1 (same h.0 t h.2 ∙ l.passes)

  both_alike : (s t : Standing) → last_that test firsts ≡ Some s → last_that test seconds ≡ Some t → Alike p s t
  both_alike s t e f =
      let l = found_last test firsts s e in
      let k = found_last test seconds t f in
      let h = has_after p draft whole can told s l.among in
      let one : h.0 ≡ t = once h.0 t h.1 k.among (sym (same s h.0 h.2) ∙ l.passes) k.passes in
      subst (λ (x : Standing). Alike p s x) one h.2

  pub both_found : BothFound p (last_that test firsts) (last_that test seconds)
  both_found = by (last_that test firsts) (last_that test seconds) refl refl
    where
      by : (o q : Option Standing) → last_that test firsts ≡ o → last_that test seconds ≡ q → BothFound p o q
      by None None e f = neither_found
      by (Some s) (Some t) e f = each_found (both_alike s t e f)
      by None (Some t) e f = (let no : false ≡ true = sym (ap is_some e) ∙ some_before t f in absurd (cc))
      by (Some s) None e f = (let no : false ≡ true = sym (ap is_some f) ∙ some_after s e in absurd (cc))
