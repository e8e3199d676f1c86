-- The questions of `items` and of `properties`, one by one.
use Rattle.std.proofs.Common.{◌≡◌, ◌∙◌, ◌⊎◌, inl, inr, ◌++◌, ◌+◌, ℕ, zero, suc, List, [], ◌∷◌, map, Option, Some, None, refl, sym, ap, subst, arith, add-zero}
use Rattle.std.specs.List.{AllByRecursion, flat_map}
use Rattle.serde_json.specs.Data.{Data, Items, no_items, item}
use Rattle.serde_json.specs.Find.{get, get_item}
use Rattle.schema_meaning.specs.Members.{In, first, later}
use Rattle.schema_meaning.specs.Places.{to_item, to_member}
use Rattle.schema_meaning.specs.Questions.{Question, question, at, at_name, each_item, items_from, if_member, each_declared}

-- ---- elements of lists

pub each_in : {A : Type 0} (P : A → Type 0) (xs : List A) → AllByRecursion P xs → (x : A) → In x xs → P x
each_in P [] h x i = elim i [ ]
each_in P (y ∷ xs) h x first = h.0
each_in P (y ∷ xs) h x (later i) = each_in P xs h.1 x i

pub in_before : {A : Type 0} {x : A} (xs ys : List A) → In x xs → In x (xs ++ ys)
in_before [] ys i = elim i [ ]
in_before (y ∷ xs) ys first = first
in_before (y ∷ xs) ys (later i) = later (in_before xs ys i)

pub in_behind : {A : Type 0} {x : A} (xs ys : List A) → In x ys → In x (xs ++ ys)
in_behind [] ys i = i
in_behind (y ∷ xs) ys i = later (in_behind xs ys i)

one_later : {A : Type 0} {x y : A} {xs ys : List A} → In x xs ⊎ In x ys → In x (y ∷ xs) ⊎ In x ys
one_later (inl i) = inl (later i)
one_later (inr i) = inr i

pub in_either : {A : Type 0} {x : A} (xs ys : List A) → In x (xs ++ ys) → In x xs ⊎ In x ys
in_either [] ys i = inr i
in_either (y ∷ xs) ys first = inl first
in_either (y ∷ xs) ys (later i) = one_later (in_either xs ys i)

module _ {A B : Type 0} (f : A → List B) where
  pub in_all : {x : A} {y : B} (xs : List A) → In x xs → In y (f x) → In y (flat_map f xs)
  in_all [] i j = elim i [ ]
  in_all (x ∷ xs) first j = in_before (f x) (flat_map f xs) j
  in_all (x ∷ xs) (later i) j = in_behind (f x) (flat_map f xs) (in_all xs i j)

  abbrev From : B → List A → Type 0
  From y xs = (x : A) × In x xs × In y (f x)

  pub in_some : {y : B} (xs : List A) → In y (flat_map f xs) → From y xs
  in_some [] i = elim i [ ]
  in_some {y} (x ∷ xs) i = elim (in_either (f x) (flat_map f xs) i) [ inl j ↦ (x, first, j) | inr j ↦ (let w = in_some xs j in (w.0, later w.1, w.2)) ]

-- what was mapped
pub in_mapped : {A B : Type 0} (f : A → B) {y : B} (xs : List A) → In y (map f xs) → (x : A) × In x xs × (f x ≡ y)
in_mapped f [] i = elim i [ ]
in_mapped f (x ∷ xs) first = (x, first, refl)
in_mapped f (x ∷ xs) (later i) = let w = in_mapped f xs i in (w.0, later w.1, w.2)

-- ---- `items`

module _ {S : Type 0} (keyword : List ℕ) (s : S) where
  pub item_question : (i : ℕ) (ds : Items) (q : Question S) → In q (each_item keyword s i ds)
      → (n : ℕ) × (e : Data) × (get_item n ds ≡ Some e) × (q ≡ question s (to_item (i + n) e) (at keyword))
  item_question i no_items q h = elim h [ ]
  item_question i (item d ds) q first = (0, d, refl, ap (λ j. question s (to_item j d) (at keyword)) (sym (add-zero i)))
  item_question i (item d ds) q (later h) =
      let w = item_question (suc i) ds q h in
      let same : suc i + w.0 ≡ i + suc w.0 = omega arith in
      (suc w.0, w.1, w.2, w.3 ∙ ap (λ j. question s (to_item j w.1) (at keyword)) same)

  pub item_asked : (i : ℕ) (ds : Items) (n : ℕ) (e : Data) → get_item n ds ≡ Some e → In (question s (to_item (i + n) e) (at keyword)) (each_item keyword s i ds)
  item_asked i no_items n e g = (let no : None ≡ Some e = g in cc)
  item_asked i (item d ds) zero e g =
      let same : d ≡ e = cc in
      subst (λ x. In (question s (to_item (i + 0) x) (at keyword)) (each_item keyword s i (item d ds))) same
      (subst (λ j. In (question s (to_item j d) (at keyword)) (each_item keyword s i (item d ds))) (sym (add-zero i)) first)
  item_asked i (item d ds) (suc n) e g =
      let same : suc i + n ≡ i + suc n = omega arith in
      later (subst (λ j. In (question s (to_item j e) (at keyword)) (each_item keyword s (suc i) ds)) same (item_asked (suc i) ds n e g))

pub item_further : (start n : ℕ) (ds : Items) → get_item n (items_from start ds) ≡ get_item (start + n) ds
item_further zero n no_items = refl
item_further zero n (item d ds) = ap (λ k. get_item k (item d ds)) (let same : n ≡ 0 + n = omega arith in same)
item_further (suc start) n no_items = refl
item_further (suc start) n (item d ds) = item_further start n ds ∙ ap (λ k. get_item k (item d ds)) (let same : suc (start + n) ≡ suc start + n = omega arith in same)

-- ---- `properties`

module _ {S : Type 0} (keyword : List ℕ) (d : Data) where
  abbrev pub asks_member : List ℕ × S → List (Question S)
  asks_member p = if_member (get p.0 d) (λ e. question p.1 (to_member p.0 e) (at_name keyword p.0) ∷ [])

  one_member : (p : List ℕ × S) (o : Option Data) (q : Question S) → get p.0 d ≡ o → In q (if_member o (λ e. question p.1 (to_member p.0 e) (at_name keyword p.0) ∷ []))
      → (e : Data) × (get p.0 d ≡ Some e) × (q ≡ question p.1 (to_member p.0 e) (at_name keyword p.0))
  one_member p None q g i = elim i [ ]
  one_member p (Some e) q g first = (e, g, refl)
  one_member p (Some e) q g (later i) = elim i [ ]

  pub declared_question : (ps : List (List ℕ × S)) (q : Question S) → In q (each_declared keyword d ps)
      → (p : List ℕ × S) × (e : Data) × In p ps × (get p.0 d ≡ Some e) × (q ≡ question p.1 (to_member p.0 e) (at_name keyword p.0))
  declared_question ps q i =
      let w = in_some asks_member ps i in
      let one = one_member w.0 (get w.0.0 d) q refl w.2 in
      (w.0, one.0, w.1, one.1, one.2)

  pub declared_asked : (ps : List (List ℕ × S)) (p : List ℕ × S) (e : Data) → In p ps → get p.0 d ≡ Some e
      → In (question p.1 (to_member p.0 e) (at_name keyword p.0)) (each_declared keyword d ps)
  declared_asked ps p e i g =
      in_all asks_member ps i
      (subst (λ o. In (question p.1 (to_member p.0 e) (at_name keyword p.0)) (if_member o (λ e. question p.1 (to_member p.0 e) (at_name keyword p.0) ∷ []))) (sym g) first)
