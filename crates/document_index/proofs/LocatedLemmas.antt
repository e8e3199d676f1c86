-- The schema places of several documents, one more at a time.
use Rattle.std.proofs.Common.{◌≡◌, ℕ, ◌+◌, suc, List, [], ◌∷◌, ◌++◌, map, length, refl, sym, ap, ap₂, subst, ◌∙◌, append-nil, Option, add-zero, zero-add, arith}
use Rattle.std.specs.List.{AllByRecursion, flat_map, enumerate_from}
use Rattle.std.proofs.lemmas.Grind.{flat_map-append}
use Rattle.std.proofs.lemmas.List.{map-append}
use Rattle.schema_definitions.specs.Places.{Dialect, SchemaPlace, places}
use Rattle.schema_definitions.specs.Bearers.{Document, Standing, document_name, standing_in, standings}
use Rattle.document_laws.specs.Agreeing.{Agrees}
use Rattle.document_laws.proofs.Lists.{first_part, second_part}
use Rattle.document_laws.proofs.Agreeing.{agreeing_tell_places}
use Rattle.document_laws.proofs.Alike.{all_stand}
use Rattle.document_index.specs.Located.{Located, standings_at, located_standings}
use Rattle.document_index.specs.Seen.{standing_of, located_of}
use Rattle.document_index.specs.declared.standing.Standing as found_places

abbrev pub located_at : ℕ → List ℕ → SchemaPlace → Located
located_at position name p = record { document = position; standing = record { document = name; place = p } }

pub map-through : {X Y Z : Type 0} (f : Y → Z) (g : X → Y) (xs : List X) → map f (map g xs) ≡ map (λ x. f (g x)) xs
map-through f g [] = refl
map-through f g (x ∷ xs) = ap (λ l. f (g x) ∷ l) (map-through f g xs)

pub no_items : {X : Type 0} (xs : List X) → length xs ≡ 0 → xs ≡ []
no_items [] e = refl
no_items (x ∷ xs) e = absurd (omega (arith, e))

-- those of a document, from its places
pub located-places : (meta : List ℕ → Option Dialect) (n : ℕ) (d : Document) (ps : List SchemaPlace) → ps ≡ places meta d.uri d.default d.contents → map (located_at n (document_name d)) ps ≡ standings_at meta (n, d)
located-places meta n d ps e =
    let stand : SchemaPlace → Standing = λ p. record { document = document_name d; place = p } in
    let located : Standing → Located = λ s. record { document = n; standing = s } in
    ap (map (located_at n (document_name d))) e ∙ sym (map-through located stand (places meta d.uri d.default d.contents))

enumerate-push : {X : Type 0} (n : ℕ) (xs : List X) (x : X) → enumerate_from n (xs ++ x ∷ []) ≡ enumerate_from n xs ++ (n + length xs, x) ∷ []
enumerate-push n [] x = ap (λ k. (k, x) ∷ []) (sym (add-zero n))
enumerate-push {X} n (y ∷ xs) x =
    let e : n + 1 + length xs ≡ n + suc (length xs) = omega arith in
    ap (λ l. (n, y) ∷ l) (enumerate-push (n + 1) xs x ∙ ap (λ k. enumerate_from (n + 1) xs ++ (k, x) ∷ []) e)

pub located-push : (meta : List ℕ → Option Dialect) (documents : List Document) (d : Document) → located_standings meta (documents ++ d ∷ []) ≡ located_standings meta documents ++ standings_at meta (length documents, d)
unfolding located_standings
located-push meta documents d =
    ap (flat_map (standings_at meta)) (enumerate-push 0 documents d)
    ∙ flat_map-append (standings_at meta) (enumerate_from 0 documents) ((0 + length documents, d) ∷ [])
    ∙ ap (λ l. flat_map (standings_at meta) (enumerate_from 0 documents) ++ l) (append-nil (standings_at meta (0 + length documents, d)) ∙ ap (λ k. standings_at meta (k, d)) (zero-add (length documents)))

-- without the positions
same : (n : ℕ) (ss : List Standing) → map (λ (l : Located). l.standing) (map (λ s. record { document = n; standing = s }) ss) ≡ ss
same n [] = refl
same n (s ∷ ss) = ap (λ l. s ∷ l) (same n ss)

standings-from : (meta : List ℕ → Option Dialect) (n : ℕ) (documents : List Document) → map (λ (l : Located). l.standing) (flat_map (standings_at meta) (enumerate_from n documents)) ≡ flat_map (standing_in meta) documents
standings-from meta n [] = refl
standings-from meta n (d ∷ ds) =
    map-append (λ (l : Located). l.standing) (standings_at meta (n, d)) (flat_map (standings_at meta) (enumerate_from (n + 1) ds))
    ∙ ap (λ l. l ++ map (λ (l : Located). l.standing) (flat_map (standings_at meta) (enumerate_from (n + 1) ds))) (same n (standing_in meta d))
    ∙ ap (λ l. standing_in meta d ++ l) (standings-from meta (n + 1) ds)

pub standings-located : (meta : List ℕ → Option Dialect) (documents : List Document) → map (λ (l : Located). l.standing) (located_standings meta documents) ≡ standings meta documents
unfolding located_standings standings
standings-located meta documents = standings-from meta 0 documents

-- those found, without the positions
pub stand-located : (meta : List ℕ → Option Dialect) (documents : List Document) (found : List found_places.Standing) → map located_of found ≡ located_standings meta documents
    → map standing_of found ≡ standings meta documents
stand-located meta documents found e =
    sym (map-through (λ (l : Located). l.standing) located_of found) ∙ ap (map (λ (l : Located). l.standing)) e ∙ standings-located meta documents

-- ---- under two that tell the same of all meta-schemas that are named at the places

module _ (told after : List ℕ → Option Dialect) where
  standing-alike : (d : Document) → AllByRecursion (Agrees told after) (standing_in told d) → standing_in after d ≡ standing_in told d
  unfolding standings
  standing-alike d agree =
      sym (append-nil (standing_in after d))
      ∙ agreeing_tell_places told after (d ∷ []) (subst (AllByRecursion (Agrees told after)) (sym (append-nil (standing_in told d))) agree)
      ∙ append-nil (standing_in told d)

  alike-from : (n : ℕ) (ds : List Document) → AllByRecursion (Agrees told after) (flat_map (standing_in told) ds)
      → flat_map (standings_at after) (enumerate_from n ds) ≡ flat_map (standings_at told) (enumerate_from n ds)
  alike-from n [] agree = refl
  alike-from n (d ∷ ds) agree =
      let here = first_part (Agrees told after) (standing_in told d) (flat_map (standing_in told) ds) agree in
      let further = second_part (Agrees told after) (standing_in told d) (flat_map (standing_in told) ds) agree in
      ap₂ (λ ls ms. ls ++ ms) (ap (map (λ s. record { document = n; standing = s })) (standing-alike d here)) (alike-from (n + 1) ds further)

  pub located-alike : (documents : List Document) → AllByRecursion (Agrees told after) (standings told documents) → located_standings after documents ≡ located_standings told documents
  unfolding located_standings standings
  located-alike documents agree = alike-from 0 documents agree

  pub located-same : ((uri : List ℕ) → after uri ≡ told uri) → (documents : List Document) → located_standings after documents ≡ located_standings told documents
  located-same same documents = located-alike documents (all_stand after told same (standings told documents))
