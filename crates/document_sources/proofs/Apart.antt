-- No URI is given twice, whatever is added.
use Rattle.std.proofs.Common.{◌≡◌, ◌∙◌, List, [], ◌∷◌, ℕ, Bool, true, false, not, ◌&&◌, ◌||◌, bytes_eq, if◌then◌else◌, refl, sym, ap}
use Rattle.std.proofs.lemmas.Slice.Eq.{bytes_eq-Decides}
use Rattle.std.specs.Cmp.{first_so, second_so}
use Rattle.std.specs.List.{list_any}
use Rattle.document_sources.specs.Given.{Given, with_given, are_given_apart}

-- whether a document has a URI
bears : List ℕ → Given → Bool
bears u h = bytes_eq u h.uri

both : (a b : Bool) → a ≡ true → b ≡ true → (a && b) ≡ true
both true b h g = g
both false b h g = absurd cc

neither : (a b : Bool) → (a || b) ≡ false → (a ≡ false) × (b ≡ false)
neither true b h = absurd cc
neither false b h = (refl, h)

either_none : (a b : Bool) → a ≡ false → b ≡ false → (a || b) ≡ false
either_none true b h g = absurd cc
either_none false b h g = g

not-true : (a : Bool) → not a ≡ true → a ≡ false
not-true true h = absurd cc
not-true false h = refl

lacks-added : (u : List ℕ) (gs : List Given) (g : Given) → list_any (λ h. bytes_eq u h.uri) gs ≡ false → bytes_eq u g.uri ≡ false
    → list_any (λ h. bytes_eq u h.uri) (with_given gs g) ≡ false
lacks-added u [] g lacks other = either_none (bytes_eq u g.uri) false other refl
lacks-added u (h ∷ hs) g lacks other =
    let n = neither (bytes_eq u h.uri) (list_any (λ x. bytes_eq u x.uri) hs) lacks in
    by_test (bytes_eq h.uri g.uri) n.0 n.1 (lacks-added u hs g n.1 other)
  where
    by_test : (b : Bool) → bytes_eq u h.uri ≡ false → list_any (λ x. bytes_eq u x.uri) hs ≡ false → list_any (λ x. bytes_eq u x.uri) (with_given hs g) ≡ false
        → list_any (λ x. bytes_eq u x.uri) (if b then g ∷ hs else h ∷ with_given hs g) ≡ false
    by_test true first rest more = either_none (bytes_eq u g.uri) (list_any (λ x. bytes_eq u x.uri) hs) other rest
    by_test false first rest more = either_none (bytes_eq u h.uri) (list_any (λ x. bytes_eq u x.uri) (with_given hs g)) first more

pub with_given-apart : (gs : List Given) (g : Given) → are_given_apart gs ≡ true → are_given_apart (with_given gs g) ≡ true
with_given-apart [] g h = refl
with_given-apart (x ∷ xs) g h =
    let lacks = not-true (list_any (λ y. bytes_eq x.uri y.uri) xs) (first_so (not (list_any (λ y. bytes_eq x.uri y.uri) xs)) (are_given_apart xs) h) in
    let rest = second_so (not (list_any (λ y. bytes_eq x.uri y.uri) xs)) (are_given_apart xs) h in
    by_test (bytes_eq x.uri g.uri) refl lacks rest (with_given-apart xs g rest)
  where
    by_test : (b : Bool) → bytes_eq x.uri g.uri ≡ b → list_any (λ y. bytes_eq x.uri y.uri) xs ≡ false → are_given_apart xs ≡ true → are_given_apart (with_given xs g) ≡ true
        → are_given_apart (if b then g ∷ xs else x ∷ with_given xs g) ≡ true
    by_test true e lacks rest more =
        let same : x.uri ≡ g.uri = (bytes_eq-Decides x.uri g.uri).0 e in
        both (not (list_any (λ y. bytes_eq g.uri y.uri) xs)) (are_given_apart xs) (ap (λ u. not (list_any (λ y. bytes_eq u y.uri) xs)) (sym same) ∙ ap not lacks) rest
    by_test false e lacks rest more =
        both (not (list_any (λ y. bytes_eq x.uri y.uri) (with_given xs g))) (are_given_apart (with_given xs g)) (ap not (lacks-added x.uri xs g lacks e)) more
