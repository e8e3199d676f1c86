-- Texts by their first occurrence, and the names of dynamic anchors.
use Rattle.std.proofs.Common.{◌≡◌, ℕ, List, [], ◌∷◌, Bool, true, false, not, ◌&&◌, ◌||◌, if◌then◌else◌, Option, Some, None, is_some, refl, sym, ap, ◌∙◌, bytes_eq}
use Rattle.std.specs.List.{list_any, flat_map}
use Rattle.std.proofs.lemmas.List.Folds.{list_any-append}
use Rattle.std.proofs.lemmas.Slice.Eq.{bytes_eq-Decides}
use Rattle.schema_definitions.specs.Words.{or_else, last_that, has_text}
use Rattle.schema_definitions.specs.Identifiers.{dynamic_anchors}
use Rattle.schema_definitions.specs.Bearers.{Standing, Documents, standings, meta, bears_anchor, dynamically_anchored}
use Rattle.schema_definitions.specs.CompileKeys.{first_ones, names_at, dynamic_names}

neither : (a b : Bool) → a ≡ false → b ≡ false → (a || b) ≡ false
neither a b e f = ap (λ c. c || b) e ∙ f

-- ---- texts by their first occurrence are all of them

first_or_later : (k u : List ℕ) (us : List (List ℕ)) → (bytes_eq k u || list_any (bytes_eq k) us) ≡ true → (b : Bool) → bytes_eq k u ≡ b → b ≡ false → list_any (bytes_eq k) us ≡ true
first_or_later k u us e true is f = absurd (cc (f))
first_or_later k u us e false is f = ap (λ c. c || list_any (bytes_eq k) us) (sym is) ∙ e

found_first : (k u : List ℕ) (us : List (List ℕ)) → bytes_eq k u ≡ true → has_text k (u ∷ us) ≡ true
found_first k u us e = ap (λ b. b || list_any (bytes_eq k) us) e

found_later : (k u : List ℕ) (us : List (List ℕ)) (b : Bool) → bytes_eq k u ≡ b → has_text k us ≡ true → has_text k (u ∷ us) ≡ true
found_later k u us true is e = found_first k u us is
found_later k u us false is e = ap (λ b. b || list_any (bytes_eq k) us) is ∙ e

-- one that was seen is another
not_this : (k u : List ℕ) (seen : List (List ℕ)) → has_text k seen ≡ false → has_text u seen ≡ true → (b : Bool) → bytes_eq k u ≡ b → b ≡ false
not_this k u seen unseen before true is = (let here = ap (λ t. has_text t seen) ((bytes_eq-Decides k u).0 is) in absurd (cc (unseen, before, here)))
not_this k u seen unseen before false is = refl

each_kept : (k : List ℕ) (seen us : List (List ℕ)) → has_text k seen ≡ false → has_text k us ≡ true → has_text k (first_ones seen us) ≡ true
each_kept k seen [] unseen among = among
each_kept k seen (u ∷ us) unseen among = by (has_text u seen) refl (bytes_eq k u) refl (each_kept k seen us unseen) (each_kept k (u ∷ seen) us)
  where
    by : (b : Bool) → has_text u seen ≡ b → (c : Bool) → bytes_eq k u ≡ c → (has_text k us ≡ true → has_text k (first_ones seen us) ≡ true)
        → (has_text k (u ∷ seen) ≡ false → has_text k us ≡ true → has_text k (first_ones (u ∷ seen) us) ≡ true)
        → has_text k (if b then first_ones seen us else u ∷ first_ones (u ∷ seen) us) ≡ true
    by true before c is old new = old (first_or_later k u us among c is (not_this k u seen unseen before c is))
    by false unlike true is old new = found_first k u (first_ones (u ∷ seen) us) is
    by false unlike false is old new =
        found_later k u (first_ones (u ∷ seen) us) false is
        (new (neither (bytes_eq k u) (has_text k seen) is unseen) (first_or_later k u us among false is refl))

-- ---- a resource bears no other name

last_of : (a b c : Bool) → (a && b && c) ≡ true → c ≡ true
last_of true true c e = e
last_of true false c e = absurd (cc (e))
last_of false b c e = absurd (cc (e))

on_left : (a b : Bool) → a ≡ true → (a || b) ≡ true
on_left a b e = ap (λ c. c || b) e

on_right : (a b : Bool) → b ≡ true → (a || b) ≡ true
on_right true b e = refl
on_right false b e = e

module _ (u k : List ℕ) where
  abbrev test : Standing → Bool
  test s = bears_anchor dynamic_anchors u k s

  borne_at : (s : Standing) → test s ≡ true → has_text k (names_at s) ≡ true
  borne_at s e = last_of (not (is_some s.place.awaits)) (bytes_eq s.place.base u) (has_text k (names_at s)) e

  borne_among : (ss : List Standing) → is_some (last_that test ss) ≡ true → has_text k (flat_map names_at ss) ≡ true
  borne_among [] e = absurd (cc (e))
  borne_among (s ∷ ss) e = list_any-append (bytes_eq k) (names_at s) (flat_map names_at ss) ∙ by (last_that test ss) refl (test s) refl (borne_among ss) e
    where
      by : (o : Option Standing) → last_that test ss ≡ o → (b : Bool) → test s ≡ b → (is_some (last_that test ss) ≡ true → has_text k (flat_map names_at ss) ≡ true)
          → is_some (or_else o (if b then Some s else None)) ≡ true → (has_text k (names_at s) || has_text k (flat_map names_at ss)) ≡ true
      by (Some x) later b is others e = on_right (has_text k (names_at s)) (has_text k (flat_map names_at ss)) (others (ap is_some later))
      by None later true is others e = on_left (has_text k (names_at s)) (has_text k (flat_map names_at ss)) (borne_at s is)
      by None later false is others e = absurd (cc (e))

pub borne_are_named : (docs : Documents) (u k : List ℕ) → is_some (dynamically_anchored docs u k) ≡ true → has_text k (dynamic_names docs) ≡ true
unfolding dynamic_names
borne_are_named docs u k e = each_kept k [] (flat_map names_at (standings (meta docs) docs)) refl (borne_among u k (standings (meta docs) docs) e)
