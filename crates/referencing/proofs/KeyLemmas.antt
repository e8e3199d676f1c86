-- Scope keys that are equal.
use Rattle.std.proofs.Common.{◌≡◌, ◌∙◌, ℕ, List, [], ◌∷◌, ◌++◌, Bool, true, false, ◌&&◌, map, Option, Some, None, option_map, Decides, refl, sym, ap, ap₂, bytes_eq}
use Rattle.std.specs.Option.{option_eq}
use Rattle.std.specs.Cmp.Lexicographic.{pointwise}
use Rattle.std.specs.List.{flat_map}
use Rattle.std.specs.Hash.{HashWrites}
use Rattle.std.specs.Hash as fed
use Rattle.std.proofs.lemmas.List.{length-map}
use Rattle.std.proofs.lemmas.Bool.{false≢true}
use Rattle.std.proofs.lemmas.Slice.Eq.{slice_eq-Decides, bytes_eq-Decides}
use Rattle.schema_definitions.specs.Words.{or}
use Rattle.schema_definitions.specs.CompileKeys.{ScopeKey}
use Rattle.referencing.specs.Keys.{keys_eq}

-- a test through a function, at what is there or not, and at lists of these
module _ {A B : Type 0} (f : A → B) (E : B → B → Bool) where
  option_eq-map : (x y : Option A) → option_eq (λ u v. E (f u) (f v)) x y ≡ option_eq E (option_map f x) (option_map f y)
  option_eq-map None None = refl
  option_eq-map None (Some v) = refl
  option_eq-map (Some u) None = refl
  option_eq-map (Some u) (Some v) = refl

  pub options-map : (xs ys : List (Option A)) → pointwise (option_eq (λ u v. E (f u) (f v))) xs ys ≡ pointwise (option_eq E) (map (option_map f) xs) (map (option_map f) ys)
  options-map [] [] = refl
  options-map [] (y ∷ ys) = refl
  options-map (x ∷ xs) [] = refl
  options-map (x ∷ xs) (y ∷ ys) = ap₂ (λ b c. b && c) (option_eq-map x y) (options-map xs ys)

-- what is fed through a function, at the same
module _ {A B : Type 0} (f : A → B) (F : B → HashWrites) where
  option-fed : (x : Option A) → fed.option (λ u. F (f u)) x ≡ fed.option F (option_map f x)
  option-fed None = refl
  option-fed (Some u) = refl

  each-fed : (xs : List (Option A)) → flat_map (fed.option (λ u. F (f u))) xs ≡ flat_map (fed.option F) (map (option_map f) xs)
  each-fed [] = refl
  each-fed (x ∷ xs) = ap₂ (λ us vs. us ++ vs) (option-fed x) (each-fed xs)

  pub slice-fed : (xs : List (Option A)) → fed.slice (fed.option (λ u. F (f u))) xs ≡ fed.slice (fed.option F) (map (option_map f) xs)
  slice-fed xs = ap₂ (λ n ws. fed.usize n ++ ws) (sym (length-map xs (option_map f))) (each-fed xs)

option_eq-Decides : (a b : Option (List ℕ)) → Decides (option_eq bytes_eq a b) (a ≡ b)
option_eq-Decides None None = (λ h. refl, λ e. refl)
option_eq-Decides None (Some v) = (λ h. absurd (false≢true h), λ e. absurd (cc (e)))
option_eq-Decides (Some u) None = (λ h. absurd (false≢true h), λ e. absurd (cc (e)))
option_eq-Decides (Some u) (Some v) = (λ h. ap Some ((bytes_eq-Decides u v).0 h), λ e. (bytes_eq-Decides u v).1 (ap (or u) e))

both : (a b : Bool) → (a && b) ≡ true → (a ≡ true) × (b ≡ true)
both true b e = (refl, e)
both false b e = absurd (cc (e))

pub keys_eq-Decides : (a b : ScopeKey) (r : Bool) → r ≡ keys_eq a b → Decides r (a ≡ b)
keys_eq-Decides a b r e =
    let bearers = slice_eq-Decides option_eq-Decides a.bearers b.bearers (pointwise (option_eq bytes_eq) a.bearers b.bearers) refl in
    let run = bytes_eq-Decides a.run b.run in (
      λ h. let parts = both (pointwise (option_eq bytes_eq) a.bearers b.bearers) (bytes_eq a.run b.run) (sym e ∙ h) in
          ap₂ (λ os u. record { bearers = os; run = u }) (bearers.0 parts.0) (run.0 parts.1),
      λ h. e ∙ ap₂ (λ x y. x && y) (bearers.1 (ap (λ (k : ScopeKey). k.bearers) h)) (run.1 (ap (λ (k : ScopeKey). k.run) h)),
    )
