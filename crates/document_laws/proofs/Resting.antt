-- Stages at rest stay at rest.
use Rattle.std.proofs.Common.{◌≡◌, ◌∙◌, ◌+◌, ◌-◌, ℕ, zero, suc, List, Bool, Option, option_map, refl, ap, sym, arith}
use Rattle.std.specs.List.{AllByRecursion}
use Rattle.schema_definitions.specs.Words.{last_that}
use Rattle.schema_definitions.specs.Places.{Dialect}
use Rattle.schema_definitions.specs.Bearers.{Documents, Standing, standings, bears, last_standing, dialect_by, dialects}
use Rattle.document_laws.specs.Agreeing.{Agrees}
use Rattle.document_laws.proofs.Agreeing.{agreeing_tell_places}
use Rattle.document_laws.proofs.Alike.{alike_tell}
use Rattle.document_laws.specs.Stages.{AtRest, RestStays, RestIsFixed}

module _ (told after : List ℕ → Option Dialect) where
  -- where two agree, the places are the same, and so the bearers
  same_last : (test : Standing → Bool) (docs : Documents) → AllByRecursion (Agrees told after) (standings told docs)
      → last_standing test after docs ≡ last_standing test told docs
  same_last test docs h = ap (last_that test) (agreeing_tell_places told after docs h)

beyond : ℕ → ℕ → ℕ
beyond zero n = n
beyond (suc k) n = suc (beyond k n)

is_sum : (k n : ℕ) → beyond k n ≡ k + n
unfolding beyond
is_sum zero n = omega arith
is_sum (suc k) n = omega (arith, is_sum k n)

module _ (docs : Documents) where
  one_more : (n : ℕ) → AtRest docs n → (uri : List ℕ) → dialects docs (suc (suc n)) uri ≡ dialects docs (suc n) uri
  unfolding dialects
  one_more n rest uri = ap (option_map dialect_by) (same_last (dialects docs n) (dialects docs (suc n)) (bears uri) docs rest)

  -- stages that tell the same are followed by stages that do
  pub followed : (n m : ℕ) → ((uri : List ℕ) → dialects docs m uri ≡ dialects docs n uri) → (uri : List ℕ) → dialects docs (suc m) uri ≡ dialects docs (suc n) uri
  unfolding dialects
  followed n m same uri = ap (option_map dialect_by) ((alike_tell (dialects docs m) (dialects docs n) same).last (bears uri) docs)

  stays : (n k : ℕ) → ((uri : List ℕ) → dialects docs (suc (suc n)) uri ≡ dialects docs (suc n) uri) → (uri : List ℕ) → dialects docs (suc (beyond k n)) uri ≡ dialects docs (suc n) uri
  unfolding beyond
  stays n zero next uri = refl
  stays n (suc k) next uri = followed (suc n) (suc (beyond k n)) (stays n k next) uri ∙ next uri

pub rest_stays : RestStays
rest_stays docs n rest m less uri =
    let far : suc (beyond (m - suc n) n) ≡ m = omega (arith, is_sum (m - suc n) n, less) in
    ap (λ k. dialects docs k uri) (sym far) ∙ stays docs n (m - suc n) (one_more docs n rest) uri

pub rest_is_fixed : RestIsFixed
unfolding dialects
rest_is_fixed docs n rest m less uri = rest_stays docs n rest m less uri ∙ sym (rest_stays docs n rest (suc m) (omega (arith, less)) uri)
