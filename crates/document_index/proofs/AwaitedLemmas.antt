-- Meta-schemas that are awaited, among schema places.
use Rattle.std.proofs.Common.{◌≡◌, ◌∙◌, ℕ, suc, List, [], ◌∷◌, ◌++◌, Bool, true, false, if◌then◌else◌, Option, Some, None, Bor, option_map, option_and_then, is_some, length, refl, sym, ap}
use Rattle.std.specs.List.{filter}
use Rattle.std.specs.Option.{option_copied}
use Rattle.schema_definitions.specs.Words.{last_that}
use Rattle.schema_definitions.specs.Bearers.{Documents, Standing}
use Rattle.schema_definitions.specs.DocumentCauses.{unknown_specification, would_bear, next_awaited, awaited_cause, how_many_await}
use Rattle.document_index.proofs.LastLemmas.{last_that-push}
use Rattle.document_index.specs.Awaited.{awaited_among, AwaitedIn}

-- ---- one place more

awaits-if : (b : Bool) (s : Standing) (o : Option Standing) → option_and_then (λ t. t.place.awaits) (if b then Some s else o) ≡ (if b then s.place.awaits else option_and_then (λ t. t.place.awaits) o)
awaits-if true s o = refl
awaits-if false s o = refl

pub awaited-push : (ss : List Standing) (s : Standing) (uri : List ℕ) (b : Bool) → b ≡ would_bear uri s
    → (if b then s.place.awaits else awaited_among ss uri) ≡ awaited_among (ss ++ s ∷ []) uri
awaited-push ss s uri b e =
    ap (λ c. if c then s.place.awaits else awaited_among ss uri) e
    ∙ sym (awaits-if (would_bear uri s) s (last_that (would_bear uri) ss))
    ∙ sym (ap (option_and_then (λ t. t.place.awaits)) (last_that-push (would_bear uri) ss s))

-- what a look-up lends
pub lent : {X : Type 0} (o : Option (Bor X)) (p : Option X) → option_copied o ≡ p → option_map (λ b. b.now) o ≡ p
lent None p e = e
lent (Some b) p e = e

-- ---- under all that documents tell

module _ (docs : Documents) (ss : List Standing) (there : AwaitedIn docs ss) where
  pub next-among : (uri : List ℕ) → next_awaited docs uri ≡ awaited_among ss uri
  next-among uri = ap (option_and_then (λ s. s.place.awaits)) (ap (last_that (would_bear uri)) (sym there))

  pub counted : how_many_await docs ≡ length (filter (λ s. is_some s.place.awaits) ss)
  counted = sym (ap (λ l. length (filter (λ s. is_some s.place.awaits) l)) there)

  by_next : (n : ℕ) (uri : List ℕ) (o : Option (List ℕ)) → awaited_among ss uri ≡ o
      → awaited_cause docs (suc n) uri ≡ elim o [ None ↦ unknown_specification uri | Some next ↦ awaited_cause docs n next ]
  by_next n uri o e = ap (λ p. elim p [ None ↦ unknown_specification uri | Some next ↦ awaited_cause docs n next ]) (next-among uri ∙ e)

  pub at_end : (n : ℕ) (uri : List ℕ) → awaited_among ss uri ≡ None → awaited_cause docs (suc n) uri ≡ unknown_specification uri
  at_end n uri e = by_next n uri None e

  pub one_up : (n : ℕ) (uri next : List ℕ) → awaited_among ss uri ≡ Some next → awaited_cause docs (suc n) uri ≡ awaited_cause docs n next
  one_up n uri next e = by_next n uri (Some next) e
