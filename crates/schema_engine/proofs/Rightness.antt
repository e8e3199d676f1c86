-- What is left of the keywords that are asked of a value itself.
use Rattle.std.proofs.Common.{◌≡◌, ◌<◌, ◌≤◌, ◌+◌, ℕ, List, [], ◌∷◌, Bool, true, false, ◌&&◌, map, drop, length, get_or, sym, ap, ◌∙◌, subst}
use Rattle.std.proofs.lemmas.List.{drop_more, drop_all}
use Rattle.schema_meaning.specs.Members.{In, first, later, all_true}
use Rattle.schema_meaning.specs.Rules.{Rule}
use Rattle.schema_engine.specs.declared.itself.Itself.{Itself}
use Rattle.schema_engine.specs.declared.itself.Itself.TheVariants as itself
use Rattle.schema_engine.specs.Asking.{AsksEach}
use Rattle.schema_engine.specs.Itself.{is_settled, SettlesSo}

module _ {K : Type 0} (right : K → Bool) (i : ℕ) (ks : List K) (all : Bool) (left : all ≡ all_true (map right (drop i ks))) where
  module _ (k : K) (b : Bool) (high : i < length ks) (is : k ≡ get_or ks i k) (told : b ≡ right k) where
    next : all ≡ (right k && all_true (map right (drop (i + 1) ks)))
    next = left ∙ ap (λ xs. all_true (map right xs)) (drop_more ks i k high ∙ ap (λ y. y ∷ drop (i + 1) ks) (sym is))

    pub right_next : b ≡ true → all ≡ all_true (map right (drop (i + 1) ks))
    right_next taken = next ∙ ap (λ c. c && all_true (map right (drop (i + 1) ks))) (sym told ∙ taken)

    pub wrong_now : b ≡ false → false ≡ all
    wrong_now refused = sym (next ∙ ap (λ c. c && all_true (map right (drop (i + 1) ks))) (sym told ∙ refused))

  pub right_all : length ks ≤ i → true ≡ all
  right_all past = sym (left ∙ ap (λ xs. all_true (map right xs)) (drop_all i ks past))

-- what asks nothing settles whatever is said
pub settles : (s : Itself) (k : Rule ℕ) → AsksEach k [] → SettlesSo s k
settles itself.Wrong k asks = tt
settles itself.Asks k asks = tt
settles itself.Settled k asks = asks

pub unsettled : (s : Itself) (k : Rule ℕ) → is_settled s ≡ false → SettlesSo s k
unsettled itself.Wrong k asks = tt
unsettled itself.Asks k asks = tt
unsettled itself.Settled k asks = absurd (cc)

-- where the rest of the keywords settle, all do
module _ {K : Type 0} (Settles : K → Type 0) (i : ℕ) (ks : List K) where
  abbrev pub AllBut : List K → Type 0
  AllBut rest = ((k : K) → In k rest → Settles k) → (k : K) → In k ks → Settles k

  or_next : (j k : K) (rest : List K) → Settles k → ((k : K) → In k rest → Settles k) → In j (k ∷ rest) → Settles j
  or_next j k rest here others first = here
  or_next j k rest here others (later i) = others j i

  pub settled_next : (k : K) → i < length ks → k ≡ get_or ks i k → Settles k → AllBut (drop i ks) → AllBut (drop (i + 1) ks)
  settled_next k high is here before = λ others. before (λ j stands.
      or_next j k (drop (i + 1) ks) here others (subst (In j) (drop_more ks i k high ∙ ap (λ y. y ∷ drop (i + 1) ks) (sym is)) stands))

  pub settled_all : length ks ≤ i → AllBut (drop i ks) → (k : K) → In k ks → Settles k
  settled_all past before = before (λ j stands. elim (subst (In j) (drop_all i ks past) stands) [ ])
