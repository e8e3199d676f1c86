-- What keywords ask of a text they ask where it stays: it has no items, no members and no names.
use Rattle.std.proofs.Common.{◌≡◌, ℕ, suc, List, [], ◌∷◌, ◌++◌, Bool, true, false, Option, Some, None, codes, refl, sym, subst}
use Rattle.std.specs.List.{flat_map}
use Rattle.serde_json.specs.Data.{string}
use Rattle.schema_meaning.specs.Members.{In, first, later}
use Rattle.schema_meaning.specs.Places.{stay}
use Rattle.schema_meaning.specs.Questions.{Question, at_index, each_branch, item_by_item, items_of, question, here}
use Rattle.schema_meaning.specs.Rules.{asks, consequents}
use Rattle.schema_meaning.specs.Keywords.{Form, each_from, by_index, by_name, by_pattern, of_others, of_members, of_names, of_triggered, of_dependencies, of_branches, of_value, of_condition, Shape, never, asserts, asks_every, asks_together, asks_names, asks_some, asks_one, asks_no, contains, condition, reference, consequent, asked, rule}

abbrev pub Stay : {S : Type 0} → List (Question S) → Type 0
Stay {S} qs = (q : Question S) → In q qs → q.step ≡ stay

laid_flat_none : {A B : Type 0} (f : A → List B) → ((x : A) → f x ≡ []) → (xs : List A) → flat_map f xs ≡ []
laid_flat_none f h [] = refl
laid_flat_none f h (x ∷ xs) = rw (h x, laid_flat_none f h xs) refl

module _ {S : Type 0} where
  none_asked : Stay {S = S} []
  none_asked q i = elim i [ ]

  one_more : (x : Question S) (xs : List (Question S)) → x.step ≡ stay → Stay xs → Stay (x ∷ xs)
  one_more x xs e h _ first = e
  one_more x xs e h q (later i) = h q i

  none_laid : {A : Type 0} (f : A → List (Question S)) → ((x : A) → f x ≡ []) → (xs : List A) → Stay (flat_map f xs)
  none_laid f h xs = subst Stay (sym (laid_flat_none f h xs)) none_asked

  branches_stay : (keyword : List ℕ) (i : ℕ) (ss : List S) → Stay (each_branch keyword i ss)
  branches_stay keyword i [] = none_asked
  branches_stay keyword i (s ∷ ss) = one_more (question s stay (at_index keyword i)) (each_branch keyword (suc i) ss) refl (branches_stay keyword (suc i) ss)

  no_item : (keyword k : List ℕ) (ss : List S) → Stay (item_by_item keyword ss 0 (items_of (string k)))
  no_item keyword k [] = none_asked
  no_item keyword k (s ∷ ss) = none_asked

  beside_stay : (b : Bool) (keyword : List ℕ) (o : Option S) (cs : List (Bool × Question S)) → Stay (consequents cs) → Stay (consequents (consequent b keyword o ++ cs))
  beside_stay b keyword None cs h = h
  beside_stay b keyword (Some s) cs h = one_more (here keyword s) (consequents cs) refl h

  last_stays : (b : Bool) (keyword : List ℕ) (o : Option S) → Stay (consequents (consequent b keyword o))
  last_stays b keyword None = none_asked
  last_stays b keyword (Some s) = one_more (here keyword s) [] refl none_asked

  chosen_stay : (t e : Option S) → Stay (consequents (consequent true (codes "then") t ++ consequent false (codes "else") e))
  chosen_stay t e = beside_stay true (codes "then") t (consequent false (codes "else") e) (last_stays false (codes "else") e)

  form_stays : (matches : List ℕ → List ℕ → Bool) (keyword k : List ℕ) (form : Form S) → Stay (asked matches keyword (string k) form)
  form_stays matches keyword k (each_from start s) = none_asked
  form_stays matches keyword k (by_index ss) = no_item keyword k ss
  form_stays matches keyword k (by_name ps) = none_laid _ (λ p. refl) ps
  form_stays matches keyword k (by_pattern ps) = none_laid _ (λ p. refl) ps
  form_stays matches keyword k (of_others declared s) = none_asked
  form_stays matches keyword k (of_members s) = none_asked
  form_stays matches keyword k (of_names s) = none_asked
  form_stays matches keyword k (of_triggered ps) = none_laid _ (λ p. refl) ps
  form_stays matches keyword k (of_dependencies ps) = none_laid _ (λ p. refl) ps
  form_stays matches keyword k (of_branches ss) = branches_stay keyword 0 ss
  form_stays matches keyword k (of_value schema s) = one_more (here keyword s) [] refl none_asked
  form_stays matches keyword k (of_condition s t e) = one_more (here keyword s) _ refl (chosen_stay t e)

  pub asked_stay : (matches : List ℕ → List ℕ → Bool) (k : List ℕ) (x : Shape S) → Stay (asks (rule matches (string k) x))
  asked_stay matches k never = none_asked
  asked_stay matches k (asserts a) = none_asked
  asked_stay matches k (asks_every keyword form) = form_stays matches keyword k form
  asked_stay matches k (asks_together keyword form) = form_stays matches keyword k form
  asked_stay matches k (asks_names keyword s) = none_asked
  asked_stay matches k (asks_some keyword form) = form_stays matches keyword k form
  asked_stay matches k (asks_one keyword form) = form_stays matches keyword k form
  asked_stay matches k (asks_no keyword schema s) = one_more (here keyword s) [] refl none_asked
  asked_stay matches k (contains s least most) = none_asked
  asked_stay matches k (condition s t e) = one_more (here (codes "if") s) _ refl (chosen_stay t e)
  asked_stay matches k (reference r s) = one_more _ [] refl none_asked
