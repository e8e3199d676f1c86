-- A text has no place below it, so a keyword asks of it at its own place alone.
use Rattle.std.proofs.Common.{◌≡◌, ◌++◌, ℕ, suc, codes, List, [], ◌∷◌, Bool, true, false, Option, Some, None, refl, subst}
use Rattle.std.specs.List.{flat_map}
use Rattle.serde_json.specs.Data.{string, no_items}
use Rattle.schema_meaning.specs.Members.{In, first, later}
use Rattle.schema_meaning.specs.Places.{stay}
use Rattle.schema_meaning.specs.Questions.{Question, each_branch, item_by_item}
use Rattle.schema_meaning.specs.Keywords.{Form, each_from, by_index, by_name, by_pattern, of_others, of_members, of_names, of_triggered, of_dependencies, of_branches, of_value, of_condition, Shape, never, asserts, asks_every, asks_together, asks_names, asks_some, asks_one, asks_no, contains, condition, reference, consequent, asked, rule}
use Rattle.schema_meaning.specs.Rules.{asks, consequents}

module _ {S : Type 0} where
  none_asked : (q : Question S) → In q [] → q.step ≡ stay
  none_asked q i = elim i [ ]

  branches_stay : (keyword : List ℕ) (i : ℕ) (ss : List S) (q : Question S) → In q (each_branch keyword i ss) → q.step ≡ stay
  branches_stay keyword i [] q j = elim j [ ]
  branches_stay keyword i (s ∷ ss) q first = refl
  branches_stay keyword i (s ∷ ss) q (later j) = branches_stay keyword (suc i) ss q j

  no_items_asked : (keyword : List ℕ) (i : ℕ) (ss : List S) (q : Question S) → In q (item_by_item keyword ss i no_items) → q.step ≡ stay
  no_items_asked keyword i [] q j = elim j [ ]
  no_items_asked keyword i (s ∷ ss) q j = elim j [ ]

  nothing_asked : {X : Type 0} (h : X → List (Question S)) → ((x : X) → h x ≡ []) → (xs : List X) (q : Question S) → In q (flat_map h xs) → q.step ≡ stay
  nothing_asked h e [] q j = elim j [ ]
  nothing_asked h e (x ∷ xs) q j = nothing_asked h e xs q (subst (λ ys. In q (ys ++ flat_map h xs)) (e x) j)

  consequents_stay : (a b : Option S) (q : Question S) → In q (consequents (consequent true (codes "then") a ++ consequent false (codes "else") b)) → q.step ≡ stay
  consequents_stay None None q j = elim j [ ]
  consequents_stay None (Some b) q first = refl
  consequents_stay None (Some b) q (later j) = elim j [ ]
  consequents_stay (Some a) None q first = refl
  consequents_stay (Some a) None q (later j) = elim j [ ]
  consequents_stay (Some a) (Some b) q first = refl
  consequents_stay (Some a) (Some b) q (later first) = refl
  consequents_stay (Some a) (Some b) q (later (later j)) = elim j [ ]

  form_stays : (matches : List ℕ → List ℕ → Bool) (keyword t : List ℕ) (form : Form S) (q : Question S) → In q (asked matches keyword (string t) form) → q.step ≡ stay
  form_stays matches keyword t (each_from start s) q i = none_asked q i
  form_stays matches keyword t (by_index ss) q i = no_items_asked keyword 0 ss q i
  form_stays matches keyword t (by_name ps) q i = nothing_asked _ (λ x. refl) ps q i
  form_stays matches keyword t (by_pattern ps) q i = nothing_asked _ (λ x. refl) ps q i
  form_stays matches keyword t (of_others declared s) q i = none_asked q i
  form_stays matches keyword t (of_members s) q i = none_asked q i
  form_stays matches keyword t (of_names s) q i = none_asked q i
  form_stays matches keyword t (of_triggered ps) q i = nothing_asked _ (λ x. refl) ps q i
  form_stays matches keyword t (of_dependencies ps) q i = nothing_asked _ (λ x. refl) ps q i
  form_stays matches keyword t (of_branches ss) q i = branches_stay keyword 0 ss q i
  form_stays matches keyword t (of_value d s) q first = refl
  form_stays matches keyword t (of_value d s) q (later i) = none_asked q i
  form_stays matches keyword t (of_condition s a b) q first = refl
  form_stays matches keyword t (of_condition s a b) q (later i) = consequents_stay a b q i

  pub text_stays : (matches : List ℕ → List ℕ → Bool) (t : List ℕ) (k : Shape S) (q : Question S) → In q (asks (rule matches (string t) k)) → q.step ≡ stay
  text_stays matches t never q i = none_asked q i
  text_stays matches t (asserts a) q i = none_asked q i
  text_stays matches t (asks_every keyword form) q i = form_stays matches keyword t form q i
  text_stays matches t (asks_together keyword form) q i = form_stays matches keyword t form q i
  text_stays matches t (asks_names keyword s) q i = none_asked q i
  text_stays matches t (asks_some keyword form) q i = form_stays matches keyword t form q i
  text_stays matches t (asks_one keyword form) q i = form_stays matches keyword t form q i
  text_stays matches t (asks_no keyword d s) q first = refl
  text_stays matches t (asks_no keyword d s) q (later i) = none_asked q i
  text_stays matches t (contains s least most) q i = none_asked q i
  text_stays matches t (condition s a b) q first = refl
  text_stays matches t (condition s a b) q (later i) = consequents_stay a b q i
  text_stays matches t (reference r s) q first = refl
  text_stays matches t (reference r s) q (later i) = none_asked q i
