-- What questions add to the road begins by their keyword.
use Rattle.std.proofs.Common.{◌≡◌, ◌++◌, ℕ, suc, List, [], ◌∷◌, Bool, map, Option, None, Some, refl, sym, ap}
use Rattle.std.specs.List.{filter}
use Rattle.json_values.specs.Patterns.{matched}
use Rattle.serde_json.specs.Data.{Data, Items, no_items, item}
use Rattle.serde_json.specs.Find.{get}
use Rattle.json_values.specs.Parts.{Part, name, index}
use Rattle.schema_meaning.specs.Members.{In, first, later}
use Rattle.schema_meaning.specs.Places.{stay, to_member, to_name}
use Rattle.schema_meaning.specs.Questions.{Question, question, at, at_name, each_branch, item_by_item, if_member, each_member, each_name, each_matching, each_triggered, members_of, names_of, other_members, items_from, items_of}
use Rattle.schema_meaning.specs.Keywords.{Dependency, needs, applies, applied, each_dependency, Form, each_from, by_index, by_name, by_pattern, of_others, of_members, of_names, of_triggered, of_dependencies, of_branches, of_value, of_condition, asked}
use Rattle.certificate_laws.specs.Words.{IsAskedBy}
use Rattle.certificate_laws.proofs.Listed.{in_some, in_mapped, item_question, declared_question}

abbrev pub AddsTo : {S : Type 0} → List ℕ → Question S → Type 0
AddsTo k q = (ps : List Part) × (q.added ≡ ps ++ at k)

module _ {S : Type 0} (k : List ℕ) where
  pub branch_added : (i : ℕ) (ss : List S) (q : Question S) → In q (each_branch k i ss) → AddsTo k q
  branch_added i [] q h = elim h [ ]
  branch_added i (s ∷ ss) q first = (index i ∷ [], refl)
  branch_added i (s ∷ ss) q (later h) = branch_added (suc i) ss q h

  pub by_item_added : (ss : List S) (i : ℕ) (ds : Items) (q : Question S) → In q (item_by_item k ss i ds) → AddsTo k q
  by_item_added [] i ds q h = elim h [ ]
  by_item_added (s ∷ ss) i no_items q h = elim h [ ]
  by_item_added (s ∷ ss) i (item d ds) q first = (index i ∷ [], refl)
  by_item_added (s ∷ ss) i (item d ds) q (later h) = by_item_added ss (suc i) ds q h

  abbrev trigger : Data → List ℕ × S → List (Question S)
  trigger d p = if_member (get p.0 d) (λ e. question p.1 stay (at_name k p.0) ∷ [])

  one_added : (p : List ℕ × S) (o : Option Data) (q : Question S) → In q (if_member o (λ e. question p.1 stay (at_name k p.0) ∷ [])) → AddsTo k q
  one_added p None q h = elim h [ ]
  one_added p (Some e) q first = (name p.0 ∷ [], refl)
  one_added p (Some e) q (later h) = elim h [ ]

  pub triggered_added : (d : Data) (ps : List (List ℕ × S)) (q : Question S) → In q (each_triggered k d ps) → AddsTo k q
  triggered_added d ps q h = let w = in_some (trigger d) ps h in one_added w.0 (get w.0.0 d) q w.2

  pub member_added : (s : S) (ms : List (List ℕ × Data)) (q : Question S) → In q (each_member k s ms) → q.added ≡ at k
  member_added s ms q i = let w = in_mapped (λ m. question s (to_member m.0 m.1) (at k)) ms i in ap (λ (p : Question S). p.added) (sym w.2)

  pub name_added : (s : S) (names : List (List ℕ)) (q : Question S) → In q (each_name (at k) s names) → q.added ≡ at k
  name_added s names q i = let w = in_mapped (λ n. question s (to_name n) (at k)) names i in ap (λ (p : Question S). p.added) (sym w.2)

-- the questions of the members that a pattern matches
abbrev matching : {S : Type 0} → (List ℕ → List ℕ → Bool) → List ℕ → Data → List ℕ × S → List (Question S)
matching matches k d p = map (λ m. question p.1 (to_member m.0 m.1) (at_name k p.0)) (filter (λ m. matched matches p.0 m.0) (members_of d))

pub matching_added : {S : Type 0} (matches : List ℕ → List ℕ → Bool) (k : List ℕ) (d : Data) (ps : List (List ℕ × S)) (q : Question S) → In q (each_matching matches k d ps) → AddsTo k q
matching_added matches k d ps q h =
    let w = in_some (matching matches k d) ps h in
    let m = in_mapped (λ m. question w.0.1 (to_member m.0 m.1) (at_name k w.0.0)) (filter (λ m. matched matches w.0.0 m.0) (members_of d)) w.2 in
    (name w.0.0 ∷ [], ap (λ (p : Question _). p.added) (sym m.2))

-- the questions of the entries that are schemas
module _ {S : Type 0} (k : List ℕ) where
  entry_added : (n : List ℕ) (x : Dependency S) (q : Question S) → In q (applied k n x) → AddsTo k q
  entry_added n (needs names) q h = elim h [ ]
  entry_added n (applies s) q first = (name n ∷ [], refl)
  entry_added n (applies s) q (later h) = elim h [ ]

  entry_there : (n : List ℕ) (x : Dependency S) (o : Option Data) (q : Question S) → In q (if_member o (λ e. applied k n x)) → AddsTo k q
  entry_there n x None q h = elim h [ ]
  entry_there n x (Some e) q h = entry_added n x q h

  abbrev of_entry : Data → List ℕ × Dependency S → List (Question S)
  of_entry d p = if_member (get p.0 d) (λ e. applied k p.0 p.1)

  dependency_added : (d : Data) (ps : List (List ℕ × Dependency S)) (q : Question S) → In q (each_dependency k d ps) → AddsTo k q
  dependency_added d ps q h = let w = in_some (of_entry d) ps h in entry_there w.0.0 w.0.1 (get w.0.0 d) q w.2

-- ---- whatever is asked

pub own_name : {S : Type 0} {k n : List ℕ} (form : Form S) → IsAskedBy k n form → n ≡ k
own_name (of_condition s t e) h = absurd h
own_name form h = h

module _ {S : Type 0} (matches : List ℕ → List ℕ → Bool) (d : Data) (k n : List ℕ) where
  pub form_added : (form : Form S) → IsAskedBy k n form → (q : Question S) → In q (asked matches n d form) → AddsTo n q
  form_added (each_from start s) h q i = let w = item_question n s start (items_from start (items_of d)) q i in ([], ap (λ (x : Question S). x.added) w.3)
  form_added (by_index ss) h q i = by_item_added n ss 0 (items_of d) q i
  form_added (by_name ps) h q i = let w = declared_question n d ps q i in (name w.0.0 ∷ [], ap (λ (x : Question S). x.added) w.4)
  form_added (by_pattern ps) h q i = matching_added matches n d ps q i
  form_added (of_others declared s) h q i = ([], member_added n s (other_members matches declared d) q i)
  form_added (of_members s) h q i = ([], member_added n s (members_of d) q i)
  form_added (of_names s) h q i = ([], name_added n s (names_of d) q i)
  form_added (of_triggered ps) h q i = triggered_added n d ps q i
  form_added (of_dependencies ps) h q i = dependency_added n d ps q i
  form_added (of_branches ss) h q i = branch_added n 0 ss q i
  form_added (of_value schema s) h q first = ([], refl)
  form_added (of_value schema s) h q (later i) = elim i [ ]
  form_added (of_condition s t e) h q i = absurd h
