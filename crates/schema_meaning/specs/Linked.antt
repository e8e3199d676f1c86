-- Two readings whose sites are related: the documents read plainly, and schemas compiled into numbered nodes.
use Rattle.std.specs.Prelude.{◌≡◌, ℕ, List, Option, Some, None}
use Rattle.std.specs.List.{AllZip}
use Rattle.serde_json.specs.Data.{Data}
use Rattle.schema_meaning.specs.Members.{In, Reordered}
use Rattle.schema_meaning.specs.Questions.{Declared}
use Rattle.schema_meaning.specs.Keywords.{Assertion, Reference, Dependency, needs, applies, Form, each_from, by_index, by_name, by_pattern, of_others, of_members, of_names, of_triggered, of_dependencies, of_branches, of_value, of_condition, Shape, never, asserts, asks_every, asks_together, asks_names, asks_some, asks_one, asks_no, contains, condition, reference}
use Rattle.schema_meaning.specs.Readings.{Reading}

-- ---- by any relation of sites

-- related sites beside the same name
abbrev pub RelatedBeside : {N S T : Type 0} → (S → T → Type 0) → N × S → N × T → Type 0
RelatedBeside like p q = (p.0 ≡ q.0) × like p.1 q.1

abbrev pub RelatedIfAny : {S T : Type 0} → (S → T → Type 0) → Option S → Option T → Type 0
RelatedIfAny like None None = Unit {0}
RelatedIfAny like None (Some t) = ⊥
RelatedIfAny like (Some s) None = ⊥
RelatedIfAny like (Some s) (Some t) = like s t

pub data RelatedDependency {S T : Type 0} (like : S → T → Type 0) : Dependency S → Dependency T → Type 0 where
  related_needs : {names : List (List ℕ)} → RelatedDependency like (needs names) (needs names)
  related_applies : {s : S} {t : T} → like s t → RelatedDependency like (applies s) (applies t)

abbrev pub RelatedEntry : {S T : Type 0} → (S → T → Type 0) → List ℕ × Dependency S → List ℕ × Dependency T → Type 0
RelatedEntry like p q = (p.0 ≡ q.0) × RelatedDependency like p.1 q.1

-- the same is asked, by related sites
pub data RelatedForm {S T : Type 0} (like : S → T → Type 0) : Form S → Form T → Type 0 where
  related_each_from : {n : ℕ} {s : S} {t : T} → like s t → RelatedForm like (each_from n s) (each_from n t)
  related_by_index : {ss : List S} {ts : List T} → AllZip like ss ts → RelatedForm like (by_index ss) (by_index ts)
  related_by_name : {ps : List (List ℕ × S)} {qs : List (List ℕ × T)} → AllZip (RelatedBeside like) ps qs → RelatedForm like (by_name ps) (by_name qs)
  related_by_pattern : {ps : List (List ℕ × S)} {qs : List (List ℕ × T)} → AllZip (RelatedBeside like) ps qs → RelatedForm like (by_pattern ps) (by_pattern qs)
  related_of_others : {declared : Declared} {s : S} {t : T} → like s t → RelatedForm like (of_others declared s) (of_others declared t)
  related_of_members : {s : S} {t : T} → like s t → RelatedForm like (of_members s) (of_members t)
  related_of_names : {s : S} {t : T} → like s t → RelatedForm like (of_names s) (of_names t)
  related_of_triggered : {ps : List (List ℕ × S)} {qs : List (List ℕ × T)} → AllZip (RelatedBeside like) ps qs → RelatedForm like (of_triggered ps) (of_triggered qs)
  related_of_dependencies : {ps : List (List ℕ × Dependency S)} {qs : List (List ℕ × Dependency T)} → AllZip (RelatedEntry like) ps qs
      → RelatedForm like (of_dependencies ps) (of_dependencies qs)
  related_of_branches : {ss : List S} {ts : List T} → AllZip like ss ts → RelatedForm like (of_branches ss) (of_branches ts)
  related_of_value : {d : Data} {s : S} {t : T} → like s t → RelatedForm like (of_value d s) (of_value d t)
  related_of_condition : {s : S} {t : T} {a c : Option S} {b d : Option T} → like s t → RelatedIfAny like a b → RelatedIfAny like c d
      → RelatedForm like (of_condition s a c) (of_condition t b d)

-- the same keyword over related sites
pub data RelatedShape {S T : Type 0} (like : S → T → Type 0) : Shape S → Shape T → Type 0 where
  related_never : RelatedShape like never never
  related_asserts : {a : Assertion} → RelatedShape like (asserts a) (asserts a)
  related_every : {k : List ℕ} {f : Form S} {g : Form T} → RelatedForm like f g → RelatedShape like (asks_every k f) (asks_every k g)
  related_together : {k : List ℕ} {f : Form S} {g : Form T} → RelatedForm like f g → RelatedShape like (asks_together k f) (asks_together k g)
  related_names : {k : List ℕ} {s : S} {t : T} → like s t → RelatedShape like (asks_names k s) (asks_names k t)
  related_some : {k : List ℕ} {f : Form S} {g : Form T} → RelatedForm like f g → RelatedShape like (asks_some k f) (asks_some k g)
  related_one : {k : List ℕ} {f : Form S} {g : Form T} → RelatedForm like f g → RelatedShape like (asks_one k f) (asks_one k g)
  related_no : {k : List ℕ} {d : Data} {s : S} {t : T} → like s t → RelatedShape like (asks_no k d s) (asks_no k d t)
  related_contains : {s : S} {t : T} {least most : Option ℕ} → like s t → RelatedShape like (contains s least most) (contains t least most)
  related_condition : {s : S} {t : T} {a c : Option S} {b d : Option T} → like s t → RelatedIfAny like a b → RelatedIfAny like c d
      → RelatedShape like (condition s a c) (condition t b d)
  related_reference : {k : Reference} {s : S} {t : T} → like s t → RelatedShape like (reference k s) (reference k t)

-- ---- by a list of pairs

-- the sites of a list of pairs are linked
abbrev pub Linked : {S T : Type 0} → List (S × T) → S → T → Type 0
Linked pairs s t = In (s, t) pairs

abbrev pub LinkedIfAny : {S T : Type 0} → List (S × T) → Option S → Option T → Type 0
LinkedIfAny pairs s t = RelatedIfAny (Linked pairs) s t

-- the same keyword over linked sites
abbrev pub SameShape : {S T : Type 0} → List (S × T) → Shape S → Shape T → Type 0
SameShape pairs k h = RelatedShape (Linked pairs) k h

-- the same keywords over linked sites, in any order
pub record SameKeywords {S T : Type 0} (pairs : List (S × T)) (ks : List (Shape S)) (hs : List (Shape T)) : Type 0 where
  pub order : List (Shape S)
  pub reordered : Reordered ks order
  pub same : AllZip (SameShape pairs) order hs

-- at each linked pair stand the same keywords, under the same path of the schema
pub record AreLinked {S T : Type 0} (r : Reading S) (u : Reading T) (pairs : List (S × T)) : Type 0 where
  pub matches : r.matches ≡ u.matches
  pub keywords : (s : S) (t : T) → Linked pairs s t → SameKeywords pairs (r.keywords s) (u.keywords t)
  pub paths : (s : S) (t : T) → Linked pairs s t → r.schema_path s ≡ u.schema_path t
