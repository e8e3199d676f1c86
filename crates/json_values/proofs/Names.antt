-- Members by name.
use Rattle.std.proofs.Common.{◌≡◌, ℕ, List, Bool, true, false, ◌&&◌, not, ◌⊎◌, inl, inr, Option, Some, None, Ordering, Less, Equal, Greater, nat_cmp, is_eq, refl, sym, ap, ◌∙◌}
use Rattle.std.proofs.lemmas.Cmp.{nat_list_cmp_total, tied_itself}
use Rattle.std.proofs.lemmas.Map.Text.{is_eq-slice_cmp}
use Rattle.std.proofs.lemmas.Slice.Eq.{bytes_eq-Decides}
use Rattle.std.specs.Cmp.{first_so, second_so}
use Rattle.std.specs.Cmp.Lexicographic.{slice_cmp}
use Rattle.std.specs.Ordering.{match_ordering}
use Rattle.std.specs.Prelude.{is_some}
use Rattle.serde_json.specs.Data.{Data, Members, no_members, member}
use Rattle.serde_json.specs.Find.{get_member}
use Rattle.json_values.specs.Equality.{has_name, names_in, found_and, equal, equal_members, is_tree, are_member_trees}

pub both : (a b : Bool) → a ≡ true → b ≡ true → (a && b) ≡ true
both a b e f = rw (e, f) refl

pub name_same : (k l : List ℕ) → slice_cmp nat_cmp k l ≡ Equal → k ≡ l
name_same k l e = (bytes_eq-Decides k l).0 (sym (is_eq-slice_cmp k l) ∙ ap is_eq e)

same_text : (xs : List ℕ) → slice_cmp nat_cmp xs xs ≡ Equal
same_text xs = tied_itself nat_list_cmp_total xs

pub get_same : (k l : List ℕ) (d : Data) (ms : Members) → k ≡ l → get_member k (member l d ms) ≡ Some d
get_same k l d ms e = rw (e, same_text) refl

pub get_less : (k l : List ℕ) (d : Data) (ms : Members) → slice_cmp nat_cmp k l ≡ Less → get_member k (member l d ms) ≡ get_member k ms
get_less k l d ms e = rw e refl

pub get_greater : (k l : List ℕ) (d : Data) (ms : Members) → slice_cmp nat_cmp k l ≡ Greater → get_member k (member l d ms) ≡ get_member k ms
get_greater k l d ms e = rw e refl

found_by : (o : Ordering) (k l : List ℕ) (e : Data) (ms : Members) (d : Data) → slice_cmp nat_cmp k l ≡ o
    → match_ordering o (get_member k ms) (Some e) (get_member k ms) ≡ Some d → ((k ≡ l) × (e ≡ d)) ⊎ (get_member k ms ≡ Some d)
found_by Less k l e ms d is h = inr h
found_by Equal k l e ms d is h = inl (name_same k l is, cc)
found_by Greater k l e ms d is h = inr h

-- what is found is the first member or one after it
pub found_at : (k l : List ℕ) (e : Data) (ms : Members) (d : Data) → get_member k (member l e ms) ≡ Some d → ((k ≡ l) × (e ≡ d)) ⊎ (get_member k ms ≡ Some d)
found_at k l e ms d h = found_by (slice_cmp nat_cmp k l) k l e ms d refl h

pub found_and_some : (p : Data → Bool) (o : Option Data) → found_and p o ≡ true → (e : Data) × (o ≡ Some e) × (p e ≡ true)
found_and_some p None h = cc
found_and_some p (Some e) h = (e, refl, h)

pub is_found : (o : Option Data) → is_some o ≡ true → (d : Data) × (o ≡ Some d)
is_found None h = cc
is_found (Some d) h = (d, refl)

pub has_found : (k : List ℕ) (ms : Members) (d : Data) → get_member k ms ≡ Some d → has_name k ms ≡ true
has_found k ms d e = rw e refl

-- ---- what the two halves of equality say of objects

pub members_at : (ms ns : Members) → equal_members ms ns ≡ true → (k : List ℕ) (d : Data) → get_member k ms ≡ Some d
    → (e : Data) × (get_member k ns ≡ Some e) × (equal d e ≡ true)
members_at no_members ns h k d g = cc
members_at (member l e ms) ns h k d g =
    let here : found_and (equal e) (get_member l ns) ≡ true = first_so (found_and (equal e) (get_member l ns)) (equal_members ms ns) h in
    let later : equal_members ms ns ≡ true = second_so (found_and (equal e) (get_member l ns)) (equal_members ms ns) h in
    elim (found_at k l e ms d g) [
      | inl same ↦ (let f = found_and_some (equal e) (get_member l ns) here in
          (f.0, ap (λ (n : List ℕ). get_member n ns) same.0 ∙ f.1, ap (λ (x : Data). equal x f.0) (sym same.1) ∙ f.2))
      | inr rest ↦ members_at ms ns later k d rest
    ]

pub apart : (k : List ℕ) (l : List ℕ) (e : Data) (ms : Members) (d : Data) → has_name l ms ≡ false → get_member k ms ≡ Some d → (k ≡ l → ⊥)
apart k l e ms d none h same =
    let yes : has_name l ms ≡ true = has_found l ms d (ap (λ (n : List ℕ). get_member n ms) (sym same) ∙ h) in cc

get_other_by : (o : Ordering) (k l : List ℕ) (e : Data) (ms : Members) → slice_cmp nat_cmp k l ≡ o → (k ≡ l → ⊥)
    → match_ordering o (get_member k ms) (Some e) (get_member k ms) ≡ get_member k ms
get_other_by Less k l e ms is other = refl
get_other_by Equal k l e ms is other = absurd (other (name_same k l is))
get_other_by Greater k l e ms is other = refl

pub get_other : (k l : List ℕ) (e : Data) (ms : Members) → (k ≡ l → ⊥) → get_member k (member l e ms) ≡ get_member k ms
get_other k l e ms other = get_other_by (slice_cmp nat_cmp k l) k l e ms refl other

pub not_true : (b : Bool) → not b ≡ true → b ≡ false
not_true true h = cc
not_true false h = refl

-- the parts of a tree
pub first_tree : (l : List ℕ) (e : Data) (ms : Members) → are_member_trees (member l e ms) ≡ true
    → (is_tree e ≡ true) × (has_name l ms ≡ false) × (are_member_trees ms ≡ true)
first_tree l e ms h =
    let ab = first_so (is_tree e && not (has_name l ms)) (are_member_trees ms) h in (
      first_so (is_tree e) (not (has_name l ms)) ab,
      not_true (has_name l ms) (second_so (is_tree e) (not (has_name l ms)) ab),
      second_so (is_tree e && not (has_name l ms)) (are_member_trees ms) h,
    )

pub found_tree : (ms : Members) → are_member_trees ms ≡ true → (k : List ℕ) (d : Data) → get_member k ms ≡ Some d → is_tree d ≡ true
found_tree no_members t k d h = cc
found_tree (member l e ms) t k d h =
    let parts = first_tree l e ms t in
    elim (found_at k l e ms d h) [
      | inl same ↦ ap is_tree (sym same.1) ∙ parts.0
      | inr rest ↦ found_tree ms parts.2 k d rest
    ]

pub members_by : (ms ns : Members) → are_member_trees ms ≡ true
    → ((k : List ℕ) (d : Data) → get_member k ms ≡ Some d → (e : Data) × (get_member k ns ≡ Some e) × (equal d e ≡ true)) → equal_members ms ns ≡ true
members_by no_members ns t f = refl
members_by (member l e ms) ns t f =
    let parts = first_tree l e ms t in
    let here = f l e (get_same l l e ms refl) in
    both (found_and (equal e) (get_member l ns)) (equal_members ms ns)
    (ap (found_and (equal e)) here.1 ∙ here.2)
    (members_by ms ns parts.2 (λ k d h. f k d (get_other k l e ms (apart k l e ms d parts.1 h) ∙ h)))

pub names_at : (ms ns : Members) → names_in ms ns ≡ true → (k : List ℕ) (d : Data) → get_member k ms ≡ Some d → has_name k ns ≡ true
names_at no_members ns h k d g = cc
names_at (member l e ms) ns h k d g =
    elim (found_at k l e ms d g) [
      | inl same ↦ ap (λ (n : List ℕ). has_name n ns) same.0 ∙ first_so (has_name l ns) (names_in ms ns) h
      | inr rest ↦ names_at ms ns (second_so (has_name l ns) (names_in ms ns) h) k d rest
    ]

-- each member's name, found or not
pub names_of_members : (ms ns : Members) → equal_members ms ns ≡ true → names_in ms ns ≡ true
names_of_members no_members ns h = refl
names_of_members (member l e ms) ns h =
    let f = found_and_some (equal e) (get_member l ns) (first_so (found_and (equal e) (get_member l ns)) (equal_members ms ns) h) in
    both (has_name l ns) (names_in ms ns) (has_found l ns f.0 f.1)
    (names_of_members ms ns (second_so (found_and (equal e) (get_member l ns)) (equal_members ms ns) h))
