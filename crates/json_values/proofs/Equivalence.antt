-- Equality is reflexive, symmetric and transitive.
use Rattle.std.proofs.Common.{◌≡◌, ℕ, List, Bool, true, false, ◌&&◌, inl, inr, Option, Some, None, ℤ, refl, sym, ap, ◌∙◌, subst}
use Rattle.std.proofs.lemmas.Cmp.{int_eq_equiv}
use Rattle.std.proofs.lemmas.Slice.Eq.{bytes_eq-Decides}
use Rattle.std.specs.Cmp.{first_so, second_so}
use Rattle.std.specs.Prelude.{is_some}
use Rattle.serde_json.specs.Data.{Data, null, boolean, number, string, array, object, Items, no_items, item, Members, no_members, member}
use Rattle.serde_json.specs.Find.{as_integer, get_member}
use Rattle.json_values.specs.Equality.{same_bool, same_whole, found_and, has_name, names_in, equal, equal_items, equal_members, is_tree, are_trees, are_member_trees}
use Rattle.json_values.proofs.Names.{both, found_at, found_and_some, is_found, members_at, members_by, names_at, names_of_members, first_tree, found_tree}
use Rattle.json_values.proofs.Inversion.{null_equal, boolean_equal, number_equal, string_equal, array_equal, object_equal, item_equal, no_items_equal}

bool_itself : (b : Bool) → same_bool b b ≡ true
bool_itself true = refl
bool_itself false = refl

whole_itself : (o : Option ℤ) → is_some o ≡ true → same_whole o o ≡ true
whole_itself None h = cc
whole_itself (Some z) h = int_eq_equiv.refl z

whole_back : (o p : Option ℤ) → same_whole o p ≡ true → same_whole p o ≡ true
whole_back None p h = cc
whole_back (Some y) None h = cc
whole_back (Some y) (Some z) h = int_eq_equiv.symm z y ∙ h

whole_on : (o p q : Option ℤ) → same_whole o p ≡ true → same_whole p q ≡ true → same_whole o q ≡ true
whole_on None p q h g = cc
whole_on (Some x) None q h g = cc
whole_on (Some x) (Some y) None h g = cc
whole_on (Some x) (Some y) (Some z) h g = int_eq_equiv.congr x y z h ∙ g

mutual
  pub reflexive : (d : Data) → is_tree d ≡ true → equal d d ≡ true
  reflexive null t = refl
  reflexive (boolean b) t = bool_itself b
  reflexive (number n) t = whole_itself (as_integer n) t
  reflexive (string s) t = (bytes_eq-Decides s s).1 refl
  reflexive (array ds) t = reflexive_items ds t
  reflexive (object ms) t =
      let m : equal_members ms ms ≡ true = members_by ms ms t (λ k d h. (d, h, reflexive_found ms t k d h)) in
      both (equal_members ms ms) (names_in ms ms) m (names_of_members ms ms m)

  reflexive_items : (ds : Items) → are_trees ds ≡ true → equal_items ds ds ≡ true
  reflexive_items no_items t = refl
  reflexive_items (item d ds) t =
      both (equal d d) (equal_items ds ds) (reflexive d (first_so (is_tree d) (are_trees ds) t)) (reflexive_items ds (second_so (is_tree d) (are_trees ds) t))

  reflexive_found : (ms : Members) → are_member_trees ms ≡ true → (k : List ℕ) (d : Data) → get_member k ms ≡ Some d → equal d d ≡ true
  reflexive_found no_members t k d h = cc
  reflexive_found (member l e ms) t k d h =
      let parts = first_tree l e ms t in
      elim (found_at k l e ms d h) [
        | inl same ↦ subst (λ (x : Data). equal x x ≡ true) same.1 (reflexive e parts.0)
        | inr rest ↦ reflexive_found ms parts.2 k d rest
      ]

mutual
  pub symmetric : (d e : Data) → is_tree e ≡ true → equal d e ≡ true → equal e d ≡ true
  symmetric null e t h = rw (null_equal e h) refl
  symmetric (boolean b) e t h = rw (boolean_equal b e h) (bool_itself b)
  symmetric (number m) e t h =
      let i = number_equal m e h in
      rw i.1 (whole_back (as_integer m) (as_integer i.0) i.2)
  symmetric (string s) e t h = rw (string_equal s e h) ((bytes_eq-Decides s s).1 refl)
  symmetric (array ds) e t h =
      let i = array_equal ds e h in
      rw i.1 (symmetric_items ds i.0 (ap is_tree (sym i.1) ∙ t) i.2)
  symmetric (object ms) e t h =
      let i = object_equal ms e h in
      let ns = i.0 in
      let tree : are_member_trees ns ≡ true = ap is_tree (sym i.1) ∙ t in
      let found : equal_members ms ns ≡ true = first_so (equal_members ms ns) (names_in ns ms) i.2 in
      let named : names_in ns ms ≡ true = second_so (equal_members ms ns) (names_in ns ms) i.2 in
      let back : equal_members ns ms ≡ true = members_by ns ms tree (λ k y g.
      let x = is_found (get_member k ms) (names_at ns ms named k y g) in
      let z = members_at ms ns found k x.0 x.1 in
      let same : z.0 ≡ y = (let a : get_member k ns ≡ Some z.0 = z.1 in let b : get_member k ns ≡ Some y = g in cc) in
      (x.0, x.1, symmetric_found ms k x.0 x.1 y (found_tree ns tree k y g) (ap (equal x.0) (sym same) ∙ z.2))) in
      rw i.1 (both (equal_members ns ms) (names_in ms ns) back (names_of_members ms ns found))

  symmetric_items : (ds es : Items) → are_trees es ≡ true → equal_items ds es ≡ true → equal_items es ds ≡ true
  symmetric_items no_items es t h = rw (no_items_equal es h) refl
  symmetric_items (item d ds) es t h =
      let i = item_equal d ds es h in
      let tree : (is_tree i.0 && are_trees i.1) ≡ true = ap are_trees (sym i.2) ∙ t in
      rw i.2 (both (equal i.0 d) (equal_items i.1 ds)
      (symmetric d i.0 (first_so (is_tree i.0) (are_trees i.1) tree) (first_so (equal d i.0) (equal_items ds i.1) i.3))
      (symmetric_items ds i.1 (second_so (is_tree i.0) (are_trees i.1) tree) (second_so (equal d i.0) (equal_items ds i.1) i.3)))

  symmetric_found : (ms : Members) (k : List ℕ) (d : Data) → get_member k ms ≡ Some d → (e : Data) → is_tree e ≡ true → equal d e ≡ true → equal e d ≡ true
  symmetric_found no_members k d h e t g = cc
  symmetric_found (member l x ms) k d h e t g =
      elim (found_at k l x ms d h) [
        | inl same ↦ ap (equal e) (sym same.1) ∙ symmetric x e t (ap (λ (y : Data). equal y e) same.1 ∙ g)
        | inr rest ↦ symmetric_found ms k d rest e t g
      ]

names_on : (ms ns os : Members) → names_in ms ns ≡ true → names_in ns os ≡ true → names_in ms os ≡ true
names_on no_members ns os h g = refl
names_on (member k d ms) ns os h g =
    let here = is_found (get_member k ns) (first_so (has_name k ns) (names_in ms ns) h) in
    both (has_name k os) (names_in ms os) (names_at ns os g k here.0 here.1) (names_on ms ns os (second_so (has_name k ns) (names_in ms ns) h) g)

mutual
  pub transitive : (d e f : Data) → equal d e ≡ true → equal e f ≡ true → equal d f ≡ true
  transitive null e f h g = ap (λ (x : Data). equal x f) (sym (null_equal e h)) ∙ g
  transitive (boolean b) e f h g = ap (λ (x : Data). equal x f) (sym (boolean_equal b e h)) ∙ g
  transitive (number m) e f h g =
      let i = number_equal m e h in
      let j = number_equal i.0 f (ap (λ (x : Data). equal x f) (sym i.1) ∙ g) in
      rw j.1 (whole_on (as_integer m) (as_integer i.0) (as_integer j.0) i.2 j.2)
  transitive (string s) e f h g = ap (λ (x : Data). equal x f) (sym (string_equal s e h)) ∙ g
  transitive (array ds) e f h g =
      let i = array_equal ds e h in
      let j = array_equal i.0 f (ap (λ (x : Data). equal x f) (sym i.1) ∙ g) in
      rw j.1 (transitive_items ds i.0 j.0 i.2 j.2)
  transitive (object ms) e f h g =
      let i = object_equal ms e h in
      let j = object_equal i.0 f (ap (λ (x : Data). equal x f) (sym i.1) ∙ g) in
      let ns = i.0 in let os = j.0 in
      let named : names_in os ns ≡ true = second_so (equal_members ns os) (names_in os ns) j.2 in
      let named_first : names_in ns ms ≡ true = second_so (equal_members ms ns) (names_in ns ms) i.2 in
      rw j.1 (both (equal_members ms os) (names_in os ms)
      (transitive_members ms ns os (first_so (equal_members ms ns) (names_in ns ms) i.2) (first_so (equal_members ns os) (names_in os ns) j.2))
      (names_on os ns ms named named_first))

  transitive_items : (ds es fs : Items) → equal_items ds es ≡ true → equal_items es fs ≡ true → equal_items ds fs ≡ true
  transitive_items no_items es fs h g = ap (λ (x : Items). equal_items x fs) (sym (no_items_equal es h)) ∙ g
  transitive_items (item d ds) es fs h g =
      let i = item_equal d ds es h in
      let j = item_equal i.0 i.1 fs (ap (λ (x : Items). equal_items x fs) (sym i.2) ∙ g) in
      rw j.2 (both (equal d j.0) (equal_items ds j.1)
      (transitive d i.0 j.0 (first_so (equal d i.0) (equal_items ds i.1) i.3) (first_so (equal i.0 j.0) (equal_items i.1 j.1) j.3))
      (transitive_items ds i.1 j.1 (second_so (equal d i.0) (equal_items ds i.1) i.3) (second_so (equal i.0 j.0) (equal_items i.1 j.1) j.3)))

  transitive_members : (ms ns os : Members) → equal_members ms ns ≡ true → equal_members ns os ≡ true → equal_members ms os ≡ true
  transitive_members no_members ns os h g = refl
  transitive_members (member k d ms) ns os h g =
      let here = found_and_some (equal d) (get_member k ns) (first_so (found_and (equal d) (get_member k ns)) (equal_members ms ns) h) in
      let next = members_at ns os g k here.0 here.1 in
      both (found_and (equal d) (get_member k os)) (equal_members ms os)
      (ap (found_and (equal d)) next.1 ∙ transitive d here.0 next.0 here.2 next.2)
      (transitive_members ms ns os (second_so (found_and (equal d) (get_member k ns)) (equal_members ms ns) h) g)
