-- Trees as they are kept are equal just where they are the same.
use borrow.Author.Tests.{ltb-true}
use Rattle.std.proofs.Common.{◌≡◌, ℕ, ◌<◌, arith, List, true, false, ◌&&◌, not, None, Ordering, Less, Equal, Greater, ℤ, pos, negsuc, nat_cmp, refl, sym, ap, ◌∙◌}
use Rattle.std.proofs.lemmas.Bool.Decides.{Decides-int_eq}
use Rattle.std.proofs.lemmas.Cmp.{nat_list_cmp_total}
use Rattle.std.specs.Cmp.{first_so, second_so}
use Rattle.std.specs.Cmp.Lexicographic.{slice_cmp}
use Rattle.std.specs.Ordering.{int_eq, is_lt, ordering_reverse}
use Rattle.std.specs.Prelude.{is_some, int_lt}
use Rattle.serde_json.specs.Data.{Num, unsigned, negative, float, Data, null, boolean, number, string, array, object, Items, no_items, item, Members, no_members, member}
use Rattle.serde_json.specs.Find.{as_integer, get_member}
use Rattle.json_values.specs.Equality.{same_whole, found_and, has_name, names_in, equal, equal_items, equal_members, is_tree, are_trees, are_member_trees, is_kept_number, rises_from, is_kept, are_kept, are_kept_members}
use Rattle.json_values.proofs.Names.{both, get_same, get_less, get_greater, name_same}
use Rattle.json_values.proofs.Inversion.{null_equal, boolean_equal, number_equal, string_equal, array_equal, object_equal, item_equal, no_items_equal}
use Rattle.json_values.proofs.Equivalence.{reflexive}

less_of : (o : Ordering) → is_lt o ≡ true → o ≡ Less
less_of Less h = refl
less_of Equal h = cc
less_of Greater h = cc

-- the parts of kept members
pub first_kept : (l : List ℕ) (e : Data) (ms : Members) → are_kept_members (member l e ms) ≡ true
    → (is_kept e ≡ true) × (rises_from l ms ≡ true) × (are_kept_members ms ≡ true)
first_kept l e ms h =
    let ab = first_so (is_kept e && rises_from l ms) (are_kept_members ms) h in
    (first_so (is_kept e) (rises_from l ms) ab, second_so (is_kept e) (rises_from l ms) ab, second_so (is_kept e && rises_from l ms) (are_kept_members ms) h)

pub first_rise : (k l : List ℕ) (e : Data) (ms : Members) → rises_from k (member l e ms) ≡ true → (slice_cmp nat_cmp k l ≡ Less) × (rises_from l ms ≡ true)
first_rise k l e ms h =
    (less_of (slice_cmp nat_cmp k l) (first_so (is_lt (slice_cmp nat_cmp k l)) (rises_from l ms) h), second_so (is_lt (slice_cmp nat_cmp k l)) (rises_from l ms) h)

-- members that rise from l rise from each name before l
pub rises_before : (k l : List ℕ) (ms : Members) → slice_cmp nat_cmp k l ≡ Less → rises_from l ms ≡ true → rises_from k ms ≡ true
rises_before k l no_members e h = refl
rises_before k l (member m d ms) e h =
    let r = first_rise l m d ms h in
    both (is_lt (slice_cmp nat_cmp k m)) (rises_from m ms) (ap is_lt (nat_list_cmp_total.trans k l m e r.0)) r.1

-- a name is not among the members that rise from it
pub behind_none : (k : List ℕ) (ms : Members) → rises_from k ms ≡ true → get_member k ms ≡ None
behind_none k no_members h = refl
behind_none k (member l d ms) h =
    let r = first_rise k l d ms h in
    get_less k l d ms r.0 ∙ behind_none k ms (rises_before k l ms r.0 r.1)

mutual
  pub kept_tree : (d : Data) → is_kept d ≡ true → is_tree d ≡ true
  kept_tree null h = refl
  kept_tree (boolean b) h = refl
  kept_tree (number (unsigned n)) h = refl
  kept_tree (number (negative z)) h = refl
  kept_tree (number (float x)) h = cc
  kept_tree (string s) h = refl
  kept_tree (array ds) h = kept_trees ds h
  kept_tree (object ms) h = kept_member_trees ms h

  kept_trees : (ds : Items) → are_kept ds ≡ true → are_trees ds ≡ true
  kept_trees no_items h = refl
  kept_trees (item d ds) h =
      both (is_tree d) (are_trees ds) (kept_tree d (first_so (is_kept d) (are_kept ds) h)) (kept_trees ds (second_so (is_kept d) (are_kept ds) h))

  kept_member_trees : (ms : Members) → are_kept_members ms ≡ true → are_member_trees ms ≡ true
  kept_member_trees no_members h = refl
  kept_member_trees (member k d ms) h =
      let parts = first_kept k d ms h in
      both (is_tree d && not (has_name k ms)) (are_member_trees ms)
      (both (is_tree d) (not (has_name k ms)) (kept_tree d parts.0) (ap (λ o. not (is_some o)) (behind_none k ms parts.1)))
      (kept_member_trees ms parts.2)

-- ---- numbers

int_same : (y z : ℤ) → int_eq y z ≡ true → y ≡ z
int_same y z h = (Decides-int_eq y z).0 h

not_below : (a : ℕ) → int_lt (pos a) (pos 0) ≡ true → ⊥
not_below a h = (let l : a < 0 = ltb-true a 0 h in omega arith)

number_same : (m n : Num) → is_kept_number m ≡ true → is_kept_number n ≡ true → same_whole (as_integer m) (as_integer n) ≡ true → m ≡ n
number_same (unsigned a) (unsigned b) h g e = (let s : pos a ≡ pos b = int_same (pos a) (pos b) e in cc)
number_same (unsigned a) (negative (pos b)) h g e = absurd (not_below b g)
number_same (unsigned a) (negative (negsuc b)) h g e = (let s : pos a ≡ negsuc b = int_same (pos a) (negsuc b) e in cc)
number_same (unsigned a) (float y) h g e = cc
number_same (negative (pos a)) n h g e = absurd (not_below a h)
number_same (negative (negsuc a)) (unsigned b) h g e = (let s : negsuc a ≡ pos b = int_same (negsuc a) (pos b) e in cc)
number_same (negative (negsuc a)) (negative z) h g e = ap negative (int_same (negsuc a) z e)
number_same (negative (negsuc a)) (float y) h g e = cc
number_same (float x) n h g e = cc

-- ---- objects

-- a first member that stands before the others does not count for them
pub members_less : (ms ns : Members) (k : List ℕ) (e : Data) → rises_from k ms ≡ true → equal_members ms (member k e ns) ≡ true → equal_members ms ns ≡ true
members_less no_members ns k e r h = refl
members_less (member m d ms) ns k e r h =
    let s = first_rise k m d ms r in
    let turned : slice_cmp nat_cmp m k ≡ Greater = nat_list_cmp_total.antisymm m k ∙ ap ordering_reverse s.0 in
    both (found_and (equal d) (get_member m ns)) (equal_members ms ns)
    (ap (found_and (equal d)) (sym (get_greater m k e ns turned)) ∙ first_so (found_and (equal d) (get_member m (member k e ns))) (equal_members ms (member k e ns)) h)
    (members_less ms ns k e (rises_before k m ms s.0 s.1) (second_so (found_and (equal d) (get_member m (member k e ns))) (equal_members ms (member k e ns)) h))

pub names_less : (ns ms : Members) (k : List ℕ) (d : Data) → rises_from k ns ≡ true → names_in ns (member k d ms) ≡ true → names_in ns ms ≡ true
names_less no_members ms k d r h = refl
names_less (member m e ns) ms k d r h =
    let s = first_rise k m e ns r in
    let turned : slice_cmp nat_cmp m k ≡ Greater = nat_list_cmp_total.antisymm m k ∙ ap ordering_reverse s.0 in
    both (has_name m ms) (names_in ns ms)
    (ap is_some (sym (get_greater m k d ms turned)) ∙ first_so (has_name m (member k d ms)) (names_in ns (member k d ms)) h)
    (names_less ns ms k d (rises_before k m ns s.0 s.1) (second_so (has_name m (member k d ms)) (names_in ns (member k d ms)) h))

-- the first members of two equal objects have one name
pub first_names : (o : Ordering) (k l : List ℕ) (d e : Data) (ms ns : Members) → slice_cmp nat_cmp k l ≡ o → rises_from k ms ≡ true → rises_from l ns ≡ true
    → found_and (equal d) (get_member k (member l e ns)) ≡ true → has_name l (member k d ms) ≡ true → k ≡ l
first_names Less k l d e ms ns is r s h g =
    let none : get_member k (member l e ns) ≡ None = get_less k l e ns is ∙ behind_none k ns (rises_before k l ns is s) in
    let no : false ≡ true = sym (ap (found_and (equal d)) none) ∙ h in cc
first_names Equal k l d e ms ns is r s h g = name_same k l is
first_names Greater k l d e ms ns is r s h g =
    let turned : slice_cmp nat_cmp l k ≡ Less = nat_list_cmp_total.antisymm l k ∙ ap ordering_reverse is in
    let none : get_member l (member k d ms) ≡ None = get_less l k d ms turned ∙ behind_none l ms (rises_before l k ms turned r) in
    let no : false ≡ true = sym (ap is_some none) ∙ g in cc

mutual
  pub kept_same : (d e : Data) → is_kept d ≡ true → is_kept e ≡ true → equal d e ≡ true → d ≡ e
  kept_same null e p q h = sym (null_equal e h)
  kept_same (boolean b) e p q h = sym (boolean_equal b e h)
  kept_same (number m) e p q h =
      let i = number_equal m e h in
      ap number (number_same m i.0 p (ap is_kept (sym i.1) ∙ q) i.2) ∙ sym i.1
  kept_same (string s) e p q h = sym (string_equal s e h)
  kept_same (array ds) e p q h =
      let i = array_equal ds e h in
      ap array (kept_items ds i.0 p (ap is_kept (sym i.1) ∙ q) i.2) ∙ sym i.1
  kept_same (object ms) e p q h =
      let i = object_equal ms e h in
      ap object (kept_members ms i.0 p (ap is_kept (sym i.1) ∙ q) (first_so (equal_members ms i.0) (names_in i.0 ms) i.2) (second_so (equal_members ms i.0) (names_in i.0 ms) i.2)) ∙ sym i.1

  kept_items : (ds es : Items) → are_kept ds ≡ true → are_kept es ≡ true → equal_items ds es ≡ true → ds ≡ es
  kept_items no_items es p q h = sym (no_items_equal es h)
  kept_items (item d ds) es p q h =
      let i = item_equal d ds es h in
      let kept : (is_kept i.0 && are_kept i.1) ≡ true = ap are_kept (sym i.2) ∙ q in
      let a : d ≡ i.0 = kept_same d i.0 (first_so (is_kept d) (are_kept ds) p) (first_so (is_kept i.0) (are_kept i.1) kept) (first_so (equal d i.0) (equal_items ds i.1) i.3) in
      let b : ds ≡ i.1 = kept_items ds i.1 (second_so (is_kept d) (are_kept ds) p) (second_so (is_kept i.0) (are_kept i.1) kept) (second_so (equal d i.0) (equal_items ds i.1) i.3) in
      ap (λ x. item x ds) a ∙ ap (item i.0) b ∙ sym i.2

  kept_members : (ms ns : Members) → are_kept_members ms ≡ true → are_kept_members ns ≡ true → equal_members ms ns ≡ true → names_in ns ms ≡ true → ms ≡ ns
  kept_members no_members no_members p q h g = refl
  kept_members no_members (member l e ns) p q h g = cc
  kept_members (member k d ms) no_members p q h g = cc
  kept_members (member k d ms) (member l e ns) p q h g =
      let kp = first_kept k d ms p in
      let kq = first_kept l e ns q in
      let here : found_and (equal d) (get_member k (member l e ns)) ≡ true = first_so (found_and (equal d) (get_member k (member l e ns))) (equal_members ms (member l e ns)) h in
      let later : equal_members ms (member l e ns) ≡ true = second_so (found_and (equal d) (get_member k (member l e ns))) (equal_members ms (member l e ns)) h in
      let named : has_name l (member k d ms) ≡ true = first_so (has_name l (member k d ms)) (names_in ns (member k d ms)) g in
      let named_later : names_in ns (member k d ms) ≡ true = second_so (has_name l (member k d ms)) (names_in ns (member k d ms)) g in
      let name : k ≡ l = first_names (slice_cmp nat_cmp k l) k l d e ms ns refl kp.1 kq.1 here named in
      let value : d ≡ e = kept_same d e kp.0 kq.0 (ap (found_and (equal d)) (sym (get_same k l e ns name)) ∙ here) in
      let rises : rises_from l ms ≡ true = ap (λ (n : List ℕ). rises_from n ms) (sym name) ∙ kp.1 in
      let rises_other : rises_from k ns ≡ true = ap (λ (n : List ℕ). rises_from n ns) name ∙ kq.1 in
      let rest : ms ≡ ns = kept_members ms ns kp.2 kq.2 (members_less ms ns l e rises later) (names_less ns ms k d rises_other named_later) in
      cc

pub same_equal : (d e : Data) → is_kept d ≡ true → d ≡ e → equal d e ≡ true
same_equal d e h s = ap (equal d) (sym s) ∙ reflexive d (kept_tree d h)
