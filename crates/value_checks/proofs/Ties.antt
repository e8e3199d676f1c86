-- Values whose names rise tie just where they are equal, as far as their numbers are whole.
use Rattle.std.proofs.Common.{◌≡◌, ℕ, List, Bool, true, false, ◌&&◌, not, Option, Some, None, ℤ, Ordering, Less, Equal, Greater, nat_cmp, refl, sym, ap, ◌∙◌}
use Rattle.std.proofs.lemmas.Bool.Decides.{Decides-int_eq}
use Rattle.std.proofs.lemmas.Cmp.{int_ranked}
use Rattle.std.proofs.lemmas.Map.Text.{is_eq-slice_cmp}
use Rattle.std.specs.Cmp.{first_so, second_so, ranked_equal}
use Rattle.std.specs.Bool.{one_answer}
use Rattle.std.specs.Cmp.Lexicographic.{slice_cmp}
use Rattle.std.specs.Ordering.{int_cmp, bool_cmp, int_eq, is_eq, ordering_then}
use Rattle.std.specs.Prelude.{is_some}
use Rattle.serde_json.specs.Data.{Data, null, boolean, number, string, array, object, Items, no_items, item, Members, no_members, member}
use Rattle.serde_json.specs.Find.{as_integer}
use Rattle.json_values.specs.Equality.{equal, equal_items, same_bool, same_whole, has_name, is_tree, are_trees, are_member_trees, rises_from}
use Rattle.json_values.proofs.Kept.{behind_none}
use Rattle.value_checks.proofs.Walked.{in_step, same_in_step, rising_rest}
use Rattle.json_values.specs.Rising.{rises, items_rise, members_rise, are_rising}
use Rattle.value_checks.specs.Order.{order, items_order, members_order, whole_order}

bools : (b c : Bool) → same_bool b c ≡ (is_eq (bool_cmp b c) && true)
bools true true = refl
bools true false = refl
bools false true = refl
bools false false = refl

whole_tie : (y z : ℤ) → int_eq y z ≡ is_eq (int_cmp y z)
whole_tie y z = one_answer (int_eq y z) (is_eq (int_cmp y z)) (Decides-int_eq y z) (ranked_equal y z (int_cmp y z) (int_ranked y z (int_cmp y z) refl))

and_true : (b : Bool) → b ≡ (b && true)
and_true true = refl
and_true false = refl

wholes : (y z : Option ℤ) → same_whole y z ≡ (is_eq (whole_order y z) && is_some y)
wholes None None = refl
wholes None (Some z) = refl
wholes (Some y) None = refl
wholes (Some y) (Some z) = whole_tie y z ∙ and_true (is_eq (int_cmp y z))

-- the tests of a part and of the rest, each a tie and a tree
both_parts : (o p : Ordering) (s t : Bool) → ((is_eq o && s) && (is_eq p && t)) ≡ (is_eq (ordering_then o p) && (s && t))
both_parts Less p s t = refl
both_parts Equal Less true t = refl
both_parts Equal Less false t = refl
both_parts Equal Equal true t = refl
both_parts Equal Equal false t = refl
both_parts Equal Greater true t = refl
both_parts Equal Greater false t = refl
both_parts Greater p s t = refl

named_parts : (n : Ordering) (o : Ordering) (p : Ordering) (s t : Bool) → (is_eq n && (is_eq o && s) && (is_eq p && t)) ≡ (is_eq (ordering_then n (ordering_then o p)) && (s && t))
named_parts Less o p s t = refl
named_parts Equal o p s t = both_parts o p s t
named_parts Greater o p s t = refl

once : (k : List ℕ) (ms : Members) (t : Bool) → rises_from k ms ≡ true → (t && not (has_name k ms) && are_member_trees ms) ≡ (t && are_member_trees ms)
once k ms t h = drop (has_name k ms) t (ap is_some (behind_none k ms h))
  where
    drop : (b t : Bool) → b ≡ false → (t && not b && are_member_trees ms) ≡ (t && are_member_trees ms)
    drop true t e = cc
    drop false true e = refl
    drop false false e = refl

mutual
  pub ties_are_equal : (d e : Data) → rises d ≡ true → rises e ≡ true → equal d e ≡ (is_eq (order d e) && is_tree d)
  ties_are_equal null null p q = refl
  ties_are_equal null (boolean c) p q = refl
  ties_are_equal null (number n) p q = refl
  ties_are_equal null (string t) p q = refl
  ties_are_equal null (array es) p q = refl
  ties_are_equal null (object ns) p q = refl
  ties_are_equal (boolean b) null p q = refl
  ties_are_equal (boolean b) (boolean c) p q = bools b c
  ties_are_equal (boolean b) (number n) p q = refl
  ties_are_equal (boolean b) (string t) p q = refl
  ties_are_equal (boolean b) (array es) p q = refl
  ties_are_equal (boolean b) (object ns) p q = refl
  ties_are_equal (number m) null p q = refl
  ties_are_equal (number m) (boolean c) p q = refl
  ties_are_equal (number m) (number n) p q = wholes (as_integer m) (as_integer n)
  ties_are_equal (number m) (string t) p q = refl
  ties_are_equal (number m) (array es) p q = refl
  ties_are_equal (number m) (object ns) p q = refl
  ties_are_equal (string s) null p q = refl
  ties_are_equal (string s) (boolean c) p q = refl
  ties_are_equal (string s) (number n) p q = refl
  ties_are_equal (string s) (string t) p q = sym (is_eq-slice_cmp s t) ∙ and_true (is_eq (slice_cmp nat_cmp s t))
  ties_are_equal (string s) (array es) p q = refl
  ties_are_equal (string s) (object ns) p q = refl
  ties_are_equal (array ds) null p q = refl
  ties_are_equal (array ds) (boolean c) p q = refl
  ties_are_equal (array ds) (number n) p q = refl
  ties_are_equal (array ds) (string t) p q = refl
  ties_are_equal (array ds) (array es) p q = items_tie ds es p q
  ties_are_equal (array ds) (object ns) p q = refl
  ties_are_equal (object ms) null p q = refl
  ties_are_equal (object ms) (boolean c) p q = refl
  ties_are_equal (object ms) (number n) p q = refl
  ties_are_equal (object ms) (string t) p q = refl
  ties_are_equal (object ms) (array es) p q = refl
  ties_are_equal (object ms) (object ns) p q =
      same_in_step ms ns (first_so (are_rising ms) (members_rise ms) p) (first_so (are_rising ns) (members_rise ns) q)
      ∙ members_tie ms ns (first_so (are_rising ms) (members_rise ms) p) (second_so (are_rising ms) (members_rise ms) p) (second_so (are_rising ns) (members_rise ns) q)

  items_tie : (ds es : Items) → items_rise ds ≡ true → items_rise es ≡ true → equal_items ds es ≡ (is_eq (items_order ds es) && are_trees ds)
  items_tie no_items no_items p q = refl
  items_tie no_items (item e es) p q = refl
  items_tie (item d ds) no_items p q = refl
  items_tie (item d ds) (item e es) p q =
      ap (λ b. b && equal_items ds es) (ties_are_equal d e (first_so (rises d) (items_rise ds) p) (first_so (rises e) (items_rise es) q))
      ∙ ap (λ b. (is_eq (order d e) && is_tree d) && b) (items_tie ds es (second_so (rises d) (items_rise ds) p) (second_so (rises e) (items_rise es) q))
      ∙ both_parts (order d e) (items_order ds es) (is_tree d) (are_trees ds)

  members_tie : (ms ns : Members) → are_rising ms ≡ true → members_rise ms ≡ true → members_rise ns ≡ true → in_step ms ns ≡ (is_eq (members_order ms ns) && are_member_trees ms)
  members_tie no_members no_members r p q = refl
  members_tie no_members (member l e ns) r p q = refl
  members_tie (member k d ms) no_members r p q = refl
  members_tie (member k d ms) (member l e ns) r p q =
      ap (λ b. b && equal d e && in_step ms ns) (sym (is_eq-slice_cmp k l))
      ∙ ap (λ b. is_eq (slice_cmp nat_cmp k l) && b && in_step ms ns) (ties_are_equal d e (first_so (rises d) (members_rise ms) p) (first_so (rises e) (members_rise ns) q))
      ∙ ap (λ b. is_eq (slice_cmp nat_cmp k l) && (is_eq (order d e) && is_tree d) && b)
      (members_tie ms ns (rising_rest k ms r) (second_so (rises d) (members_rise ms) p) (second_so (rises e) (members_rise ns) q))
      ∙ named_parts (slice_cmp nat_cmp k l) (order d e) (members_order ms ns) (is_tree d) (are_member_trees ms)
      ∙ ap (λ b. is_eq (members_order (member k d ms) (member l e ns)) && b) (sym (once k ms (is_tree d) r))
