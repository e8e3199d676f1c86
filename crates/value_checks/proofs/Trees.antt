-- What equals a tree is one, where names rise; so equality goes both ways there.
use Rattle.std.proofs.Common.{◌≡◌, true, ◌&&◌, not, refl, sym, ap, ◌∙◌, bytes_eq}
use Rattle.std.specs.Cmp.{first_so, second_so, both_ways}
use Rattle.std.specs.Prelude.{is_some}
use Rattle.serde_json.specs.Data.{Data, null, boolean, number, string, array, object, Items, no_items, item, Members, no_members, member}
use Rattle.serde_json.specs.Find.{as_integer}
use Rattle.std.proofs.Common.{Option, Some, None, ℤ}
use Rattle.json_values.specs.Equality.{equal, equal_items, same_whole, has_name, is_tree, are_trees, are_member_trees}
use Rattle.json_values.proofs.Equivalence.{symmetric}
use Rattle.json_values.proofs.Inversion.{null_equal, boolean_equal, number_equal, string_equal, array_equal, object_equal, item_equal, no_items_equal}
use Rattle.json_values.proofs.Kept.{behind_none}
use Rattle.json_values.proofs.Names.{both}
use Rattle.value_checks.proofs.Walked.{in_step, same_in_step, rising_rest}
use Rattle.json_values.specs.Rising.{rises, items_rise, members_rise, are_rising}

whole_other : (y z : Option ℤ) → same_whole y z ≡ true → is_some z ≡ true
whole_other None z h = cc
whole_other (Some y) None h = cc
whole_other (Some y) (Some z) h = refl

mutual
  equal_tree : (d e : Data) → rises d ≡ true → rises e ≡ true → equal d e ≡ true → is_tree e ≡ true
  equal_tree null e p q h = rw (null_equal e h) refl
  equal_tree (boolean b) e p q h = rw (boolean_equal b e h) refl
  equal_tree (number m) e p q h =
      let i = number_equal m e h in
      rw i.1 (whole_other (as_integer m) (as_integer i.0) i.2)
  equal_tree (string s) e p q h = rw (string_equal s e h) refl
  equal_tree (array ds) e p q h =
      let i = array_equal ds e h in
      rw i.1 (equal_trees ds i.0 p (ap rises (sym i.1) ∙ q) i.2)
  equal_tree (object ms) e p q h =
      let i = object_equal ms e h in
      let r : (are_rising i.0 && members_rise i.0) ≡ true = ap rises (sym i.1) ∙ q in
      rw i.1 (in_step_trees ms i.0
      (first_so (are_rising ms) (members_rise ms) p) (second_so (are_rising ms) (members_rise ms) p)
      (first_so (are_rising i.0) (members_rise i.0) r) (second_so (are_rising i.0) (members_rise i.0) r)
      (sym (same_in_step ms i.0 (first_so (are_rising ms) (members_rise ms) p) (first_so (are_rising i.0) (members_rise i.0) r)) ∙ i.2))

  equal_trees : (ds es : Items) → items_rise ds ≡ true → items_rise es ≡ true → equal_items ds es ≡ true → are_trees es ≡ true
  equal_trees no_items es p q h = rw (no_items_equal es h) refl
  equal_trees (item d ds) es p q h =
      let i = item_equal d ds es h in
      let r : (rises i.0 && items_rise i.1) ≡ true = ap items_rise (sym i.2) ∙ q in
      rw i.2 (both (is_tree i.0) (are_trees i.1)
      (equal_tree d i.0 (first_so (rises d) (items_rise ds) p) (first_so (rises i.0) (items_rise i.1) r) (first_so (equal d i.0) (equal_items ds i.1) i.3))
      (equal_trees ds i.1 (second_so (rises d) (items_rise ds) p) (second_so (rises i.0) (items_rise i.1) r) (second_so (equal d i.0) (equal_items ds i.1) i.3)))

  in_step_trees : (ms ns : Members) → are_rising ms ≡ true → members_rise ms ≡ true → are_rising ns ≡ true → members_rise ns ≡ true → in_step ms ns ≡ true
      → are_member_trees ns ≡ true
  in_step_trees no_members no_members a p b q h = refl
  in_step_trees no_members (member l e ns) a p b q h = cc
  in_step_trees (member k d ms) no_members a p b q h = refl
  in_step_trees (member k d ms) (member l e ns) a p b q h =
      let here = first_so (bytes_eq k l && equal d e) (in_step ms ns) h in
      both (is_tree e && not (has_name l ns)) (are_member_trees ns)
      (both (is_tree e) (not (has_name l ns))
      (equal_tree d e (first_so (rises d) (members_rise ms) p) (first_so (rises e) (members_rise ns) q) (second_so (bytes_eq k l) (equal d e) here))
      (ap (λ o. not (is_some o)) (behind_none l ns b)))
      (in_step_trees ms ns (rising_rest k ms a) (second_so (rises d) (members_rise ms) p) (rising_rest l ns b) (second_so (rises e) (members_rise ns) q)
      (second_so (bytes_eq k l && equal d e) (in_step ms ns) h))

pub equal_back : (d e : Data) → rises d ≡ true → rises e ≡ true → equal d e ≡ equal e d
equal_back d e p q =
    both_ways (equal d e) (equal e d) (λ h. symmetric d e (equal_tree d e p q h) h) (λ h. symmetric e d (equal_tree e d q p h) h)
