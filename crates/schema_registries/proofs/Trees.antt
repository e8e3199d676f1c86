-- Members whose names rise are a tree where their values are trees.
use Rattle.std.proofs.Common.{◌≡◌, ◌∙◌, List, ℕ, Bool, true, false, ◌&&◌, not, nat_cmp, refl, ap}
use Rattle.std.specs.Prelude.{is_some}
use Rattle.std.specs.Cmp.{second_so}
use Rattle.std.specs.Cmp.Lexicographic.{slice_cmp}
use Rattle.std.specs.Ordering.{is_lt}
use Rattle.serde_json.specs.Data.{Members, no_members, member}
use Rattle.json_values.specs.Equality.{is_tree, are_member_trees, has_name, rises_from}
use Rattle.json_values.proofs.Kept.{behind_none}
use Rattle.json_values.specs.Rising.{are_rising}

abbrev pub values_are_trees : Members → Bool
values_are_trees no_members = true
values_are_trees (member k d ms) = is_tree d && values_are_trees ms

pub rest_rises : (k : List ℕ) (ms : Members) → rises_from k ms ≡ true → are_rising ms ≡ true
rest_rises k no_members h = refl
rest_rises k (member l d ms) h = second_so (is_lt (slice_cmp nat_cmp k l)) (rises_from l ms) h

joined : (a b c : Bool) → b ≡ true → (a && b && c) ≡ (a && c)
joined true b c e = ap (λ x. x && c) e
joined false b c e = refl

pub member_trees : (ms : Members) → are_rising ms ≡ true → are_member_trees ms ≡ values_are_trees ms
member_trees no_members h = refl
member_trees (member k d ms) h =
    let lacks : not (has_name k ms) ≡ true = ap (λ o. not (is_some o)) (behind_none k ms h) in
    joined (is_tree d) (not (has_name k ms)) (are_member_trees ms) lacks ∙ ap (λ b. is_tree d && b) (member_trees ms (rest_rises k ms h))
