-- The branches of a keyword, asked one by one.
use Rattle.std.proofs.Common.{◌≡◌, ◌<◌, ◌≤◌, ◌+◌, ℕ, zero, suc, List, [], ◌∷◌, Bool, true, false, ◌&&◌, map, drop, length, get_or, refl, sym, ap, ◌∙◌, arith}
use Rattle.std.proofs.lemmas.List.{drop_more, drop_all}
use Rattle.serde_json.specs.Data.{Data}
use Rattle.schema_meaning.specs.Members.{In, first, later, count_true, one_if}
use Rattle.schema_meaning.specs.Readings.{Reading}
use Rattle.schema_engine.specs.declared.node.Node.{Node}
use Rattle.schema_engine.specs.declared.place.Place.{Place}
use Rattle.schema_engine.specs.Asking.{branch_call}
use Rattle.schema_engine.specs.Matches.{Matches}
use Rattle.schema_engine.specs.Rules.{all_beside}
use Rattle.schema_engine.specs.Verdicts.{Setting, Fits, Tells, asked_in, MayAsk, EachMayAsk}
use Rattle.schema_engine.proofs.Steps.{in_map}

-- the first of those that are left
next_branch : (ns : List ℕ) (i : ℕ) → i < length ns → map branch_call (drop i ns) ≡ branch_call (get_or ns i 0) ∷ map branch_call (drop (i + 1) ns)
next_branch ns i high = ap (map branch_call) (drop_more ns i 0 high)

in_branches : (ns : List ℕ) (i : ℕ) → i < length ns → In (get_or ns i 0) ns
in_branches [] i high = absurd (omega arith)
in_branches (n ∷ ns) zero high = first
in_branches (n ∷ ns) (suc i) high = later (in_branches ns i (omega arith))

pub may_ask_branch : {K : Type 0} {m : Matches} (nodes : List (Node K)) (rank : ℕ) (d : Data) (ns : List ℕ) (i : ℕ) → i < length ns
    → EachMayAsk m nodes rank d (map branch_call ns) → MayAsk m nodes rank d (branch_call (get_or ns i 0))
may_ask_branch nodes rank d ns i high may = may.each (branch_call (get_or ns i 0)) (in_map branch_call (get_or ns i 0) ns (in_branches ns i high))

module _ (r : Reading ℕ) (p : Place) (progress : List ℕ) (enough : ℕ) (ns : List ℕ) where
  abbrev answer : (Setting → Bool) → Bool → Type 0
  answer told b = Tells p progress enough told b

  -- of all branches, the rest decides
  pub record BranchesLeft (i : ℕ) : Type 0 where
    pub left : (x : Setting) → Fits p progress x → enough ≤ x.depth
        → all_beside (asked_in r x) true (map branch_call ns) ≡ all_beside (asked_in r x) true (map branch_call (drop i ns))

  -- so many accept, and those of the rest
  pub record BranchesCounted (i count : ℕ) : Type 0 where
    pub left : (x : Setting) → Fits p progress x → enough ≤ x.depth
        → count_true (map (asked_in r x) (map branch_call ns)) ≡ count_true (map (asked_in r x) (map branch_call (drop i ns))) + count

  pub branches_begin : BranchesLeft 0
  branches_begin = record { left = λ x fits deep. refl }

  pub counted_begin : BranchesCounted 0 0
  counted_begin = record { left = λ x fits deep. unmoved (count_true (map (asked_in r x) (map branch_call ns))) }
    where
      unmoved : (n : ℕ) → n ≡ n + 0
      unmoved n = omega arith

  module _ (i : ℕ) (high : i < length ns) where
    module _ (before : BranchesLeft i) where
      to_next : (x : Setting) → Fits p progress x → enough ≤ x.depth
          → all_beside (asked_in r x) true (map branch_call ns) ≡ (asked_in r x (branch_call (get_or ns i 0)) && all_beside (asked_in r x) true (map branch_call (drop (i + 1) ns)))
      to_next x fits deep = before.left x fits deep ∙ ap (all_beside (asked_in r x) true) (next_branch ns i high)

      pub branches_yes : answer (λ x. asked_in r x (branch_call (get_or ns i 0))) true → BranchesLeft (i + 1)
      branches_yes taken = record { left = λ x fits deep. (let e = to_next x fits deep in e ∙ rw (sym (taken.same x fits deep)) refl) }

      pub branches_no : answer (λ x. asked_in r x (branch_call (get_or ns i 0))) false → answer (λ x. all_beside (asked_in r x) true (map branch_call ns)) false
      branches_no refused = record { same = λ x fits deep. (let e = to_next x fits deep in sym (e ∙ rw (sym (refused.same x fits deep)) refl)) }

    module _ (count : ℕ) (before : BranchesCounted i count) where
      count_next : (x : Setting) → Fits p progress x → enough ≤ x.depth
          → count_true (map (asked_in r x) (map branch_call ns)) ≡ one_if (asked_in r x (branch_call (get_or ns i 0))) (count_true (map (asked_in r x) (map branch_call (drop (i + 1) ns)))) + count
      count_next x fits deep = before.left x fits deep ∙ ap (λ cs. count_true (map (asked_in r x) cs) + count) (next_branch ns i high)

      pub counted_yes : answer (λ x. asked_in r x (branch_call (get_or ns i 0))) true → BranchesCounted (i + 1) (count + 1)
      counted_yes taken = record {
        left = λ x fits deep.
            count_next x fits deep ∙ ap (λ b. one_if b (count_true (map (asked_in r x) (map branch_call (drop (i + 1) ns)))) + count) (sym (taken.same x fits deep))
            ∙ moved (count_true (map (asked_in r x) (map branch_call (drop (i + 1) ns)))) count;
      }
        where
          moved : (n m : ℕ) → suc n + m ≡ n + (m + 1)
          moved n m = omega arith

      pub counted_no : answer (λ x. asked_in r x (branch_call (get_or ns i 0))) false → BranchesCounted (i + 1) count
      counted_no refused = record {
        left = λ x fits deep.
            count_next x fits deep ∙ ap (λ b. one_if b (count_true (map (asked_in r x) (map branch_call (drop (i + 1) ns)))) + count) (sym (refused.same x fits deep));
      }

  pub branches_end : (i : ℕ) → length ns ≤ i → BranchesLeft i → answer (λ x. all_beside (asked_in r x) true (map branch_call ns)) true
  branches_end i all before = record {
    same = λ x fits deep. sym (before.left x fits deep ∙ ap (λ ms. all_beside (asked_in r x) true (map branch_call ms)) (drop_all i ns all));
  }
