use Rattle.std.proofs.Common.{◌≡◌, List, Bor, ap, ◌∙◌, subst, rules, arith}
use Rattle.std.proofs.lemmas.Fn.{always_returns_same}
use Rattle.std.proofs.lemmas.List.{drop_all, take_all}
use Rattle.std.proofs.lemmas.List.Sorted.{IsPermutation-map, ranks_by}
use Rattle.std.specs.List.Sorted.{IsPermutation}
use Rattle.std.specs.Ordering.{is_lt}
use Rattle.serde_json.specs.declared.value.Value.{Value}
use Rattle.serde_json.specs.View.{view, items_view}
use Rattle.json_values.specs.Rising.{items_rise}
use Rattle.value_checks.specs.Sorts.{is_before, values_of}
use Rattle.value_checks.proofs.Keys.{order_is_total}
use Rattle.value_checks.proofs.distinct.sort_references.Goals as goal

pub returns : goal.returns
returns c =
    let vs = c.args.values.now in
    let l = c.loop-value in
    let all : values_of l.references.items ≡ vs = l.invariant.gathered ∙ take_all l.value-index vs (omega arith) in
    record {
      moved = subst (λ (ws : List Value). IsPermutation ws (values_of c.sort_by.new.self.items)) all
          (IsPermutation-map (λ (r : Bor Value). r.now) l.references.items c.sort_by.new.self.items c.sort_by.ensures.permutation);
      ordered = c.in_ok-sort_by.ensures.sorted (λ r s. is_before r.now s.now) (ranks_by order_is_total (λ (r : Bor Value). view r.now))
          (always_returns_same _ (λ a r. is_lt r ≡ is_before a.0.now.now a.1.0.now.now) _ (λ a r q k. search rules));
      rise = l.invariant.rise ∙ ap (λ ws. items_rise (items_view ws)) (drop_all l.value-index vs (omega arith));
    }
