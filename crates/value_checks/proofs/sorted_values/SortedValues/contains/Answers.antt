use Rattle.std.proofs.Common.{◌≡◌, ◌<◌, ◌≤◌, List, Bor, length, Less, Equal, Greater, sym, ap, ◌∙◌, subst, rules, get_or}
use Rattle.std.proofs.lemmas.Fn.{always_returns_same}
use Rattle.std.specs.List.Sorted.{IsPartitionPoint, IsSortedBy}
use Rattle.serde_json.specs.declared.value.Value.{Value}
use Rattle.serde_json.specs.View.{view}
use Rattle.json_values.specs.Equality.{equal}
use Rattle.value_checks.specs.Order.{order}
use Rattle.value_checks.specs.Sorts.{is_before}
use Rattle.value_checks.proofs.Searching.{found, missed, rising_test}
use Rattle.value_checks.proofs.sorted_values.SortedValues.contains.Goals as goal

pub returns-in-Ok : goal.returns-in-Ok
returns-in-Ok c =
    let d = view c.args.value.now in
    let s = c.args.self.now in
    let rs = s.sorted.items in
    let i = c.in-Ok.index in
    let x = c.index.result.now in
    let tie = c.in-Ok.ensures.position (λ r. order (view r.now) d) (always_returns_same _ (λ a r. r ≡ order (view a.0.now.now) d) _ (λ a r q k. search rules)) x in
    let here : order (view (get_or rs i x).now) d ≡ Equal = ap (λ (ys : List (Bor Value)). order (view (get_or ys i x).now) d) (sym c.deref.ensures.value) ∙ tie in
    let within : i < length rs = subst (λ (ys : List (Bor Value)). i < length ys) c.deref.ensures.value c.in-Ok.ensures.bound in
    c.equal.ensures ∙ ap (λ (r : Bor Value). equal d (view r.now)) c.index.ensures ∙ found d rs c.names_rise.ensures s.rise i x within here ∙ s.same d

pub returns-in-Err : goal.returns-in-Err
returns-in-Err c =
    let d = view c.args.value.now in
    let s = c.args.self.now in
    let rs = s.sorted.items in
    let i = c.in-Err.field-0 in
    let ys = c.deref.result.now in
    let up = rising_test d ys (subst (λ (zs : List (Bor Value)). IsSortedBy (λ r q. is_before r.now q.now) zs) (sym c.deref.ensures.value) s.ordered) in
    let parts = c.in-Err.ensures.position (λ r. order (view r.now) d) (always_returns_same _ (λ a r. r ≡ order (view a.0.now.now) d) _ (λ a r q k. search rules)) up in
    let parts_here : IsPartitionPoint (λ (r : Bor Value). order (view r.now) d ≡ Less) (λ (r : Bor Value). order (view r.now) d ≡ Greater) rs i =
    subst (λ (zs : List (Bor Value)). IsPartitionPoint (λ (r : Bor Value). order (view r.now) d ≡ Less) (λ (r : Bor Value). order (view r.now) d ≡ Greater) zs i) c.deref.ensures.value parts in
    let within : i ≤ length rs = subst (λ (zs : List (Bor Value)). i ≤ length zs) c.deref.ensures.value c.in-Err.ensures.bound in
    sym (missed d rs c.names_rise.ensures s.rise i within parts_here) ∙ s.same d
