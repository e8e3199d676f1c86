use Rattle.std.proofs.Common.{◌≡◌, ◌<◌, ◌≤◌, List, length, Less, Equal, Greater, String, Global, sym, subst, rules, get_or}
use Rattle.std.proofs.lemmas.Fn.{always_returns_same}
use Rattle.std.specs.List.Sorted.{IsPartitionPoint, IsNonDecreasingBy}
use Rattle.std.specs.Ordering.{ordering_index}
use Rattle.compiled_keywords.proofs.Searching.{against, searchable, found, missed}
use Rattle.compiled_keywords.proofs.names.SortedNames.contains.Goals as goal

pub returns-in-Ok : goal.returns-in-Ok
returns-in-Ok c =
    let name = c.args.name.now in
    let xs = c.args.self.now.list.items in
    let i = c.in-Ok._index in
    let hit = c.in-Ok.ensures.position (against name) (always_returns_same _ (λ a r. r ≡ against name a.0.now) _ (λ a r q k. search rules)) in
    let hit_here : (d : String Global) → against name (get_or xs i d) ≡ Equal = subst (λ (ys : List (String Global)). (d : String Global) → against name (get_or ys i d) ≡ Equal) c.deref.ensures.value hit in
    sym (found xs name i (subst (λ (ys : List (String Global)). i < length ys) c.deref.ensures.value c.in-Ok.ensures.bound) hit_here)

pub returns-in-Err : goal.returns-in-Err
returns-in-Err c =
    let name = c.args.name.now in
    let xs = c.args.self.now.list.items in
    let i = c.in-Err._index in
    let up : IsNonDecreasingBy (λ s. ordering_index (against name s)) c.deref.result.now = subst (λ (ys : List (String Global)). IsNonDecreasingBy (λ s. ordering_index (against name s)) ys) (sym c.deref.ensures.value) (searchable xs name c.args.self.now.rise) in
    let parts = c.in-Err.ensures.position (against name) (always_returns_same _ (λ a r. r ≡ against name a.0.now) _ (λ a r q k. search rules)) up in
    let parts_here : IsPartitionPoint (λ (s : String Global). against name s ≡ Less) (λ (s : String Global). against name s ≡ Greater) xs i =
    subst (λ (ys : List (String Global)). IsPartitionPoint (λ (s : String Global). against name s ≡ Less) (λ (s : String Global). against name s ≡ Greater) ys i) c.deref.ensures.value parts in
    let within : i ≤ length xs = subst (λ (ys : List (String Global)). i ≤ length ys) c.deref.ensures.value c.in-Err.ensures.bound in
    sym (missed xs name i within parts_here)
