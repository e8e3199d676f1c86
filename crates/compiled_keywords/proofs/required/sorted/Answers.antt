use Rattle.std.proofs.Common.{◌≡◌, ◌∙◌, String, Global, string_bytes, bytes_eq, sym, ap}
use Rattle.std.proofs.lemmas.List.Filters.{dedup_is}
use Rattle.std.proofs.lemmas.List.Kept.{IsStrictlySortedBy-dedup}
use Rattle.std.proofs.lemmas.List.Sorted.{list_any-IsPermutation}
use Rattle.std.specs.Cmp.Lexicographic.{texts_ties}
use Rattle.std.specs.List.{dedup, list_any}
use Rattle.std.specs.List.Sorted.{IsStrictlySortedBy}
use Rattle.std.specs.String.{string_cmp, string_cmp_total, string_eq}
use Rattle.schema_meaning.specs.Members.{is_listed}
use Rattle.compiled_keywords.proofs.RequiredLemmas.{copied, listed_by, once, texts_rise}
use Rattle.compiled_keywords.proofs.required.sorted.Goals as goal

pub invariant_of-result : goal.invariant_of-result
invariant_of-result c =
    let rising = c.sort_unstable.new.self.items in
    let left : c.dedup.new.self.items ≡ dedup string_eq rising = dedup_is string_eq rising _ c.dedup.ensures.filtered in
    let rises : IsStrictlySortedBy string_cmp (dedup string_eq rising) =
    IsStrictlySortedBy-dedup string_cmp_total (λ x y. texts_ties (string_bytes x) (string_bytes y)) rising c.sort_unstable.ensures.sorted in
    record { rise = texts_rise c.dedup.new.self.items (rw left rises) }

pub returns : goal.returns
returns c = λ k.
    let names = c.args.names.now in
    let list = c.in_ok-list.list.items in
    let rising = c.sort_unstable.new.self.items in
    let left : c.dedup.new.self.items ≡ dedup string_eq rising = dedup_is string_eq rising _ c.dedup.ensures.filtered in
    let test = λ (x : String Global). bytes_eq k (string_bytes x) in
    listed_by k c.dedup.new.self.items ∙ ap (list_any test) left ∙ once k rising
    ∙ sym (list_any-IsPermutation test list rising c.sort_unstable.ensures.permutation)
    ∙ sym (listed_by k list) ∙ ap (is_listed k) (copied names list c.in_ok-list.ensures.ok)
