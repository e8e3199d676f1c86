use Rattle.std.proofs.Common.{◌≡◌, Some, ap, ◌∙◌}
use Rattle.serde_json.specs.View.{view, items_view}
use Rattle.serde_json.specs.Find.{as_array}
use Rattle.assertions.proofs.EntryLemmas.{entry-right, entry-refused, no-list-refused}
use Rattle.assertions.proofs.names.refused_entry.Goals as goal

pub returns-in_ok-list-in-Some-clause-right : goal.returns-in_ok-list-in-Some-clause-right
returns-in_ok-list-in-Some-clause-right c =
    let there : Some (items_view c.as_slice.result.now) ≡ as_array (view c.args.entry.now) = ap (λ vs. Some (items_view vs)) c.as_slice.ensures.value ∙ c.in-Some.ensures in
    entry-right c.args.name.now (view c.args.entry.now) (items_view c.as_slice.result.now) c.in_ok-list-in-Some.list c.refused_list.result there c.in_ok-list-in-Some.ensures c.refused_list.ensures

pub returns-in_ok-list-in-Some-clause-refused : goal.returns-in_ok-list-in-Some-clause-refused
returns-in_ok-list-in-Some-clause-refused c =
    let there : Some (items_view c.as_slice.result.now) ≡ as_array (view c.args.entry.now) = ap (λ vs. Some (items_view vs)) c.as_slice.ensures.value ∙ c.in-Some.ensures in
    entry-refused c.args.name.now (view c.args.entry.now) (items_view c.as_slice.result.now) c.in_ok-list-in-Some.list c.refused_list.result there c.in_ok-list-in-Some.ensures c.refused_list.ensures

pub returns-in-None-clause-refused : goal.returns-in-None-clause-refused
returns-in-None-clause-refused c = λ x k. no-list-refused x k c.args.name.now (view c.args.entry.now) c.in-None.ensures
