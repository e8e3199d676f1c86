use Rattle.std.proofs.Common.{◌<◌, ◌∙◌, Some, ap, arith, length, sym}
use Rattle.serde_json.proofs.Views.{get_item_within}
use Rattle.serde_json.specs.View.{view}
use Rattle.json_values.specs.Parts.{index}
use Rattle.schema_registries.proofs.search.other_item.Goals as goal

pub returns-then-not-has_only_whole : goal.returns-then-not-has_only_whole
returns-then-not-has_only_whole c =
    let items = c.args.items.now in
    let position = c.loop-position.position in
    let within : position < length items = omega arith in
    record {
      part = index position;
      further = c.in_ok-push_item.ensures;
      leads = sym (get_item_within items position c.index-items-position.result within) ∙ ap (λ v. Some (view v)) (sym c.index-items-position.is);
      not_whole = sym c.has_only_whole.ensures.whole ∙ c.if-not-has_only_whole.true;
    }
