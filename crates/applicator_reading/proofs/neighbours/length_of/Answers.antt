use Rattle.std.proofs.Common.{◌≡◌, ◌∙◌, Some, sym, ap, length, vec_len, option_map}
use Rattle.serde_json.proofs.Views.{items_len-items_view}
use Rattle.json_values.specs.Texts.{count_items}
use Rattle.applicator_reading.proofs.neighbours.length_of.Goals as goal

pub returns-in-Some : goal.returns-in-Some
returns-in-Some c =
    let list = c.in-Some.items.now in
    let counted : vec_len list ≡ length list.items = list.ok.0 in
    ap Some (c.len.ensures ∙ counted ∙ sym (items_len-items_view list.items)) ∙ ap (option_map count_items) c.in-Some.ensures
