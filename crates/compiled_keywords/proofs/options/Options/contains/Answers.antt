use Rattle.std.proofs.Common.{◌∙◌, ap}
use Rattle.serde_json.specs.View.{view, items_view}
use Rattle.json_values.specs.Equality.{is_among}
use Rattle.compiled_keywords.proofs.Collected.{is_text}
use Rattle.compiled_keywords.proofs.options.Options.contains.Goals as goal

pub returns-in-Some-Some : goal.returns-in-Some-Some
returns-in-Some-Some c =
    let d = view c.args.value.now in
    c.contains.ensures ∙ c.args.self.now.told c.in-Some-Some.texts c.in-Some-Some.is-0 c.in-Some-Some.text.now
    ∙ ap (λ e. is_among e (items_view c.args.self.now.list.items)) (is_text d c.in-Some-Some.text.now c.in-Some-Some.ensures)
