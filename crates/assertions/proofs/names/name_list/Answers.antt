use Rattle.std.proofs.Common.{◌≡◌, true, sym, ◌∙◌}
use Rattle.serde_json.specs.View.{items_view}
use Rattle.assertions.specs.Texts.{are_texts}
use Rattle.assertions.proofs.NameLemmas.{texts_stand, texts_fail, texts_distinct}
use Rattle.assertions.proofs.names.name_list.Goals as goal

pub returns-then-not-are_texts : goal.returns-then-not-are_texts
returns-then-not-are_texts c = texts_fail (items_view c.args.names.now) (sym c.are_texts.ensures ∙ c.if-not-are_texts.true)

pub returns-then-branch : goal.returns-then-branch
returns-then-branch c =
    let texts : are_texts (items_view c.args.names.now) ≡ true = sym c.are_texts.ensures ∙ c.if-not-are_texts.false in
    (texts_stand (items_view c.args.names.now) texts, texts_distinct (items_view c.args.names.now) texts ∙ sym c.in_ok-all_distinct.ensures ∙ c.if-branch.true)

pub returns-else-branch : goal.returns-else-branch
returns-else-branch c =
    let texts : are_texts (items_view c.args.names.now) ≡ true = sym c.are_texts.ensures ∙ c.if-not-are_texts.false in
    (texts_stand (items_view c.args.names.now) texts, texts_distinct (items_view c.args.names.now) texts ∙ sym c.in_ok-all_distinct.ensures ∙ c.if-branch.false)
