use Rattle.std.proofs.Common.{arith, ◌≡◌, ◌<◌, ◌+◌, ◌∷◌, length, drop, sym, ap, ◌∙◌, add-one}
use Rattle.std.proofs.lemmas.List.{drop_more, drop_all}
use Rattle.serde_json.specs.View.{view}
use Rattle.applicators.specs.Shapes.{site_of}
use Rattle.applicators.specs.Questions.{questions_of}
use Rattle.applicators.proofs.ItemLemmas.{items_begin, items_step, items_end}
use Rattle.applicators.proofs.questions.push_items.Goals as goal

pub loop-index-init : goal.loop-index-init
loop-index-init c = λ site. items_begin c.args.keyword.now (site_of site c.args.keyword.now (view c.args.schema.now)) c.args.start c.items_in-items.result.now (questions_of site c.args.questions.now.items)

pub loop-index-preserved : goal.loop-index-preserved
loop-index-preserved c =
    let xs = c.items_in-items.result.now in
    let l = c.loop-index in
    let x = c.index-items-index.result in
    let short : l.index < length xs = omega arith in
    let here : drop l.index xs ≡ x ∷ drop (l.index + 1) xs = drop_more xs l.index x short ∙ ap (λ y. y ∷ drop (l.index + 1) xs) (sym c.index-items-index.is) in
    λ site. items_step c.args.keyword.now (site_of site c.args.keyword.now (view c.args.schema.now)) l.index (l.index + 1) x (drop l.index xs) (drop (l.index + 1) xs) _ _ _ (add-one l.index) here (l.invariant site) (c.in_ok-push.ensures site)

pub returns : goal.returns
returns c =
    let l = c.loop-index in
    let xs = c.items_in-items.result.now in
    λ site. items_end c.args.keyword.now (site_of site c.args.keyword.now (view c.args.schema.now)) c.args.start l.index xs (drop l.index xs) _ _ _ (drop_all l.index xs (omega arith)) c.items_in-items.ensures (l.invariant site)
