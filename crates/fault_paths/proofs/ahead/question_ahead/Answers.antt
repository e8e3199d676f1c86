use Rattle.std.proofs.Common.{MatchOption, ◌≡◌, ◌∙◌, ◌+◌, ◌<◌, ◌∷◌, List, Option, length, drop, arith, sym, ap, subst}
use Rattle.std.proofs.lemmas.List.{drop_more, drop_all}
use Rattle.fault_paths.specs.Texts.{text_left}
use Rattle.applicators.specs.declared.question.Question.{Question}
use Rattle.fault_paths.specs.declared.ahead.Ahead.{Ahead}
use Rattle.fault_paths.specs.Ahead.{LeadsNowhere, LeadsTo}
use Rattle.fault_paths.proofs.AheadFacts.{Rest, rest_more, rest_none, rest_found}
use Rattle.fault_paths.proofs.ahead.question_ahead.Goals as goal

pub returns-in-Some-clause-ahead : goal.returns-in-Some-clause-ahead
returns-in-Some-clause-ahead c =
    let all = c.args.asked.now in
    let n = c.loop-question.question-index in
    let instance = text_left c.args.instance in
    let evaluation = text_left c.args.after in
    let q = c.question-item.result in
    let short : n < length all = omega arith in
    let here : drop n all ≡ q ∷ drop (n + 1) all = drop_more all n q short ∙ ap (λ (p : Question). p ∷ drop (n + 1) all) (sym c.question-item.is) in
    let leads : LeadsTo q instance evaluation c.in-Some.ahead =
    subst (λ (o : Option Ahead). MatchOption o (LeadsNowhere q instance evaluation) (LeadsTo q instance evaluation)) c.in-Some.is c.in_ok-ahead.ensures.leads in
    rest_found all instance evaluation q (drop (n + 1) all) c.in-Some.ahead (subst (λ (qs : List Question). Rest all qs instance evaluation) here c.loop-question.invariant) leads

pub loop-question-preserved : goal.loop-question-preserved
loop-question-preserved c =
    let all = c.args.asked.now in
    let n = c.loop-question.question-index in
    let instance = text_left c.args.instance in
    let evaluation = text_left c.args.after in
    let q = c.question-item.result in
    let short : n < length all = omega arith in
    let here : drop n all ≡ q ∷ drop (n + 1) all = drop_more all n q short ∙ ap (λ (p : Question). p ∷ drop (n + 1) all) (sym c.question-item.is) in
    let nowhere : LeadsNowhere q instance evaluation =
    subst (λ (o : Option Ahead). MatchOption o (LeadsNowhere q instance evaluation) (LeadsTo q instance evaluation)) c.in_default.is c.in_ok-ahead.ensures.leads in
    rest_more all instance evaluation q (drop (n + 1) all) nowhere (subst (λ (qs : List Question). Rest all qs instance evaluation) here c.loop-question.invariant)

pub returns-clause-ahead : goal.returns-clause-ahead
returns-clause-ahead c =
    let all = c.args.asked.now in
    let n = c.loop-question.question-index in
    let instance = text_left c.args.instance in
    let evaluation = text_left c.args.after in
    rest_none all instance evaluation (subst (λ (qs : List Question). Rest all qs instance evaluation) (drop_all n all (omega arith)) c.loop-question.invariant)
