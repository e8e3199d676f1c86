use Rattle.std.proofs.Common.{◌∙◌, string_bytes, ap, subst}
use Rattle.std.proofs.lemmas.Result.{IfOk-weaker}
use Rattle.serde_json.specs.View.{view}
use Rattle.graph_answers.specs.Completions.{matches_with, start_at, asked_from, IsStop}
use Rattle.graph_answers.proofs.CertainLemmas.{open_of_stop}
use Rattle.graph_answers.proofs.certain.first_unfinished.Goals as goal

pub returns-in-Some-into_stopped : goal.returns-in-Some-into_stopped
returns-in-Some-into_stopped g c =
    let finds = g.M.PatternMatcher.finds in
    let shape = g.K.Validate.shape in
    let made = c.new-matching.result in
    let nodes = c.args.graph.now.nodes.items in
    let d = view c.args.value.now in
    let p = string_bytes c.in-Some-into_stopped.stopped.pattern in
    let t = string_bytes c.in-Some-into_stopped.stopped.text in
    let e = c.new-matching.ensures in
    let is = ap (λ a. asked_from (start_at shape a.nodes.items made.start (view made.value.now)) (matches_with finds made.table.now made.assumed.now)) e.graph
    ∙ ap (λ n. asked_from (start_at shape nodes n (view made.value.now)) (matches_with finds made.table.now made.assumed.now)) e.start
    ∙ ap (λ v. asked_from (start_at shape nodes c.args.start (view v)) (matches_with finds made.table.now made.assumed.now)) e.value
    ∙ ap (λ x. asked_from (start_at shape nodes c.args.start d) (matches_with finds x made.assumed.now)) e.table
    ∙ ap (λ xs. asked_from (start_at shape nodes c.args.start d) (matches_with finds c.args.table.now xs)) e.assumed in
    IfOk-weaker c.unfinished.result _ _
    (λ error said. record {
      pattern = p;
      text = t;
      is_open = open_of_stop finds c.args.table.now (start_at shape nodes c.args.start d) p t (subst (λ m. IsStop m p t) (c.seek.ensures.matches ∙ is) c.in-Some-into_stopped.ensures.stop);
      unfinished = said;
    }) c.unfinished.ensures
