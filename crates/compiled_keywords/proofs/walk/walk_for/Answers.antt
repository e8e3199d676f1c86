use Rattle.std.proofs.Common.{◌∙◌, refl, sym, ap}
use Rattle.serde_json.specs.Find.{get, get_member}
use Rattle.serde_json.proofs.Views.{view-Object}
use Rattle.serde_json.specs.View.{view, members_view}
use Rattle.schema_engine.specs.Places.{value_at}
use Rattle.json_values.specs.Rising.{are_rising}
use Rattle.json_values.proofs.Walked.{entries_rise}
use Rattle.compiled_keywords.proofs.WalkLemmas.{left_is, first_in_step}
use Rattle.compiled_keywords.proofs.walk.walk_for.Goals as goal

pub returns-in-Object : goal.returns-in-Object
returns-in-Object c =
    let all = c.in-Object.members.entries in
    let d = value_at c.args.place in
    let left = left_is c.next-next.result c.iter-rest.result c.next-next.new.self c.next-next.ensures.steps ∙ ap members_view c.iter-rest.ensures.rest in
    first_in_step _ d refl (ap are_rising left ∙ entries_rise all c.iter-rest.ensures.ordered) (λ k. ap (get_member k) left ∙ sym (ap (λ p. get k (value_at p)) c.in-Value.is ∙ ap (get k) (ap view c.in-Object.is ∙ view-Object c.in-Object.members)))
