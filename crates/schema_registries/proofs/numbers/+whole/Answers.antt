use Rattle.std.proofs.Common.{◌∙◌, ◌&&◌, ap, sym}
use Rattle.serde_json.specs.View.{members_view}
use Rattle.json_values.proofs.Walked.{entries_rise}
use Rattle.schema_registries.proofs.Trees.{values_are_trees, member_trees}
use Rattle.schema_registries.proofs.numbers.+whole.Goals as goal

pub have_members_whole-returns-then-not-has_only_whole-clause-trees : goal.have_members_whole-returns-then-not-has_only_whole-clause-trees
have_members_whole-returns-then-not-has_only_whole-clause-trees t c =
    let es = c.args.members.now.entries in
    let more = members_view c.next.new.self in
    sym (member_trees (members_view es) (entries_rise es c.len-count.ensures.ordered)
    ∙ c.loop-member.invariant.trees
    ∙ ap (λ xs. values_are_trees (members_view xs)) c.in-Some.ensures.steps
    ∙ ap (λ b. b && values_are_trees more) (sym c.has_only_whole.ensures.tree ∙ c.if-not-has_only_whole.true))

pub have_members_whole-returns-clause-trees : goal.have_members_whole-returns-clause-trees
have_members_whole-returns-clause-trees t c =
    let es = c.args.members.now.entries in
    sym (member_trees (members_view es) (entries_rise es c.len-count.ensures.ordered)
    ∙ c.loop-member.invariant.trees
    ∙ ap (λ xs. values_are_trees (members_view xs)) c.in-None.ensures.steps.0)
