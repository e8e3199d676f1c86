use Rattle.std.proofs.Common.{◌∙◌, ap, sym, rules}
use Rattle.std.proofs.lemmas.Result.{IfOk-weaker, IfErr-weaker}
use Rattle.serde_json.specs.View.{view, members_view}
use Rattle.serde_json.proofs.Views.{view-Object}
use Rattle.serde_json.specs.declared.value.Value.{the_lemmas}
use Rattle.fault_checks.proofs.Passed.{member_inside, asks_inside}
use Rattle.fault_checks.proofs.RefusedNames.{found_listed}
use Rattle.fault_checks.proofs.Going.{shorter_by, lies_in}
use Rattle.fault_checks.proofs.WalkSteps.{no_members, no_such_member, refused_member}
use Rattle.fault_checks.proofs.WalkSteps as walking
use Rattle.plain_reader.proofs.ReturnLemmas.{stops_by}
use Rattle.fault_checks.proofs.stepping.by_name.Goals as goal

pub returns-in_default-clause-passes : goal.returns-in_default-clause-passes
returns-in_default-clause-passes c = no_members c.args.walk c.args.text.now c.requires.text (search (rules, the_lemmas))

pub returns-in_default-member_named-clause-passes : goal.returns-in_default-member_named-clause-passes
returns-in_default-member_named-clause-passes c =
    let contents = ap view c.in-Object.is ∙ view-Object c.in-Object.members in
    no_such_member c.args.walk c.args.text.now c.requires.text (members_view c.in-Object.members.entries) c.first_part.result.0.now c.member_of-member.result.now c.first_part.result.1 contents c.entries_rise.ensures c.member_of-member.ensures c.first_part.ensures
    (sym c.in_default-member_named.ensures)

pub by_member-requires : goal.by_member-requires
by_member-requires c =
    let contents = ap view c.in-Object.is ∙ view-Object c.in-Object.members in
    let ms = members_view c.in-Object.members.entries in
    let listed = found_listed c.member_of-member.result.now (view c.in-Some.part.now) ms (sym c.in-Some.ensures) in
    record {
      lies = lies_in c.args.walk.site (view c.in-Some.part.now) c.in-Ok.keyword c.in-Ok.ensures.found (member_inside (view c.args.walk.site.contents.now) ms _ _ contents listed)
          (asks_inside c.args.walk.site ms c.member_of-member.result.now (view c.in-Some.part.now) c.in-Ok.keyword contents listed c.in-Ok.ensures.read c.in-Ok.ensures.found);
    }

pub returns-in-Ok-clause-passes : goal.returns-in-Ok-clause-passes
returns-in-Ok-clause-passes c =
    let contents = ap view c.in-Object.is ∙ view-Object c.in-Object.members in
    IfOk-weaker c.by_member.result _ _
    (λ st h. walking.by_member c.args.walk c.args.text.now c.requires.text (members_view c.in-Object.members.entries) c.first_part.result.0.now c.member_of-member.result.now c.first_part.result.1 contents c.entries_rise.ensures c.member_of-member.ensures c.first_part.ensures
    (view c.in-Some.part.now) c.in-Ok.keyword (sym c.in-Some.ensures) c.in-Ok.ensures.read st h)
    c.by_member.ensures.passes

pub returns-in-Ok-clause-shorter : goal.returns-in-Ok-clause-shorter
returns-in-Ok-clause-shorter c =
    IfOk-weaker c.by_member.result _ _ (λ st h. shorter_by st c.args.text.now c.first_part.result.0.now c.first_part.result.1 c.first_part.ensures h) c.by_member.ensures.shorter

pub returns-clause-passes : goal.returns-clause-passes
returns-clause-passes c =
    let contents = ap view c.in-Object.is ∙ view-Object c.in-Object.members in
    refused_member c.args.walk c.args.text.now c.requires.text (members_view c.in-Object.members.entries) c.first_part.result.0.now c.member_of-member.result.now c.first_part.result.1 contents c.entries_rise.ensures c.member_of-member.ensures c.first_part.ensures
    (view c.in-Some.part.now) c.in-Err.refusal (sym c.in-Some.ensures) c.in_default-refusal.not-Memory c.in-Err.ensures.refused

pub returns-in-Ok-clause-stops : goal.returns-in-Ok-clause-stops
returns-in-Ok-clause-stops c =
    let contents = ap view c.in-Object.is ∙ view-Object c.in-Object.members in
    IfErr-weaker c.by_member.result _ _ (λ e h. stops_by _ _ (λ back. walking.member_back c.args.walk c.args.text.now c.requires.text (members_view c.in-Object.members.entries) c.first_part.result.0.now c.member_of-member.result.now c.first_part.result.1 contents c.entries_rise.ensures c.member_of-member.ensures c.first_part.ensures
    (view c.in-Some.part.now) c.in-Ok.keyword (sym c.in-Some.ensures) c.in-Ok.ensures.read back.0 back.1) e h) c.by_member.ensures.stops
