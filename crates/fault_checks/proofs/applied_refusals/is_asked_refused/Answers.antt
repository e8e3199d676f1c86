use Rattle.std.proofs.Common.{◌∙◌, ap, not}
use Rattle.std.proofs.lemmas.Result.{IfOk-weaker, IfErr-weaker}
use Rattle.serde_json.specs.Data.{string}
use Rattle.serde_json.specs.View.{view}
use Rattle.fault_checks.proofs.AppliedQuestions.{view_text, verdict_of_value, verdict_of_item, verdict_of_member, verdict_of_name}
use Rattle.fault_checks.proofs.CircleLemmas.{back_of_value, back_of_item, back_of_member, back_of_name}
use Rattle.plain_reader.proofs.ReturnLemmas.{stops_by}
use Rattle.fault_checks.proofs.applied_refusals.is_asked_refused.Goals as goal

pub returns-in-Value-clause-refused : goal.returns-in-Value-clause-refused
returns-in-Value-clause-refused c =
    IfOk-weaker c.is_refused.result _ _ (λ b h. verdict_of_value c.args.trial.now.site.now (view c.args.trial.now.value.now) (not b) c.args.asked c.in-Value.is h) c.is_refused.ensures.refused

pub returns-in-Item-clause-refused : goal.returns-in-Item-clause-refused
returns-in-Item-clause-refused c =
    IfOk-weaker c.is_other_refused.result _ _
    (λ b h. verdict_of_item c.args.trial.now.site.now (view c.args.trial.now.value.now) (not b) c.args.asked _ c.in-Item.item c.in-Item.is h) c.is_other_refused.ensures.refused

pub returns-in-Member-clause-refused : goal.returns-in-Member-clause-refused
returns-in-Member-clause-refused c =
    IfOk-weaker c.is_other_refused-in-Member.result _ _
    (λ b h. verdict_of_member c.args.trial.now.site.now (view c.args.trial.now.value.now) (not b) c.args.asked _ c.in-Member.member c.in-Member.is h) c.is_other_refused-in-Member.ensures.refused

pub returns-in_ok-from_str-in-Name-clause-refused : goal.returns-in_ok-from_str-in-Name-clause-refused
returns-in_ok-from_str-in-Name-clause-refused c =
    IfOk-weaker c.is_other_refused-in-Name.result _ _
    (λ b h. verdict_of_name c.args.trial.now.site.now (view c.args.trial.now.value.now) (not b) c.args.asked c.in-Name.name _ c.in-Name.is (view_text _ ∙ ap string c.in_ok-from_str-in-Name.ensures.ok) h) c.is_other_refused-in-Name.ensures.refused

pub returns-in-Value-clause-stops : goal.returns-in-Value-clause-stops
returns-in-Value-clause-stops c =
    IfErr-weaker c.is_refused.result _ _ (λ e h. stops_by _ _ (λ back. back_of_value c.args.trial.now.site.now (view c.args.trial.now.value.now) c.args.asked c.in-Value.is back) e h) c.is_refused.ensures.stops

pub returns-in-Item-clause-stops : goal.returns-in-Item-clause-stops
returns-in-Item-clause-stops c =
    IfErr-weaker c.is_other_refused.result _ _ (λ e h. stops_by _ _ (λ back. back_of_item c.args.trial.now.site.now (view c.args.trial.now.value.now) c.args.asked _ c.in-Item.item c.in-Item.is back) e h) c.is_other_refused.ensures.stops

pub returns-in-Member-clause-stops : goal.returns-in-Member-clause-stops
returns-in-Member-clause-stops c =
    IfErr-weaker c.is_other_refused-in-Member.result _ _ (λ e h. stops_by _ _ (λ back. back_of_member c.args.trial.now.site.now (view c.args.trial.now.value.now) c.args.asked _ c.in-Member.member c.in-Member.is back) e h) c.is_other_refused-in-Member.ensures.stops

pub returns-in_ok-from_str-in-Name-clause-stops : goal.returns-in_ok-from_str-in-Name-clause-stops
returns-in_ok-from_str-in-Name-clause-stops c =
    IfErr-weaker c.is_other_refused-in-Name.result _ _ (λ e h. stops_by _ _ (λ back. back_of_name c.args.trial.now.site.now (view c.args.trial.now.value.now) c.args.asked c.in-Name.name _ c.in-Name.is (view_text _ ∙ ap string c.in_ok-from_str-in-Name.ensures.ok) back) e h) c.is_other_refused-in-Name.ensures.stops
