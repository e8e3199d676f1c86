use Rattle.std.proofs.Common.{ap, subst, sym}
use Rattle.std.proofs.lemmas.Result.{IfOk-weaker, IfErr-weaker}
use Rattle.schema_meaning.specs.Keywords.{pattern}
use Rattle.fault_checks.specs.Passed.{assertion_of, target_in}
use Rattle.fault_checks.specs.Passed.{row_of}
use Rattle.fault_checks.specs.Rows.{applied_row, reference_row}
use Rattle.fault_checks.specs.Verdicts.{LiesIn}
use Rattle.fault_checks.specs.Steps.{PassesBy}
use Rattle.fault_checks.proofs.ReferenceSteps.{asserted_passes, nothing_passes, by_row}
use Rattle.fault_checks.specs.Circles.{StepComesBack}
use Rattle.plain_reader.proofs.ReturnLemmas.{stops_by}
use Rattle.fault_checks.proofs.stepping.through.Goals as goal

pub through_applicator-requires : goal.through_applicator-requires
through_applicator-requires c = record { applies = subst (LiesIn c.args.walk.site) c.in-Applicator.is c.requires.lies; more = c.requires.more }

pub through_condition-requires : goal.through_condition-requires
through_condition-requires c = record { lies = subst (LiesIn c.args.walk.site) c.in-If.is c.requires.lies; more = c.requires.more }

pub through_reference-requires : goal.through_reference-requires
through_reference-requires c = record { found = subst (LiesIn c.args.walk.site) c.in-Reference.is c.requires.lies; more = c.requires.more }

pub returns-in-Applicator-clause-passes : goal.returns-in-Applicator-clause-passes
returns-in-Applicator-clause-passes c =
    by_row c.args.walk c.args.keyword (applied_row c.in-Applicator.applicator) c.args.name.now c.args.after c.in_ok-through_applicator-in-Applicator.field-0 (λ x s. ap (λ k. row_of x.documents s k) c.in-Applicator.is)
    c.in_ok-through_applicator-in-Applicator.ensures.passes

pub returns-in-If-clause-passes : goal.returns-in-If-clause-passes
returns-in-If-clause-passes c =
    IfOk-weaker c.through_condition.result _ _ (λ st h. subst (λ k. PassesBy c.args.walk k c.args.name.now c.args.after st) (sym c.in-If.is) h) c.through_condition.ensures.passes

pub returns-in-Consequent-clause-passes : goal.returns-in-Consequent-clause-passes
returns-in-Consequent-clause-passes c = nothing_passes c.args.walk c.args.keyword c.args.name.now c.args.after (λ x s. ap (λ k. (row_of x.documents s k).shapes) c.in-Consequent.is)

pub returns-in-Reference-clause-passes : goal.returns-in-Reference-clause-passes
returns-in-Reference-clause-passes c =
    by_row c.args.walk c.args.keyword (reference_row c.in-Reference.by c.in-Reference.text.now (target_in c.in-Reference.target)) c.args.name.now c.args.after c.in_ok-through_reference-in-Reference.field-0 (λ x s. ap (λ k. row_of x.documents s k) c.in-Reference.is)
    c.in_ok-through_reference-in-Reference.ensures.passes

pub returns-in-Nothing-clause-passes : goal.returns-in-Nothing-clause-passes
returns-in-Nothing-clause-passes c = nothing_passes c.args.walk c.args.keyword c.args.name.now c.args.after (λ x s. ap (λ k. (row_of x.documents s k).shapes) c.in-Nothing.is)

pub returns-in-Pattern-clause-passes : goal.returns-in-Pattern-clause-passes
returns-in-Pattern-clause-passes c =
    asserted_passes c.args.walk c.args.keyword (pattern c.in-Pattern.field-0.now) c.args.name.now c.args.after c.requires.more (λ x s. ap (λ k. (row_of x.documents s k).shapes) c.in-Pattern.is)

pub returns-clause-passes : goal.returns-clause-passes
returns-clause-passes c =
    asserted_passes c.args.walk c.args.keyword (assertion_of c.in-Assertion._assertion) c.args.name.now c.args.after c.requires.more (λ x s. ap (λ k. (row_of x.documents s k).shapes) c.in-Assertion.is)

pub returns-in-If-clause-stops : goal.returns-in-If-clause-stops
returns-in-If-clause-stops c =
    IfErr-weaker c.through_condition.result _ _ (λ e h. stops_by _ _ (λ back. subst (λ k. StepComesBack c.args.walk k) (sym c.in-If.is) back) e h) c.through_condition.ensures.stops
