use Rattle.std.proofs.Common.{◌∙◌, List, ap, length, sym}
use Rattle.applicators.specs.declared.question.Question.{Question}
use Rattle.fault_paths.specs.Obliged.{obliges}
use Rattle.fault_checks.proofs.AppliedSteps.{applied_never}
use Rattle.fault_checks.proofs.applied_steps.through_questions.Goals as goal

pub returns-clause-passes : goal.returns-clause-passes
returns-clause-passes c =
    let asked = ap (λ (qs : List Question). obliges c.args.applicator.now (length qs)) (sym c.as_slice-asked.ensures.value) in
    applied_never c.args.walk c.args.applicator.now c.args.after _ c.in_ok-asked.ensures c.requires.values c.requires.more (asked ∙ sym c.obliges.ensures ∙ c.if-obliges.false)
