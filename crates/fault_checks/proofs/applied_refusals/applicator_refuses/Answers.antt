use Rattle.std.proofs.Common.{◌∙◌, true, sym}
use Rattle.std.proofs.lemmas.Result.{IfOk-weaker}
use Rattle.serde_json.specs.View.{view}
use Rattle.applicators.specs.Combined.{notes_by}
use Rattle.fault_checks.proofs.AppliedQuestions.{by_applicator}
use Rattle.plain_reader.specs.Passed as code
use Rattle.fault_checks.proofs.NamedRefusals.{under_name}
use Rattle.fault_checks.proofs.Counted.{by_count, by_other}
use Rattle.fault_checks.proofs.Noted.{by_note, empty_is, some_noted}
use Rattle.plain_reader.proofs.Plain.{once_plain}
use Rattle.fault_paths.proofs.TextFacts.{apart_by, same_by}
use Rattle.fault_checks.proofs.applied_refusals.applicator_refuses.Goals as goal

pub returns-then-is_noted-clause-refuses : goal.returns-then-is_noted-clause-refuses
returns-then-is_noted-clause-refuses c =
    let d = view c.args.trial.now.value.now in
    let a = c.args.applicator.now in
    let every = sym c.is_every.ensures.every ∙ c.if-is_every.true in
    under_name c.args.trial.now.site.now d (code.Applicator a) c.args.name.now true every
    (by_note c.args.trial.now.site.now d a c.args.trial.now.shallow every (some_noted (notes_by a d) c.is_noted.result c.is_noted.ensures c.if-is_noted.true))

pub returns-then-is_every-clause-refuses : goal.returns-then-is_every-clause-refuses
returns-then-is_every-clause-refuses c =
    let d = view c.args.trial.now.value.now in
    let a = c.args.applicator.now in
    let plain = empty_is (notes_by a d) c.is_noted.result c.is_noted.ensures c.if-is_noted.false in
    IfOk-weaker c.some_of_refused.result _ _
    (λ b h. under_name c.args.trial.now.site.now d (code.Applicator a) c.args.name.now b (sym c.is_every.ensures.every ∙ c.if-is_every.true)
    (by_applicator c.args.trial.now.site.now d a b c.args.trial.now.shallow (sym c.is_every.ensures.every ∙ c.if-is_every.true) plain h))
    c.some_of_refused.ensures.refused

pub returns-then-ne-clause-refuses : goal.returns-then-ne-clause-refuses
returns-then-ne-clause-refuses c =
    let d = view c.args.trial.now.value.now in
    by_other c.args.trial.now.site.now d c.args.applicator.now _ _ c.args.name.now c.requires.applies.by_answers (once_plain c.args.applicator.now (sym c.is_every.ensures.every ∙ c.if-is_every.false)) c.in_ok-accepted.ensures.counts
    (λ same. apart_by c.refused_name.result.now c.args.name.now c.ne.result c.ne.ensures c.if-ne.true (c.refused_name.ensures ∙ same))

pub returns-clause-refuses : goal.returns-clause-refuses
returns-clause-refuses c =
    let d = view c.args.trial.now.value.now in
    by_count c.args.trial.now.site.now d c.args.applicator.now _ _ c.args.name.now c.requires.applies.by_answers (once_plain c.args.applicator.now (sym c.is_every.ensures.every ∙ c.if-is_every.false)) c.in_ok-accepted.ensures.counts c.accepts.result c.accepts.ensures
    (sym c.refused_name.ensures ∙ same_by c.refused_name.result.now c.args.name.now c.ne.result c.ne.ensures c.if-ne.false)
