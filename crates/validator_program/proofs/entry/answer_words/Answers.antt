use Rattle.std.proofs.Common.{◌∙◌, ap, sym}
use Rattle.std.proofs.lemmas.Result.{err_from_is_err_and}
use Rattle.clap.specs.Walk.{texts}
use Rattle.validator_program.specs.Outputs.{form_of}
use Rattle.validator_program.proofs.Small.{or_so}
use Rattle.validator_program.proofs.Running.{named_by, answers_all, stops_early}
use Rattle.validator_program.proofs.entry.answer_words.Goals as goal

pub returns-clause-ok : goal.returns-clause-ok
returns-clause-ok g c = λ rows has.
    let held = g.F.SchemaFiles.held c.args.files.now in
    let is = c.in_ok-validator.ensures in
    let asked = sym (ap form_of has.output) ∙ c.in_ok-form.ensures in
    answers_all rows held c.in_ok-validator.validator is.root (named_by rows held c.args.words.now is.root has is.built) is.made c.in_ok-form.form asked _ (ap texts c.as_slice-names.ensures.value ∙ has.instances) _ _ _ _ c.in_ok-done.done.report c.in_ok-done.ensures.ok

pub returns-in_err-done-clause-err : goal.returns-in_err-done-clause-err
returns-in_err-done-clause-err g c =
    let held = g.F.SchemaFiles.held c.args.files.now in
    let is = c.in_ok-validator.ensures in
    let e = err_from_is_err_and c.from_residual-in_err-done.result c.from_residual-in_err-done.ensures.1 in
    rw (e.1, e.2) (or_so _ _ _ _ (λ stops rows has.
    stops_early rows held c.in_ok-validator.validator is.root (named_by rows held c.args.words.now is.root has is.built) is.made c.in_ok-form.form
    (sym (ap form_of has.output) ∙ c.in_ok-form.ensures) _ (ap texts c.as_slice-names.ensures.value ∙ has.instances) _ _ _ _ stops) c.in_err-done.ensures.err)
