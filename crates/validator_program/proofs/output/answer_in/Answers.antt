use Rattle.std.proofs.Common.{OnErr, sym, subst, refl}
use Rattle.line_cuts.specs.Cuts.{bytes_of}
use Rattle.validator_program.specs.Outputs.{BreaksBy}
use Rattle.validator_program.specs.declared.output.OutputForm.{OutputForm}
use Rattle.validator_program.proofs.Small.{on_err}
use Rattle.validator_program.proofs.output.answer_in.Goals as goal

pub returns-in-Lines-clause-breaks : goal.returns-in-Lines-clause-breaks
returns-in-Lines-clause-breaks g c =
    let contents = g.K.ByteSink.contents in
    let instances = bytes_of c.args.texts.now in
    subst (λ (f : OutputForm). OnErr c.answer_texts.result (BreaksBy c.args.validator.now f instances (contents c.args.writer.now) (contents c.answer_texts.new.writer))) (sym c.in-Lines.is) c.answer_texts.ensures.breaks

pub returns-in-Nothing-clause-breaks : goal.returns-in-Nothing-clause-breaks
returns-in-Nothing-clause-breaks g c =
    let before = g.K.ByteSink.contents c.args.writer.now in
    let instances = bytes_of c.args.texts.now in
    subst (λ (f : OutputForm). OnErr c.answer_texts-in-Nothing.result (BreaksBy c.args.validator.now f instances before before)) (sym c.in-Nothing.is)
    (on_err c.answer_texts-in-Nothing.result _ _ (λ h p r made. (refl, h p r made)) c.answer_texts-in-Nothing.ensures.breaks)
