use Rattle.std.proofs.Common.{IfOk, sym, subst}
use Rattle.validator_program.specs.Outputs.{RunsBy}
use Rattle.validator_program.specs.declared.output.OutputForm.{OutputForm}
use Rattle.validator_program.proofs.output.run_in.Goals as goal

pub returns-in-Lines-clause-ok : goal.returns-in-Lines-clause-ok
returns-in-Lines-clause-ok g c =
    subst (λ (f : OutputForm). IfOk c.run_in_form.result (λ run. RunsBy c.args.validator.now f (g.S.ByteSource.remaining c.args.reader.now) (g.S.ByteSource.remaining c.run_in_form.new.reader)
    (g.K.ByteSink.contents c.args.writer.now) (g.K.ByteSink.contents c.run_in_form.new.writer) run.report)) (sym c.in-Lines.is) c.run_in_form.ensures.ok
