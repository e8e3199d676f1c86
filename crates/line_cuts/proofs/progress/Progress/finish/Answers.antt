use Rattle.std.proofs.Common.{◌≡◌, ◌==◌, ◌∙◌, [], ap, sym, length, arith, drop_of_length-le}
use Rattle.std.proofs.lemmas.Bool.{false≢true, eqb-true}
use Rattle.line_cuts.proofs.Going.{any_err, breaks_none, goes_taken, last_goes, finish_goes, none_goes}
use Rattle.line_cuts.proofs.progress.Progress.finish.Goals as goal

pub returns-in_err-end_line-clause-breaks : goal.returns-in_err-end_line-clause-breaks
returns-in_err-end_line-clause-breaks g c = any_err c.from_residual.result _ (breaks_none _ _ _)

pub returns-in_err-write_out-clause-breaks : goal.returns-in_err-write_out-clause-breaks
returns-in_err-write_out-clause-breaks g c =
    let line = c.args.self.line.items in
    let some : line ≡ [] → ⊥ = λ h. false≢true (sym c.if-is_empty.false ∙ c.is_empty.ensures ∙ ap (λ n. n == 0) (c.args.self.line.ok.0 ∙ ap length h)) in
    any_err c.from_residual-in_err-write_out.result _
    (goes_taken _ _ _ [] _ _ _ _ _ _ (last_goes _ _ line _ _ _ _ _ some c.requires.written c.in_ok-end_line.ensures.ok) c.in_err-write_out.ensures.begun)

pub returns-clause-goes : goal.returns-clause-goes
returns-clause-goes g c =
    let line = c.args.self.line.items in
    let some : line ≡ [] → ⊥ = λ h. false≢true (sym c.if-is_empty.false ∙ c.is_empty.ensures ∙ ap (λ n. n == 0) (c.args.self.line.ok.0 ∙ ap length h)) in
    finish_goes _ _ line _ _ _ _ _ _ _ some c.requires.written c.in_ok-end_line.ensures.ok c.in_ok-write_out.ensures.sent c.write_out.ensures.report

pub returns-then-is_empty-clause-goes : goal.returns-then-is_empty-clause-goes
returns-then-is_empty-clause-goes g c =
    let line = c.args.self.line.items in
    let none : line ≡ [] = drop_of_length-le line {i = 0} (omega (arith, c.args.self.line.ok.0, eqb-true _ _ (sym c.is_empty.ensures ∙ c.if-is_empty.true))) in
    none_goes _ _ line _ _ none
