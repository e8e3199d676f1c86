use Rattle.std.proofs.Common.{◌∙◌, ◌||◌, option_map, ap, subst, arith}
use Rattle.std.specs.Io.KnownBytes.{Appends}
use Rattle.line_cuts.specs.Runs.{TakesSome}
use Rattle.answer_checks.specs.Checks.{IsPairCheckedBy, pair_bytes}
use Rattle.answer_checks.proofs.Lists.{any_err}
use Rattle.answer_checks.proofs.Going.{went_breaks, went_more, went_taken}
use Rattle.answer_checks.proofs.run.check_lines.Goals as goal

pub returns-in_err-answers-clause-breaks : goal.returns-in_err-answers-clause-breaks
returns-in_err-answers-clause-breaks g c = any_err c.from_residual.result _ (went_breaks pair_bytes _ c.args.lines.now _ _ _ _ c.loop-pair.invariant.went)

pub returns-in_err-text-clause-breaks : goal.returns-in_err-text-clause-breaks
returns-in_err-text-clause-breaks g c = any_err c.from_residual-in_err-text.result _ (went_breaks pair_bytes _ c.args.lines.now _ _ _ _ c.loop-pair.invariant.went)

pub returns-in_err-write_whole-clause-breaks : goal.returns-in_err-write_whole-clause-breaks
returns-in_err-write_whole-clause-breaks g c =
    let R = IsPairCheckedBy g.M.PatternMatcher.finds c.args.checker.now in
    let contents = g.K.ByteSink.contents in
    let said = option_map (λ v. v.items) c.in_ok-answers.answers in
    let taken = subst (TakesSome (contents c.loop-pair.writer) (contents c.write_whole.new.writer)) (c.as_bytes.ensures.value ∙ c.in_ok-text.ensures) c.in_err-write_whole.ensures.begun in
    any_err c.from_residual-in_err-write_whole.result _
    (went_taken pair_bytes R c.args.lines.now (contents c.args.writer.now) c.loop-pair.pair-index c.loop-pair.report (contents c.loop-pair.writer) (contents c.write_whole.new.writer) _
    c.loop-pair-test.true c.loop-pair.invariant.went said c.in_ok-answers.ensures taken)

pub loop-pair-preserved : goal.loop-pair-preserved
loop-pair-preserved g c =
    let R = IsPairCheckedBy g.M.PatternMatcher.finds c.args.checker.now in
    let contents = g.K.ByteSink.contents in
    let report = c.loop-pair.report in
    let said = option_map (λ v. v.items) c.in_ok-answers.answers in
    let written = subst (Appends (contents c.loop-pair.writer) (contents c.write_whole.new.writer)) (c.as_bytes.ensures.value ∙ c.in_ok-text.ensures) c.in_ok-write_whole.ensures.written in
    record {
      went =
          went_more pair_bytes R c.args.lines.now (contents c.args.writer.now) c.loop-pair.pair-index report (contents c.loop-pair.writer) (contents c.write_whole.new.writer) _
          c.loop-pair-test.true c.loop-pair.invariant.went said c.in_ok-answers.ensures
          (record { lines = c.saturating_add.result; any_refused = report.any_refused || c.is_doubtful.result })
          written (omega (arith, c.saturating_add.ensures)) (ap (λ b. report.any_refused || b) c.is_doubtful.ensures);
      quiet = c.in_ok-write_whole.ensures.quiet ∙ c.loop-pair.invariant.quiet;
    }
