use Rattle.std.proofs.Common.{◌∙◌, [], ◌++◌, sym, ap, subst, refl}
use Rattle.line_cuts.specs.Cuts.{part_of}
use Rattle.line_cuts.specs.Steps.{Goes}
use Rattle.line_cuts.proofs.Cutting.{kept_plain, part_first, part_none}
use Rattle.line_cuts.proofs.Going.{any_err, goes_none, goes_breaks, goes_taken, line_breaks, line_sent, rest_goes}
use Rattle.line_cuts.proofs.progress.Progress.take_piece.Goals as goal

pub loop-end-init : goal.loop-end-init
loop-end-init g c = record {
  kept = c.requires.kept;
  goes = subst (Goes _ _ _ _ _ _ _ _) (sym c.requires.written) (goes_none _ _ _ c.args.self.now.outbox.report _);
  part = refl;
  plain = c.requires.plain;
  quiet = refl;
}

pub returns-in_err-end_line-clause-breaks : goal.returns-in_err-end_line-clause-breaks
returns-in_err-end_line-clause-breaks g c = any_err c.from_residual.result _ (goes_breaks _ _ _ _ _ _ _ _ _ c.loop-end.invariant.goes)

pub returns-in_err-write_if_full-clause-breaks : goal.returns-in_err-write_if_full-clause-breaks
returns-in_err-write_if_full-clause-breaks g c =
    let i = c.loop-end.invariant in
    any_err c.from_residual-in_err-write_if_full.result _
    (line_breaks _ _ _ _ _ c.in-Some.end.now c.in-Some.after.now i.plain c.in-Some.ensures.cut _ _ _ _ _ _ _ i.goes c.in_ok-end_line.ensures.ok _ c.in_err-write_if_full.ensures.begun)

pub loop-end-preserved : goal.loop-end-preserved
loop-end-preserved g c =
    let i = c.loop-end.invariant in
    let none = c.in_ok-end_line.ensures.cleared in
    let after = c.in-Some.after.now in
    record {
      kept = c.in_ok-end_line.ensures.kept;
      goes =
          line_sent _ _ _ _ _ c.in-Some.end.now after i.plain c.in-Some.ensures.cut _ _ _ _ _ _ _ i.goes c.in_ok-end_line.ensures.ok _ _ _ _ c.in_ok-write_if_full.ensures.sent none
          c.write_if_full.ensures.report;
      part = i.part ∙ part_first _ _ i.plain c.in-Some.end.now after c.in-Some.ensures.cut ∙ ap (λ l. part_of (l ++ after)) (sym none);
      plain = kept_plain c.end_line.new.self.line.items [] none;
      quiet = c.in_ok-write_if_full.ensures.quiet ∙ i.quiet;
    }

pub returns-in_err-extend_from_slice-clause-breaks : goal.returns-in_err-extend_from_slice-clause-breaks
returns-in_err-extend_from_slice-clause-breaks g c = any_err c.from_residual-in_err-extend_from_slice.result _ (goes_breaks _ _ _ _ _ _ _ _ _ c.loop-end.invariant.goes)

pub returns-in_err-write_out-clause-breaks : goal.returns-in_err-write_out-clause-breaks
returns-in_err-write_out-clause-breaks g c = any_err c.from_residual-in_err-write_out.result _ (goes_taken _ _ _ _ _ _ _ _ _ _ c.loop-end.invariant.goes c.in_err-write_out.ensures.begun)

pub returns-clause-goes : goal.returns-clause-goes
returns-clause-goes g c =
    let i = c.loop-end.invariant in
    rest_goes _ _ _ _ _ i.plain c.in_default.ensures.cut _ _ _ _ _ _ _ i.goes c.in_ok-write_out.ensures.sent c.write_out.ensures.report

pub returns-clause-part : goal.returns-clause-part
returns-clause-part g c =
    let i = c.loop-end.invariant in
    c.in_ok-extend_from_slice.ensures.items ∙ sym (i.part ∙ part_none _ _ i.plain c.in_default.ensures.cut)
