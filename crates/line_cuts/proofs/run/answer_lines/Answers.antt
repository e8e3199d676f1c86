use Rattle.std.proofs.Common.{◌∙◌, [], refl, arith}
use Rattle.std.proofs.lemmas.Result.{err_from_is_err_and}
use Rattle.line_cuts.proofs.Cutting.{kept_plain}
use Rattle.line_cuts.proofs.Reading.{reads_first, off_at_once}
use Rattle.line_cuts.proofs.Ending.{finish_ok, finish_stops, finish_counts, quiet_since, quiet_kept, counts_since}
use Rattle.line_cuts.proofs.run.answer_lines.Goals as goal

pub returns-in_err-storage-clause-stops : goal.returns-in_err-storage-clause-stops
returns-in_err-storage-clause-stops g c =
    let p = err_from_is_err_and c.from_residual.result c.from_residual.ensures.1 in
    rw (p.1, p.2) (off_at_once _ _ _)

pub returns-in_err-storage-clause-counts : goal.returns-in_err-storage-clause-counts
returns-in_err-storage-clause-counts g c =
    let p = err_from_is_err_and c.from_residual.result c.from_residual.ensures.1 in
    rw (p.1, p.2) (refl, refl)

pub loop-progress-init : goal.loop-progress-init
loop-progress-init g c = record {
  kept = c.requires.kept;
  reads = reads_first _ _ _ _ _ _ c.new-progress.ensures.line c.new-progress.ensures.report;
  plain = kept_plain c.new-progress.result.line.items [] c.new-progress.ensures.line;
  text = c.new-progress.ensures.text;
  read_quiet = refl;
  write_quiet = refl;
  room = omega (arith, c.as_mut_slice-buffer.ensures.len, c.in_ok-storage.ensures.len);
}

pub returns-in_err-read_on-clause-stops : goal.returns-in_err-read_on-clause-stops
returns-in_err-read_on-clause-stops g c =
    let p = err_from_is_err_and c.from_residual-in_err-read_on.result c.from_residual-in_err-read_on.ensures.1 in
    rw (p.1, p.2) (c.in_err-read_on.ensures.stops.onward _ _ c.loop-progress.invariant.reads)

pub returns-in_err-read_on-clause-counts : goal.returns-in_err-read_on-clause-counts
returns-in_err-read_on-clause-counts g c =
    let p = err_from_is_err_and c.from_residual-in_err-read_on.result c.from_residual-in_err-read_on.ensures.1 in
    let i = c.loop-progress.invariant in
    rw (p.1, p.2) (counts_since _ _ _ _ _ _ _ i.read_quiet i.write_quiet c.in_err-read_on.ensures.counts)

pub returns-then-not-branch-clause-ok : goal.returns-then-not-branch-clause-ok
returns-then-not-branch-clause-ok g c =
    let reads = c.in_ok-read_on.ensures.reads.onward _ _ c.loop-progress.invariant.reads in
    finish_ok _ _ _ _ _ _ _ _ _ reads (c.in_ok-read_on.ensures.end c.if-not-branch.true) c.finish.result c.finish.ensures.goes

pub returns-then-not-branch-clause-read_quiet : goal.returns-then-not-branch-clause-read_quiet
returns-then-not-branch-clause-read_quiet g c = quiet_kept c.finish.result _ _ (c.in_ok-read_on.ensures.read_quiet ∙ c.loop-progress.invariant.read_quiet)

pub returns-then-not-branch-clause-write_quiet : goal.returns-then-not-branch-clause-write_quiet
returns-then-not-branch-clause-write_quiet g c =
    quiet_since c.finish.result _ _ _ (c.in_ok-read_on.ensures.write_quiet ∙ c.loop-progress.invariant.write_quiet) c.finish.ensures.quiet

pub returns-then-not-branch-clause-stops : goal.returns-then-not-branch-clause-stops
returns-then-not-branch-clause-stops g c =
    let reads = c.in_ok-read_on.ensures.reads.onward _ _ c.loop-progress.invariant.reads in
    finish_stops _ _ _ _ _ _ _ _ _ reads (c.in_ok-read_on.ensures.end c.if-not-branch.true) c.finish.result _ _ c.finish.ensures.breaks c.finish.ensures.failed

pub returns-then-not-branch-clause-counts : goal.returns-then-not-branch-clause-counts
returns-then-not-branch-clause-counts g c =
    let i = c.loop-progress.invariant in
    finish_counts c.finish.result _ _ _ _ _ (c.in_ok-read_on.ensures.read_quiet ∙ i.read_quiet) (c.in_ok-read_on.ensures.write_quiet ∙ i.write_quiet) c.finish.ensures.failed

pub loop-progress-preserved : goal.loop-progress-preserved
loop-progress-preserved g c =
    let i = c.loop-progress.invariant in
    let e = c.in_ok-read_on.ensures in
    record {
      kept = e.kept;
      reads = e.reads.onward _ _ i.reads;
      plain = e.plain;
      text = e.written;
      read_quiet = e.read_quiet ∙ i.read_quiet;
      write_quiet = e.write_quiet ∙ i.write_quiet;
      room = omega (arith, i.room, c.read_on.auto.buffer);
    }
