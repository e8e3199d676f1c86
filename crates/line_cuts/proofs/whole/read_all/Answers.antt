use Rattle.std.proofs.Common.{◌++◌, ◌∙◌, take, subst, sym, refl, arith}
use Rattle.std.specs.Io.KnownBytes.{Consumes}
use Rattle.std.proofs.KnownBytes.{Consumes-nil, Consumes-kept, Consumes-trans}
use Rattle.line_cuts.proofs.AtHand.{reads_nothing}
use Rattle.line_cuts.proofs.Going.{any_err}
use Rattle.line_cuts.proofs.whole.read_all.Goals as goal

pub loop-bytes-init : goal.loop-bytes-init
loop-bytes-init g c =
    let from = g.S.ByteSource.remaining c.args.reader.now in
    record {
      read = subst (Consumes from from) (sym c.new-bytes.ensures.items) (Consumes-nil from);
      quiet = refl;
      room = omega (arith, c.as_mut_slice-buffer.ensures.len, c.in_ok-storage.ensures.len);
    }

pub returns-in-Ok-eq0-clause-read : goal.returns-in-Ok-eq0-clause-read
returns-in-Ok-eq0-clause-read g c = reads_nothing _ _ _ _ _ _ (omega (arith, c.in-Ok-eq0.field-0-test)) c.loop-bytes.invariant.read c.in-Ok-eq0.ensures.bytes.0

pub returns-in-Ok-eq0-clause-end : goal.returns-in-Ok-eq0-clause-end
returns-in-Ok-eq0-clause-end g c = c.in-Ok-eq0.ensures.bytes.1 (omega (arith, c.in-Ok-eq0.field-0-test)) (omega (arith, c.loop-bytes.invariant.room, c.read.auto.buf))

pub loop-bytes-preserved : goal.loop-bytes-preserved
loop-bytes-preserved g c =
    let i = c.loop-bytes.invariant in
    record {
      read = subst (Consumes _ _) (sym c.in_ok-extend_from_slice-in-Ok.ensures.items) (Consumes-trans _ _ _ _ _ i.read c.in-Ok.ensures.bytes.0);
      quiet = c.in-Ok.ensures.quiet ∙ i.quiet;
      room = omega (arith, i.room, c.read.auto.buf);
    }

pub returns-in_err-extend_from_slice-in-Ok-clause-stopped : goal.returns-in_err-extend_from_slice-in-Ok-clause-stopped
returns-in_err-extend_from_slice-in-Ok-clause-stopped g c =
    any_err c.from_residual-in_err-extend_from_slice-in-Ok.result _
    (c.loop-bytes.bytes.items ++ take c.in-Ok.count c.read.new.buf, Consumes-trans _ _ _ _ _ c.loop-bytes.invariant.read c.in-Ok.ensures.bytes.0)

pub returns-in-Err-clause-stopped : goal.returns-in-Err-clause-stopped
returns-in-Err-clause-stopped g c = (c.loop-bytes.bytes.items, Consumes-kept _ _ _ _ c.loop-bytes.invariant.read c.in-Err.ensures.bytes)
