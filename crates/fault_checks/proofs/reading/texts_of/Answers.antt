use Rattle.std.proofs.Common.{arith, sym, string_bytes}
use Rattle.schema_patterns.specs.Tables.{entries_of}
use Rattle.fault_checks.proofs.ReadLemmas.{more_texts, none_past}
use Rattle.fault_checks.proofs.reading.texts_of.Goals.{in-Some+in_ok-from_str+in_ok-push, in_default}
use Rattle.fault_checks.proofs.reading.texts_of.Goals as goal

pub loop-number-preserved : goal.loop-number-preserved
loop-number-preserved g c =
    let es = entries_of c.args.table.now in
    let n = c.loop-number.number in
    elim c.match-at.branch [
      | in-Some+in_ok-from_str+in_ok-push w ↦
          rw w.texts-is (more_texts es n w.in-Some.text.now w.in-Some._compiled.now c.loop-number.texts.items w.push.new.self.items w.in_ok-from_str.field-0 string_bytes (sym w.in-Some.ensures.entry) w.in_ok-push.ensures.items w.in_ok-from_str.ensures.ok c.loop-number.invariant)
      | in_default w ↦ absurd (none_past es n (omega (arith, c.len-number-end.ensures)) (sym w.in_default.ensures.entry))
    ]
