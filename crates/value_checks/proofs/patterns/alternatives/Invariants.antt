use Rattle.std.proofs.Common.{◌==◌, drop, length, map, string_bytes}
use Rattle.std.specs.List.{slice_split}
use Rattle.value_checks.proofs.Alternatives.{WordsLeft}
use Rattle.value_checks.proofs.patterns.alternatives.Given as goal

abbrev pub invariant-loop-part : goal.invariant-loop-part
invariant-loop-part l = record {
  can : (goal.iterator-loop-part).can_next l.part-iterator;
  ends : (goal.iterator-loop-part).is_finite l.part-iterator;
  left : (let parts = slice_split (λ b. b == 124) l.fn.text in WordsLeft parts (map string_bytes l.texts.items) (drop (length l.yielded) parts));
}
