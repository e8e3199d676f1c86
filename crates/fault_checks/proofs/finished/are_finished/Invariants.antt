use Rattle.std.proofs.Common.{◌≡◌, drop, map, string_bytes}
use Rattle.serde_json.specs.View.{view}
use Rattle.schema_patterns.specs.Texts.{texts_in}
use Rattle.fault_checks.specs.Finished.{leave_none}
use Rattle.fault_checks.proofs.finished.are_finished.Given as goal

abbrev pub invariant-loop-pattern : goal.invariant-loop-pattern
invariant-loop-pattern l =
    leave_none l.matches (map string_bytes l.patterns) (texts_in (view l.value)) ≡ leave_none l.matches (map string_bytes (drop l.pattern-index l.patterns)) (texts_in (view l.value))
