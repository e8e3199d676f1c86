use Rattle.std.proofs.Common.{◌≡◌, map, string_bytes, take}
use Rattle.schema_patterns.specs.Tables.{texts_of_table}
use Rattle.fault_checks.proofs.reading.texts_of.Given as goal

abbrev pub invariant-loop-number : goal.invariant-loop-number
invariant-loop-number g l = map string_bytes l.texts.items ≡ take l.number (texts_of_table l.table)
