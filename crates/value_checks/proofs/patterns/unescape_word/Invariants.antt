use Rattle.std.proofs.Common.{drop, string_bytes}
use Rattle.value_checks.proofs.Unescaping.{Left}
use Rattle.value_checks.proofs.patterns.unescape_word.Given as goal

abbrev pub invariant-loop-byte : goal.invariant-loop-byte
invariant-loop-byte l = Left l.text (string_bytes l.unescaped) l.is_escape (drop l.byte-index l.byte-items)
