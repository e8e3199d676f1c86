use Rattle.std.proofs.Common.{◌≡◌, ◌++◌, length, string_bytes}
use denote.Text.{Utf8}
use denote.Shadow.{shadow}
use Rattle.serde_json.specs.Find.{unescape}
use Rattle.json_pointers.proofs.escapes.push_unescaped.Given as goal

abbrev pub invariant-loop-plain : goal.invariant-loop-plain
invariant-loop-plain l = record {
  text : shadow (Utf8 l.rest);
  left : string_bytes l.buffer ++ unescape l.rest ≡ string_bytes l.initial.buffer ++ unescape l.segment;
}

abbrev pub decreases-loop-plain : goal.decreases-loop-plain
decreases-loop-plain l = length l.rest
