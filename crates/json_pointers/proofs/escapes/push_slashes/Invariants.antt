use Rattle.std.proofs.Common.{◌≡◌, ◌++◌, length, string_bytes}
use denote.Text.{Utf8}
use denote.Shadow.{shadow}
use Rattle.json_values.specs.Pointers.{escape_slashes}
use Rattle.json_pointers.specs.Buffers.{Grows}
use Rattle.json_pointers.proofs.escapes.push_slashes.Given as goal

abbrev pub invariant-loop-before : goal.invariant-loop-before
invariant-loop-before l = record {
  text : shadow (Utf8 l.rest);
  left : string_bytes l.buffer ++ escape_slashes l.rest ≡ string_bytes l.initial.buffer ++ escape_slashes l.text;
  grows : Grows l.initial.buffer l.buffer;
}

abbrev pub decreases-loop-before : goal.decreases-loop-before
decreases-loop-before l = length l.rest
