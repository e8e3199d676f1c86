use Rattle.std.proofs.Common.{◌≡◌, length, string_bytes}
use denote.Text.{Utf8}
use denote.Shadow.{shadow}
use Rattle.uri_grammar.specs.Texts.{pieces}
use Rattle.uri_references.specs.Dots.{after_segments}
use Rattle.uri_references.proofs.dots.push_segments.Given as goal

abbrev pub invariant-loop-segment : goal.invariant-loop-segment
invariant-loop-segment l = record {
  text : shadow (Utf8 l.rest);
  left : after_segments (string_bytes l.output) (pieces 47 l.rest) ≡ after_segments (string_bytes l.initial.output) (pieces 47 l.path);
}

abbrev pub decreases-loop-segment : goal.decreases-loop-segment
decreases-loop-segment l = length l.rest
