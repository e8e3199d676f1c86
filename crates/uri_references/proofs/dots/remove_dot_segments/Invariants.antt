use Rattle.std.proofs.Common.{◌≡◌, [], length, string_bytes}
use denote.Text.{Utf8}
use denote.Shadow.{shadow}
use Rattle.uri_grammar.specs.Texts.{pieces}
use Rattle.uri_references.specs.Dots.{without_dots}
use Rattle.uri_references.proofs.dots.remove_dot_segments.Given as goal

abbrev pub invariant-loop-segment : goal.invariant-loop-segment
invariant-loop-segment l = record {
  text : shadow (Utf8 l.rest);
  fresh : string_bytes l.output ≡ [];
  left : without_dots (pieces 47 l.rest) ≡ without_dots (pieces 47 l.path);
}

abbrev pub decreases-loop-segment : goal.decreases-loop-segment
decreases-loop-segment l = length l.rest
