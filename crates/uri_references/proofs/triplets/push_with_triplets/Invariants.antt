use Rattle.std.proofs.Common.{◌≡◌, ◌++◌, string_bytes, length}
use denote.Text.{Utf8}
use denote.Shadow.{shadow}
use Rattle.uri_references.specs.NormalForm.{with_triplets}
use Rattle.uri_references.proofs.triplets.push_with_triplets.Given as goal

abbrev pub invariant-loop-before : goal.invariant-loop-before
invariant-loop-before l = record {
  text : shadow (Utf8 l.rest);
  left : string_bytes l.output ++ with_triplets l.rest ≡ string_bytes l.initial.output ++ with_triplets l.text;
}

abbrev pub decreases-loop-before : goal.decreases-loop-before
decreases-loop-before l = length l.rest
