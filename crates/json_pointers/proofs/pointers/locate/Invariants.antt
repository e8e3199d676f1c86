use Rattle.std.proofs.Common.{◌≡◌, ◌==◌, length}
use denote.Text.{Utf8}
use denote.Shadow.{shadow}
use Rattle.std.specs.List.{slice_split}
use Rattle.serde_json.specs.View.{view}
use Rattle.json_values.specs.Pointers.{follow}
use Rattle.json_pointers.proofs.pointers.locate.Given as goal

abbrev pub invariant-loop-token : goal.invariant-loop-token
invariant-loop-token l = record {
  text : shadow (Utf8 l.rest);
  left : follow (slice_split (λ b. b == 47) l.rest) (view l.value) ≡ follow (slice_split (λ b. b == 47) l.initial.rest) (view l.document);
}

abbrev pub decreases-loop-token : goal.decreases-loop-token
decreases-loop-token l = length l.rest
