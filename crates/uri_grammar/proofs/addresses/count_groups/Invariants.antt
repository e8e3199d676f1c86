use Rattle.std.proofs.Common.{◌≡◌, ◌+◌, ◌*◌, ◌≤◌, length, option_map}
use denote.Text.{Utf8}
use denote.Shadow.{shadow}
use Rattle.uri_grammar.specs.Texts.{pieces}
use Rattle.uri_grammar.specs.Groups.{groups}
use Rattle.uri_grammar.proofs.addresses.count_groups.Given as goal

abbrev pub invariant-loop-group : goal.invariant-loop-group
invariant-loop-group l = record {
  text : shadow (Utf8 l.rest);
  small : l.count * 2 + length l.rest ≤ length l.text;
  left : option_map (λ n. l.count + n) (groups l.ends (pieces 58 l.rest)) ≡ groups l.ends (pieces 58 l.text);
}

abbrev pub decreases-loop-group : goal.decreases-loop-group
decreases-loop-group l = length l.rest
