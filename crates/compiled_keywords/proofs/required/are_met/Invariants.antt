use Rattle.std.proofs.Common.{◌≡◌, ◌+◌, length, map, string_bytes, true}
use Rattle.serde_json.specs.View.{members_view}
use Rattle.json_values.specs.Rising.{are_rising}
use Rattle.compiled_keywords.specs.Sorted.{names_rise}
use Rattle.compiled_keywords.proofs.RequiredLemmas.{are_there}
use Rattle.compiled_keywords.proofs.required.are_met.Given as goal

abbrev pub invariant-loop-name : goal.invariant-loop-name
invariant-loop-name l = record {
  rising : are_rising (members_view l.name-iterator) ≡ true;
  rise : names_rise (map string_bytes l.left) ≡ true;
  count : length l.left + l.others ≡ length l.name-iterator;
  same : are_there (members_view l.members.entries) (map string_bytes l.names) ≡ are_there (members_view l.name-iterator) (map string_bytes l.left);
}
