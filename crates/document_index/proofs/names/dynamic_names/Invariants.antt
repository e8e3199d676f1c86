use Rattle.std.proofs.Common.{◌≡◌, ℕ, List, map, take, string_bytes}
use Rattle.std.specs.BTreeSet.{contains_text}
use Rattle.schema_definitions.specs.Words.{has_text}
use Rattle.document_index.specs.Seen.{standing_of}
use Rattle.document_index.specs.Indexes.{dynamic_names_among}
use Rattle.document_index.proofs.names.dynamic_names.Given as goal

abbrev pub invariant-loop-standing : goal.invariant-loop-standing
invariant-loop-standing l = record {
  seen : (q : List ℕ) → contains_text l.seen q ≡ has_text q (map string_bytes l.names.items);
  names : map string_bytes l.names.items ≡ dynamic_names_among (map standing_of (take l.standing-index l.standings));
}
