use Rattle.std.proofs.Common.{◌≡◌, ◌++◌, drop, map, string_bytes, true}
use Rattle.serde_json.specs.Data.{array}
use Rattle.serde_json.specs.Written.{compact_text, items_text}
use Rattle.json_pointers.specs.Buffers.{Grows}
use Rattle.schema_definitions.specs.Lines.{pairs_data}
use Rattle.schema_reports.specs.Pairs.{pair_bytes}
use Rattle.error_texts.proofs.faults.write_pairs.Given as goal

-- the text, and the list's rest
abbrev pub invariant-loop-pair : goal.invariant-loop-pair
invariant-loop-pair l = record {
  text : string_bytes l.text ++ items_text true (pairs_data (map pair_bytes (drop l.pair-index l.rest))) ≡ string_bytes l.fn.text ++ compact_text (array (pairs_data (map pair_bytes l.pairs)));
  grows : Grows l.fn.text l.text;
}
