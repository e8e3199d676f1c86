use Rattle.std.proofs.Common.{◌≡◌, ℕ, List, map, option_map, take}
use Rattle.schema_definitions.specs.Identifiers.{anchors, dynamic_anchors}
use Rattle.schema_definitions.specs.Bearers.{bears, bears_anchor}
use Rattle.document_index.specs.Located.{kept_of, last_located}
use Rattle.document_index.specs.Seen.{located_of}
use Rattle.document_index.specs.Indexes.{named, anchor_named}
use Rattle.document_index.proofs.index.Index.of.Given as goal

abbrev pub invariant-loop-standing : goal.invariant-loop-standing
invariant-loop-standing l = record {
  by_uri : (q : List ℕ) → named l.by_uri q ≡ option_map kept_of (last_located (bears q) (map located_of (take l.standing-index l.standings)));
  by_anchor : (b q : List ℕ) → anchor_named l.by_anchor b q ≡ option_map kept_of (last_located (bears_anchor anchors b q) (map located_of (take l.standing-index l.standings)));
  by_dynamic_anchor : (b q : List ℕ) → anchor_named l.by_dynamic_anchor b q ≡ option_map kept_of (last_located (bears_anchor dynamic_anchors b q) (map located_of (take l.standing-index l.standings)));
}
