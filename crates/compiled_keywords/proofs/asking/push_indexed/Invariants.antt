use Rattle.std.proofs.Common.{List, ℕ, map, drop}
use Rattle.serde_json.specs.View.{items_view}
use Rattle.schema_meaning.specs.Questions.{item_by_item}
use Rattle.compiled_keywords.specs.Forms.{alone, index_at}
use Rattle.compiled_keywords.specs.Seen.{seen_by}
use Rattle.schema_engine.proofs.Pushing.{LeavesAs}
use Rattle.compiled_keywords.proofs.asking.push_indexed.Given as goal

abbrev pub invariant-loop-index : goal.invariant-loop-index
invariant-loop-index l = (k : List ℕ) → LeavesAs (seen_by (index_at k)) l.fn.into.items l.into.items (map alone (item_by_item k (drop l.index l.nodes) l.index (items_view (drop l.index l.items)))) (map alone (item_by_item k l.nodes 0 (items_view l.items)))
