use Rattle.std.proofs.Common.{List, ℕ, map, drop}
use Rattle.serde_json.specs.View.{items_view}
use Rattle.schema_meaning.specs.Questions.{each_item, items_from}
use Rattle.compiled_keywords.specs.Forms.{alone, whole_at}
use Rattle.compiled_keywords.specs.Seen.{seen_by}
use Rattle.schema_engine.proofs.Pushing.{LeavesAs}
use Rattle.compiled_keywords.proofs.asking.push_items_from.Given as goal

abbrev pub invariant-loop-index : goal.invariant-loop-index
invariant-loop-index l = (k : List ℕ) → LeavesAs (seen_by (whole_at k)) l.fn.into.items l.into.items (map alone (each_item k l.node l.index (items_view (drop l.index l.items)))) (map alone (each_item k l.node l.start (items_from l.start (items_view l.items))))
