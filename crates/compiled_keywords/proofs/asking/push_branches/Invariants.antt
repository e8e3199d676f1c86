use Rattle.std.proofs.Common.{List, ℕ, map, drop}
use Rattle.schema_meaning.specs.Questions.{each_branch}
use Rattle.compiled_keywords.specs.Forms.{alone, index_at}
use Rattle.compiled_keywords.specs.Seen.{seen_by}
use Rattle.schema_engine.proofs.Pushing.{LeavesAs}
use Rattle.compiled_keywords.proofs.asking.push_branches.Given as goal

abbrev pub invariant-loop-index : goal.invariant-loop-index
invariant-loop-index l = (k : List ℕ) → LeavesAs (seen_by (index_at k)) l.fn.into.items l.into.items (map alone (each_branch k l.index (drop l.index l.nodes))) (map alone (each_branch k 0 l.nodes))
