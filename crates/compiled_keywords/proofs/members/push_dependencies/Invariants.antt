use Rattle.std.proofs.Common.{List, ℕ, map, drop}
use Rattle.schema_meaning.specs.Keywords.{each_dependency}
use Rattle.schema_engine.specs.Places.{value_at}
use Rattle.compiled_keywords.specs.Owned.{depending}
use Rattle.compiled_keywords.specs.Forms.{alone, name_at}
use Rattle.compiled_keywords.specs.Seen.{seen_by}
use Rattle.schema_engine.proofs.Pushing.{LeavesAs}
use Rattle.compiled_keywords.proofs.members.push_dependencies.Given as goal

abbrev pub invariant-loop-index : goal.invariant-loop-index
invariant-loop-index l = (k : List ℕ) → LeavesAs (seen_by (name_at k (map depending l.entries))) l.fn.into.items l.into.items (map alone (each_dependency k (value_at l.place) (map depending (drop l.index l.entries)))) (map alone (each_dependency k (value_at l.place) (map depending l.entries)))
