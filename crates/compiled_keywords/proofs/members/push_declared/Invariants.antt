use Rattle.std.proofs.Common.{List, ℕ, IfSome, map, drop}
use Rattle.schema_meaning.specs.Questions.{each_declared}
use Rattle.schema_engine.specs.Places.{value_at}
use Rattle.compiled_keywords.specs.Owned.{named}
use Rattle.compiled_keywords.specs.Forms.{alone, name_at}
use Rattle.compiled_keywords.specs.Seen.{seen_by}
use Rattle.compiled_keywords.specs.Walked.{IsInStep}
use Rattle.schema_engine.proofs.Pushing.{LeavesAs}
use Rattle.compiled_keywords.proofs.members.push_declared.Given as goal

abbrev pub invariant-loop-index : goal.invariant-loop-index
invariant-loop-index l = record {
  step : IfSome l.walk (λ w. IsInStep w (value_at l.place));
  left : (k : List ℕ) → LeavesAs (seen_by (name_at k (map named l.nodes))) l.fn.into.items l.into.items (map alone (each_declared k (value_at l.place) (map named (drop l.index l.nodes)))) (map alone (each_declared k (value_at l.place) (map named l.nodes)));
}
