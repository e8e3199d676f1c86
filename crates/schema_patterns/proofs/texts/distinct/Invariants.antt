use Rattle.std.proofs.Common.{◌≡◌, ℕ, List, take, bytes_eq}
use Rattle.std.specs.List.{list_any}
use Rattle.schema_patterns.proofs.texts.distinct.Given as goal

abbrev pub invariant-loop-text : goal.invariant-loop-text
invariant-loop-text l = (t : List ℕ) → list_any (λ k. bytes_eq t k.now) l.seen.keys ≡ list_any (λ k. bytes_eq t k.now) (take l.text-index l.texts)
