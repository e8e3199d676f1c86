use Rattle.std.proofs.Common.{◌≡◌, drop, map}
use Rattle.compiled_keywords.specs.Asked.{patterns_of}
use Rattle.compiled_keywords.specs.Owned.{text_of}
use Rattle.compiled_keywords.proofs.together.has_patterns.Given as goal

abbrev pub invariant-loop-index : goal.invariant-loop-index
invariant-loop-index l =
    record {
      left : patterns_of (drop l.index l.nodes) ≡ map text_of (drop l.index l.patterns) → patterns_of l.nodes ≡ map text_of l.patterns;
    }
