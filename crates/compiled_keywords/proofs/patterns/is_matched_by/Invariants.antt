use Rattle.std.proofs.Common.{◌≡◌, ◌∷◌, [], drop, map}
use Rattle.std.specs.List.{list_any}
use Rattle.json_values.specs.Patterns.{matched}
use Rattle.schema_engine.specs.Matches.{InEach}
use Rattle.compiled_keywords.specs.Asked.{MayMatchEach}
use Rattle.compiled_keywords.specs.Owned.{text_of, AllNumbered}
use Rattle.compiled_keywords.proofs.patterns.is_matched_by.Given as goal

abbrev pub invariant-loop-pattern : goal.invariant-loop-pattern
invariant-loop-pattern g l =
    let entry = g.T.Matching.matches l.fn.matching in
    record {
      same : g.T.Matching.matches l.matching ≡ entry;
      known : AllNumbered entry.pattern (drop l.pattern-index l.patterns);
      may : MayMatchEach entry (map text_of (drop l.pattern-index l.patterns)) (l.name ∷ []);
      left : InEach entry (λ m. list_any (λ p. matched m p l.name) (map text_of l.patterns) ≡ list_any (λ p. matched m p l.name) (map text_of (drop l.pattern-index l.patterns)));
    }
