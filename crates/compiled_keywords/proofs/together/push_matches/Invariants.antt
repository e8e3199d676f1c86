use Rattle.std.proofs.Common.{◌≡◌, ◌||◌, ◌∷◌, [], drop, map}
use Rattle.std.specs.List.{list_any}
use Rattle.serde_json.specs.View.{view}
use Rattle.json_values.specs.Patterns.{matched}
use Rattle.schema_engine.specs.Matches.{InEach}
use Rattle.schema_engine.proofs.Pushing.{LeavesToPush}
use Rattle.compiled_keywords.specs.Asked.{patterns_of, MayMatchEach}
use Rattle.compiled_keywords.specs.Owned.{by_pattern, AreNumbered}
use Rattle.compiled_keywords.specs.Paired.{matched_calls}
use Rattle.compiled_keywords.proofs.together.push_matches.Given as goal

abbrev pub invariant-loop-index : goal.invariant-loop-index
invariant-loop-index g l =
    let entry = g.T.Matching.matches l.fn.matching in
    record {
      same : g.T.Matching.matches l.matching ≡ entry;
      known : AreNumbered entry.pattern (drop l.index l.nodes);
      may : MayMatchEach entry (patterns_of (drop l.index l.nodes)) (l.name ∷ []);
      read : InEach entry (λ m. list_any (λ p. matched m p l.name) (patterns_of l.nodes)
          ≡ (l.is_matched || list_any (λ p. matched m p l.name) (patterns_of (drop l.index l.nodes))));
      left : InEach entry (λ m. LeavesToPush l.fn.into.items l.into.items
          (matched_calls m (map by_pattern (drop l.index l.nodes)) (l.name, view l.member))
          (matched_calls m (map by_pattern l.nodes) (l.name, view l.member)));
    }
