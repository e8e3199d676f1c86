use Rattle.std.proofs.Common.{List, ℕ, map, drop, ◌≡◌}
use Rattle.serde_json.specs.View.{members_view}
use Rattle.schema_meaning.specs.Questions.{listed_members}
use Rattle.std.specs.List.{flat_map}
use Rattle.schema_engine.specs.Matches.{InEach}
use Rattle.compiled_keywords.specs.Asked.{patterns_of, MayMatchNames}
use Rattle.compiled_keywords.specs.Members.{matching_of}
use Rattle.compiled_keywords.specs.Owned.{by_pattern, AreNumbered}
use Rattle.compiled_keywords.specs.Forms.{alone, name_at}
use Rattle.compiled_keywords.specs.Seen.{seen_by}
use Rattle.schema_engine.proofs.Pushing.{LeavesAs}
use Rattle.compiled_keywords.proofs.members.push_each_matched.Given as goal

abbrev pub invariant-loop-index : goal.invariant-loop-index
invariant-loop-index g l =
    let entry = g.T.Matching.matches l.fn.matching in
    record {
      same : g.T.Matching.matches l.matching ≡ entry;
      known : AreNumbered entry.pattern (drop l.index l.nodes);
      may : MayMatchNames entry (patterns_of (drop l.index l.nodes))
          (listed_members (members_view l.members.entries));
      left : InEach entry (λ m. (k : List ℕ) → LeavesAs (seen_by (name_at k (map by_pattern l.nodes))) l.fn.into.items l.into.items (map alone (flat_map (λ p. matching_of m k p (listed_members (members_view l.members.entries))) (map by_pattern (drop l.index l.nodes)))) (map alone (flat_map (λ p. matching_of m k p (listed_members (members_view l.members.entries))) (map by_pattern l.nodes))));
    }
