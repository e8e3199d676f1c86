use Rattle.std.proofs.Common.{◌≡◌, map}
use Rattle.serde_json.specs.View.{members_view}
use Rattle.schema_meaning.specs.Questions.{listed_members}
use Rattle.schema_engine.specs.Matches.{InEach}
use Rattle.schema_engine.proofs.Pushing.{LeavesToPush}
use Rattle.compiled_keywords.specs.Asked.{patterns_of, MayMatchNames}
use Rattle.compiled_keywords.specs.Owned.{by_pattern, declared_by}
use Rattle.compiled_keywords.specs.Paired.{calls_of_members}
use Rattle.compiled_keywords.proofs.together.push_each_member.Given as goal

abbrev pub invariant-loop-name : goal.invariant-loop-name
invariant-loop-name g l =
    let entry = g.T.Matching.matches l.fn.matching in
    record {
      same : g.T.Matching.matches l.matching ≡ entry;
      may : MayMatchNames entry (patterns_of l.nodes) (listed_members (members_view l.name-iterator));
      left : InEach entry (λ m. LeavesToPush l.fn.into.items l.into.items
          (calls_of_members m (map by_pattern l.nodes) (declared_by l.declared) l.node (listed_members (members_view l.name-iterator)))
          (calls_of_members m (map by_pattern l.nodes) (declared_by l.declared) l.node (listed_members (members_view l.members.entries))));
    }
