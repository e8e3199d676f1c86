use Rattle.std.proofs.Common.{List, ℕ, map, ◌≡◌}
use Rattle.serde_json.specs.View.{members_view}
use Rattle.schema_meaning.specs.Questions.{listed_members, each_member}
use Rattle.schema_engine.specs.Matches.{InEach}
use Rattle.compiled_keywords.specs.Asked.{MayMatchNames}
use Rattle.compiled_keywords.specs.Members.{others_among}
use Rattle.compiled_keywords.specs.Owned.{declared_by}
use Rattle.compiled_keywords.specs.Forms.{alone, whole_at}
use Rattle.compiled_keywords.specs.Seen.{seen_by}
use Rattle.schema_engine.proofs.Pushing.{LeavesAs}
use Rattle.compiled_keywords.proofs.members.push_others_of.Given as goal

abbrev pub invariant-loop-name : goal.invariant-loop-name
invariant-loop-name g l =
    let entry = g.T.Matching.matches l.fn.matching in
    record {
      same : g.T.Matching.matches l.matching ≡ entry;
      may : MayMatchNames entry (declared_by l.declared).patterns
          (listed_members (members_view l.name-iterator));
      left : InEach entry (λ m. (k : List ℕ) → LeavesAs (seen_by (whole_at k)) l.fn.into.items l.into.items (map alone (each_member k l.node (others_among m (declared_by l.declared) (listed_members (members_view l.name-iterator))))) (map alone (each_member k l.node (others_among m (declared_by l.declared) (listed_members (members_view l.members.entries))))));
    }
