use Rattle.std.proofs.Common.{◌≡◌, ◌∷◌, [], List, ℕ, map}
use Rattle.json_values.specs.Parts.{Part}
use Rattle.serde_json.specs.View.{members_view}
use Rattle.schema_meaning.specs.Questions.{listed_members, at_name}
use Rattle.schema_engine.specs.Matches.{InEach}
use Rattle.compiled_keywords.specs.Asked.{MayMatchNames}
use Rattle.compiled_keywords.specs.Forms.{alone}
use Rattle.compiled_keywords.specs.Members.{matching_of}
use Rattle.compiled_keywords.specs.Owned.{by_pattern}
use Rattle.compiled_keywords.specs.Seen.{seen_by}
use Rattle.schema_engine.proofs.Pushing.{LeavesAs}
use Rattle.compiled_keywords.proofs.members.push_matched.Given as goal

abbrev pub invariant-loop-name : goal.invariant-loop-name
invariant-loop-name g l =
    let entry = g.T.Matching.matches l.fn.matching in
    record {
      same : g.T.Matching.matches l.matching ≡ entry;
      may : MayMatchNames entry ((by_pattern l.node).0 ∷ [])
          (listed_members (members_view l.name-iterator));
      left : InEach entry (λ m. (k : List ℕ) (added : ℕ → List Part) → added l.entry ≡ at_name k (by_pattern l.node).0
          → LeavesAs (seen_by added) l.fn.into.items l.into.items (map alone (matching_of m k (by_pattern l.node) (listed_members (members_view l.name-iterator)))) (map alone (matching_of m k (by_pattern l.node) (listed_members (members_view l.members.entries)))));
    }
