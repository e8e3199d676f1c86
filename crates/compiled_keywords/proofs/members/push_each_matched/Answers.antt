use Rattle.std.proofs.Common.{◌∙◌, ◌+◌, ◌∷◌, [], map, drop, sym, ap, subst, arith}
use Rattle.std.proofs.lemmas.List.{at_drop_all, map-append}
use Rattle.std.specs.List.{flat_map}
use Rattle.serde_json.specs.View.{members_view}
use Rattle.schema_meaning.specs.Questions.{listed_members}
use Rattle.schema_engine.specs.Matches.{Matches, completed}
use Rattle.compiled_keywords.specs.Asked.{patterns_of, MayMatchNames}
use Rattle.compiled_keywords.specs.Forms.{alone, name_at}
use Rattle.compiled_keywords.specs.Members.{matching_of}
use Rattle.compiled_keywords.specs.Owned.{by_pattern, AreNumbered}
use Rattle.compiled_keywords.specs.Seen.{Puts}
use Rattle.compiled_keywords.proofs.AcceptLemmas.{next_of}
use Rattle.compiled_keywords.proofs.MatchLemmas.{pattern_alone, patterns_left}
use Rattle.compiled_keywords.proofs.MemberLemmas.{name_there}
use Rattle.compiled_keywords.proofs.PushLemmas.{put_more, put_done}
use Rattle.compiled_keywords.proofs.members.push_each_matched.Goals as goal

pub push_matched-requires-clause-asked : goal.push_matched-requires-clause-asked
push_matched-requires-clause-asked g c =
    let entry = g.T.Matching.matches c.args.matching.now in
    let nodes = c.args.nodes.now in
    let ms = listed_members (members_view c.args.members.now.entries) in
    let node = c.index-nodes-index.result in
    let loop = c.loop-index in
    let next = next_of loop.index nodes node c.loop-index-test.true c.index-nodes-index.is in
    let may = subst (λ ns. MayMatchNames entry (patterns_of ns) ms) next loop.invariant.may in
    subst (λ (m : Matches). MayMatchNames m ((by_pattern node).0 ∷ []) ms)
    (sym loop.invariant.same) (pattern_alone may)

pub loop-index-preserved : goal.loop-index-preserved
loop-index-preserved g c =
    let entry = g.T.Matching.matches c.args.matching.now in
    let nodes = c.args.nodes.now in
    let ms = listed_members (members_view c.args.members.now.entries) in
    let i = c.loop-index.index in
    let node = c.index-nodes-index.result in
    let short = c.loop-index-test.true in
    let is = c.index-nodes-index.is in
    let next = next_of i nodes node short is in
    let same = c.loop-index.invariant.same in
    record {
      same = c.in_ok-push_matched.ensures.same ∙ same;
      known = (subst (AreNumbered entry.pattern) next c.loop-index.invariant.known).1;
      may = patterns_left
          (subst (λ ns. MayMatchNames entry (patterns_of ns) ms) next c.loop-index.invariant.may);
      left = λ rest k.
          let added = name_at k (map by_pattern nodes) in
          let puts = c.in_ok-push_matched.ensures.put rest k added (name_there k by_pattern nodes i node short is) in
          put_more added _ _ _ (map alone (matching_of (completed entry rest) k (by_pattern node) ms)) _ (map alone (flat_map (λ p. matching_of (completed entry rest) k p ms) (map by_pattern (drop (i + 1) nodes)))) _
          (ap (λ ns. map alone (flat_map (λ p. matching_of (completed entry rest) k p ms) (map by_pattern ns))) next
          ∙ map-append alone (matching_of (completed entry rest) k (by_pattern node) ms) (flat_map (λ p. matching_of (completed entry rest) k p ms) (map by_pattern (drop (i + 1) nodes))))
          (c.loop-index.invariant.left rest k)
          (subst (λ (m : Matches). Puts added c.loop-index.into.items c.push_matched.new.into.items (map alone (matching_of (completed m rest) k (by_pattern node) ms))) same puts);
    }

pub returns-clause-put : goal.returns-clause-put
returns-clause-put g c = λ rest k.
    let entry = g.T.Matching.matches c.args.matching.now in
    let nodes = c.args.nodes.now in
    let ms = listed_members (members_view c.args.members.now.entries) in
    let i = c.loop-index.index in
    put_done (name_at k (map by_pattern nodes)) _ _ _ _
    (at_drop_all (λ ns. map alone (flat_map (λ p. matching_of (completed entry rest) k p ms) (map by_pattern ns))) nodes i (omega (arith, c.loop-index-test.false))) (c.loop-index.invariant.left rest k)
