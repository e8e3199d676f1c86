use Rattle.std.proofs.Common.{◌≤◌, ◌∙◌, ◌||◌, ◌∷◌, [], map, length, ℕ, List, true, false, Vec, Global, sym, ap, subst, arith}
use Rattle.std.proofs.lemmas.List.{at_drop_all}
use Rattle.std.specs.List.{list_any}
use Rattle.json_values.specs.Patterns.{matched}
use Rattle.serde_json.specs.Data.{Data}
use Rattle.serde_json.specs.View.{view}
use Rattle.schema_engine.specs.Matches.{Answers, Matches, completed}
use Rattle.schema_engine.specs.declared.place.Asked.TheVariants as asked
use Rattle.schema_engine.specs.declared.place.Question.{Question}
use Rattle.compiled_keywords.specs.Asked.{patterns_of, MayMatchEach}
use Rattle.compiled_keywords.specs.Owned.{by_pattern, AreNumbered}
use Rattle.compiled_keywords.specs.Paired.{matched_calls}
use Rattle.compiled_keywords.proofs.AcceptLemmas.{next_of}
use Rattle.compiled_keywords.proofs.BesideLemmas.{any_first, any_next, none_any, leaves_next, leaves_same, leaves_done, matched_first, unmatched_first}
use Rattle.compiled_keywords.proofs.MatchLemmas.{by_number, one_match, pattern_alone, patterns_left}
use Rattle.compiled_keywords.proofs.together.push_matches.Goals as goal
use Rattle.compiled_keywords.proofs.together.push_matches.Goals.{then-branch+in_ok-push, else-branch}

pub is_match-requires : goal.is_match-requires
is_match-requires g c =
    let entry = g.T.Matching.matches c.args.matching.now in
    let l = c.loop-index in
    let node = c.index-nodes-index.result in
    let name = c.args.name.now in
    let next = next_of l.index c.args.nodes.now node c.loop-index-test.true c.index-nodes-index.is in
    let numbered = (subst (AreNumbered entry.pattern) next l.invariant.known).0 in
    let may = subst (λ ns. MayMatchEach entry (patterns_of ns) (name ∷ [])) next l.invariant.may in
    by_number entry _ node.pattern.number (by_pattern node).0 name l.invariant.same numbered
    (one_match (pattern_alone may))

pub loop-index-preserved : goal.loop-index-preserved
loop-index-preserved g c =
    let entry = g.T.Matching.matches c.args.matching.now in
    let l = c.loop-index in
    let nodes = c.args.nodes.now in
    let node = c.index-nodes-index.result in
    let name = c.args.name.now in
    let x : List ℕ × Data = (name, view c.args.member.now) in
    let next = next_of l.index nodes node c.loop-index-test.true c.index-nodes-index.is in
    let known = subst (AreNumbered entry.pattern) next l.invariant.known in
    let same = c.in_ok-is_match.ensures.same ∙ l.invariant.same in
    let so = λ (rest : Answers).
    sym (c.in_ok-is_match.ensures.read rest ∙ ap (λ (m : Matches). matched (completed m rest) (m.pattern node.pattern.number) name) l.invariant.same
    ∙ ap (λ t. matched (completed entry rest) t name) known.0) in
    record {
      same = same;
      known = known.1;
      may = patterns_left (subst (λ ns. MayMatchEach entry (patterns_of ns) (name ∷ [])) next l.invariant.may);
      read = λ rest. elim c.if-branch.branch [
        | then-branch+in_ok-push w ↦ rw w.is_matched-is (any_first (completed entry rest) _ _ node x next _ l.is_matched (l.invariant.read rest) (so rest ∙ w.if-branch.true))
        | else-branch w ↦ rw w.is_matched-is (any_next (completed entry rest) _ _ node x next _ l.is_matched (l.invariant.read rest) (so rest ∙ w.if-branch.false))
      ];
      left = λ rest. elim c.if-branch.branch [
        | then-branch+in_ok-push w ↦
            leaves_next _ _ _ (record { node = node.node; asked = asked.Member c.args.name c.args.member; follows = false; beside = true; entry = l.index }) _ _ _
            (matched_first (completed entry rest) _ _ node x next (so rest ∙ w.if-branch.true)) (l.invariant.left rest) (ap (λ (v : Vec Question Global). v.items) w.into-is ∙ w.in_ok-push.ensures.items)
        | else-branch w ↦ rw w.into-is (leaves_same _ _ _ _ _ (unmatched_first (completed entry rest) _ _ node x next (so rest ∙ w.if-branch.false)) (l.invariant.left rest))
      ];
    }

pub returns-clause-read : goal.returns-clause-read
returns-clause-read g c =
    let entry = g.T.Matching.matches c.args.matching.now in
    let l = c.loop-index in
    let nodes = c.args.nodes.now in
    let past : length nodes ≤ l.index = omega (arith, c.loop-index-test.false) in
    λ rest. sym (l.invariant.read rest
    ∙ ap (λ b. l.is_matched || b) (at_drop_all (λ ns. list_any (λ t. matched (completed entry rest) t c.args.name.now) (patterns_of ns)) nodes l.index past)
    ∙ none_any l.is_matched)

pub returns-clause-pushed : goal.returns-clause-pushed
returns-clause-pushed g c =
    let entry = g.T.Matching.matches c.args.matching.now in
    let l = c.loop-index in
    let nodes = c.args.nodes.now in
    let past : length nodes ≤ l.index = omega (arith, c.loop-index-test.false) in
    λ rest. leaves_done _ _ _ _
    (at_drop_all (λ ns. matched_calls (completed entry rest) (map by_pattern ns) (c.args.name.now, view c.args.member.now)) nodes l.index past) (l.invariant.left rest)
