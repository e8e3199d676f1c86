use Rattle.std.proofs.Common.{◌≤◌, ◌+◌, ◌||◌, ◌∙◌, ◌∷◌, [], Bool, map, drop, length, sym, ap, subst, arith}
use Rattle.std.proofs.lemmas.List.{at_drop_all}
use Rattle.std.specs.List.{list_any}
use Rattle.json_values.specs.Patterns.{matched}
use Rattle.schema_engine.specs.Matches.{Answers, Matches, completed}
use Rattle.compiled_keywords.specs.Asked.{MayMatchEach}
use Rattle.compiled_keywords.specs.Owned.{text_of, AllNumbered}
use Rattle.compiled_keywords.proofs.AcceptLemmas.{next_of}
use Rattle.compiled_keywords.proofs.MatchLemmas.{by_number, one_match, pattern_alone, patterns_left}
use Rattle.compiled_keywords.proofs.patterns.is_matched_by.Goals as goal

pub is_match-requires : goal.is_match-requires
is_match-requires g c =
    let entry = g.T.Matching.matches c.args.matching.now in
    let l = c.loop-pattern in
    let p = c.pattern-item.result in
    let ps = c.args.patterns.now in
    let name = c.args.name.now in
    let next = next_of l.pattern-index ps p c.loop-pattern-test.true c.pattern-item.is in
    let numbered = (subst (AllNumbered entry.pattern) next l.invariant.known).0 in
    let may = subst (λ ps. MayMatchEach entry (map text_of ps) (name ∷ [])) next l.invariant.may in
    by_number entry _ p.number (text_of p) name l.invariant.same numbered
    (one_match (pattern_alone may))

pub returns-then-branch-clause-read : goal.returns-then-branch-clause-read
returns-then-branch-clause-read g c =
    let entry = g.T.Matching.matches c.args.matching.now in
    let l = c.loop-pattern in
    let p = c.pattern-item.result in
    let next = next_of l.pattern-index c.args.patterns.now p c.loop-pattern-test.true c.pattern-item.is in
    let numbered = (subst (AllNumbered entry.pattern) next l.invariant.known).0 in
    let some = λ (rest : Answers) (b : Bool). (b || list_any (λ t. matched (completed entry rest) t c.args.name.now) (map text_of (drop (l.pattern-index + 1) c.args.patterns.now))) in
    λ rest.
    sym (l.invariant.left rest ∙ ap (λ ps. list_any (λ t. matched (completed entry rest) t c.args.name.now) (map text_of ps)) next
    ∙ ap (some rest) (sym (c.in_ok-is_match.ensures.read rest ∙ ap (λ (m : Matches). matched (completed m rest) (m.pattern p.number) c.args.name.now) l.invariant.same ∙ ap (λ t. matched (completed entry rest) t c.args.name.now) numbered) ∙ c.if-branch.true))

pub loop-pattern-preserved : goal.loop-pattern-preserved
loop-pattern-preserved g c =
    let entry = g.T.Matching.matches c.args.matching.now in
    let l = c.loop-pattern in
    let p = c.pattern-item.result in
    let next = next_of l.pattern-index c.args.patterns.now p c.loop-pattern-test.true c.pattern-item.is in
    let known = subst (AllNumbered entry.pattern) next l.invariant.known in
    let some = λ (rest : Answers) (b : Bool). (b || list_any (λ t. matched (completed entry rest) t c.args.name.now) (map text_of (drop (l.pattern-index + 1) c.args.patterns.now))) in
    record {
      same = c.in_ok-is_match.ensures.same ∙ l.invariant.same;
      known = known.1;
      may = patterns_left
          (subst (λ ps. MayMatchEach entry (map text_of ps) (c.args.name.now ∷ [])) next l.invariant.may);
      left = λ rest.
          l.invariant.left rest ∙ ap (λ ps. list_any (λ t. matched (completed entry rest) t c.args.name.now) (map text_of ps)) next
          ∙ ap (some rest) (sym (c.in_ok-is_match.ensures.read rest ∙ ap (λ (m : Matches). matched (completed m rest) (m.pattern p.number) c.args.name.now) l.invariant.same ∙ ap (λ t. matched (completed entry rest) t c.args.name.now) known.0) ∙ c.if-branch.false);
    }

pub returns-clause-read : goal.returns-clause-read
returns-clause-read g c =
    let entry = g.T.Matching.matches c.args.matching.now in
    let l = c.loop-pattern in
    let past : length c.args.patterns.now ≤ l.pattern-index = omega (arith, c.loop-pattern-test.false) in
    λ rest. sym (l.invariant.left rest ∙ at_drop_all (λ ps. list_any (λ t. matched (completed entry rest) t c.args.name.now) (map text_of ps)) c.args.patterns.now l.pattern-index past)
