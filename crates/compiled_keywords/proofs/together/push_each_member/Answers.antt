use Rattle.std.proofs.Common.{◌≡◌, ◌∙◌, ◌∷◌, [], ℕ, List, map, sym, ap, subst, rules}
use Rattle.serde_json.specs.View.{view, members_view}
use Rattle.schema_meaning.specs.Questions.{listed_members}
use Rattle.schema_engine.specs.Matches.{Matches, completed}
use Rattle.schema_engine.specs.Questions.{call_of, Pushes}
use Rattle.compiled_keywords.specs.Asked.{patterns_of, MayMatchEach, MayMatchNames}
use Rattle.compiled_keywords.specs.Owned.{by_pattern, declared_by}
use Rattle.compiled_keywords.specs.Paired.{calls_of_member, calls_of_members}
use Rattle.compiled_keywords.proofs.BesideLemmas.{leaves_done}
use Rattle.compiled_keywords.proofs.MatchLemmas.{text_alone, texts_left}
use Rattle.compiled_keywords.proofs.PushLemmas.{seen_more}
use Rattle.compiled_keywords.proofs.together.push_each_member.Goals as goal

pub push_member-requires-clause-asked : goal.push_member-requires-clause-asked
push_member-requires-clause-asked g c =
    let entry = g.T.Matching.matches c.args.matching.now in
    let ps = patterns_of c.args.nodes.now in
    let e = view c.in-Some.member.now in
    let name = c.as_str.result.now in
    let more = listed_members (members_view c.next.new.self) in
    let here = ap (λ es. listed_members (members_view es)) c.in-Some.ensures.steps ∙ ap (λ (n : List ℕ). (n, e) ∷ more) (sym c.as_str.ensures.value) in
    subst (λ (m : Matches). MayMatchEach m ps (name ∷ [])) (sym c.loop-name.invariant.same)
    (text_alone (subst (MayMatchNames entry ps) here c.loop-name.invariant.may))

pub loop-name-preserved : goal.loop-name-preserved
loop-name-preserved g c =
    let entry = g.T.Matching.matches c.args.matching.now in
    let nodes = c.args.nodes.now in
    let w = declared_by c.args.declared.now in
    let node = c.args.node in
    let e = view c.in-Some.member.now in
    let name = c.as_str.result.now in
    let more = listed_members (members_view c.next.new.self) in
    let same = c.loop-name.invariant.same in
    let here = ap (λ es. listed_members (members_view es)) c.in-Some.ensures.steps ∙ ap (λ (n : List ℕ). (n, e) ∷ more) (sym c.as_str.ensures.value) in
    record {
      same = c.in_ok-push_member.ensures.same ∙ same;
      may = texts_left (subst (MayMatchNames entry (patterns_of nodes)) here c.loop-name.invariant.may);
      left = λ rest. seen_more call_of _ _ _ (calls_of_member (completed entry rest) (map by_pattern nodes) w node (name, e)) _
          (calls_of_members (completed entry rest) (map by_pattern nodes) w node more) _
          (ap (calls_of_members (completed entry rest) (map by_pattern nodes) w node) here) (c.loop-name.invariant.left rest)
          (subst (λ (m : Matches). Pushes c.loop-name.into.items c.push_member.new.into.items (calls_of_member (completed m rest) (map by_pattern nodes) w node (name, e))) same
          (c.in_ok-push_member.ensures.pushed rest));
    }

pub returns-clause-pushed : goal.returns-clause-pushed
returns-clause-pushed g c = λ rest.
    let entry = g.T.Matching.matches c.args.matching.now in
    let none : listed_members (members_view c.loop-name.name-iterator) ≡ [] = search rules in
    leaves_done _ _ _ _ (ap (calls_of_members (completed entry rest) (map by_pattern c.args.nodes.now) (declared_by c.args.declared.now) c.args.node) none) (c.loop-name.invariant.left rest)
