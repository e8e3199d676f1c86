use Rattle.std.proofs.Common.{◌≡◌, ◌∙◌, ◌∷◌, [], ℕ, List, true, false, map, sym, ap, subst, rules}
use Rattle.serde_json.specs.View.{view, members_view}
use Rattle.schema_meaning.specs.Questions.{listed_members, each_member, is_declared}
use Rattle.schema_engine.specs.Matches.{Answers, Matches, completed}
use Rattle.schema_engine.specs.declared.place.Asked.TheVariants as asked
use Rattle.compiled_keywords.specs.Asked.{MayMatchEach, MayMatchNames}
use Rattle.compiled_keywords.specs.Forms.{alone, whole_at}
use Rattle.compiled_keywords.specs.Members.{others_among}
use Rattle.compiled_keywords.specs.Owned.{declared_by}
use Rattle.compiled_keywords.proofs.MatchLemmas.{text_alone, texts_left}
use Rattle.compiled_keywords.proofs.PushLemmas.{put_same, put_next, put_done, other_next, declared_next}
use Rattle.compiled_keywords.proofs.members.push_others_of.Goals as goal

pub is_declared-requires-clause-asked : goal.is_declared-requires-clause-asked
is_declared-requires-clause-asked g c =
    let entry = g.T.Matching.matches c.args.matching.now in
    let ps = (declared_by c.args.declared.now).patterns in
    let e = view c.in-Some.member.now in
    let name = c.as_str-name.result.now in
    let more = listed_members (members_view c.next.new.self) in
    let here = ap (λ es. listed_members (members_view es)) c.in-Some.ensures.steps
    ∙ ap (λ (n : List ℕ). (n, e) ∷ more) (sym c.as_str-name.ensures.value) in
    subst (λ (m : Matches). MayMatchEach m ps (name ∷ [])) (sym c.loop-name.invariant.same)
    (text_alone (subst (MayMatchNames entry ps) here c.loop-name.invariant.may))

pub loop-name-preserved-in_ok-push : goal.loop-name-preserved-in_ok-push
loop-name-preserved-in_ok-push g c =
    let entry = g.T.Matching.matches c.args.matching.now in
    let w = declared_by c.args.declared.now in
    let e = view c.in-Some.member.now in
    let name = c.as_str-name.result.now in
    let more = listed_members (members_view c.next.new.self) in
    let here = ap (λ es. listed_members (members_view es)) c.in-Some.ensures.steps ∙ ap (λ (n : List ℕ). (n, e) ∷ more) (sym c.as_str-name.ensures.value) in
    let other = λ (rest : Answers). sym (c.in_ok-is_declared.ensures.read rest ∙ ap (λ (m : Matches). is_declared (completed m rest) w name) c.loop-name.invariant.same) ∙ c.if-not-branch.true in
    record {
      same = c.in_ok-is_declared.ensures.same ∙ c.loop-name.invariant.same;
      may = texts_left (subst (MayMatchNames entry w.patterns) here c.loop-name.invariant.may);
      left = λ rest k. put_next (whole_at k) _ _ _ (record { node = c.args.node; asked = asked.Member c.as_str-name.result c.in-Some.member; follows = false; beside = true; entry = 0 }) _ _ _
          (other_next (completed entry rest) k w c.args.node name e _ more here (other rest)) (c.loop-name.invariant.left rest k) c.in_ok-push.ensures.items;
    }

pub loop-name-preserved : goal.loop-name-preserved
loop-name-preserved g c =
    let entry = g.T.Matching.matches c.args.matching.now in
    let w = declared_by c.args.declared.now in
    let e = view c.in-Some.member.now in
    let name = c.as_str-name.result.now in
    let more = listed_members (members_view c.next.new.self) in
    let here = ap (λ es. listed_members (members_view es)) c.in-Some.ensures.steps
    ∙ ap (λ (n : List ℕ). (n, e) ∷ more) (sym c.as_str-name.ensures.value) in
    let so = λ (rest : Answers).
    sym (c.in_ok-is_declared.ensures.read rest
    ∙ ap (λ (m : Matches). is_declared (completed m rest) w name) c.loop-name.invariant.same)
    ∙ c.if-not-branch.false in
    record {
      same = c.in_ok-is_declared.ensures.same ∙ c.loop-name.invariant.same;
      may = texts_left (subst (MayMatchNames entry w.patterns) here c.loop-name.invariant.may);
      left = λ rest k. put_same (whole_at k) _ _ _ _ _
          (declared_next (completed entry rest) k w c.args.node name e _ more here (so rest))
          (c.loop-name.invariant.left rest k);
    }

pub returns-clause-put : goal.returns-clause-put
returns-clause-put g c = λ rest k.
    let entry = g.T.Matching.matches c.args.matching.now in
    let none : listed_members (members_view c.loop-name.name-iterator) ≡ [] = search rules in
    put_done (whole_at k) _ _ _ _ (ap (λ ms. map alone (each_member k c.args.node (others_among (completed entry rest) (declared_by c.args.declared.now) ms))) none) (c.loop-name.invariant.left rest k)
