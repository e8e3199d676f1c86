use Rattle.std.proofs.Common.{◌≡◌, ◌∙◌, ◌∷◌, [], ℕ, List, true, false, map, sym, ap, subst, rules}
use Rattle.json_values.specs.Parts.{Part}
use Rattle.json_values.specs.Patterns.{matched}
use Rattle.serde_json.specs.View.{view, members_view}
use Rattle.schema_meaning.specs.Places.{to_member}
use Rattle.schema_meaning.specs.Questions.{listed_members}
use Rattle.schema_engine.specs.Matches.{Answers, Matches, completed}
use Rattle.schema_engine.specs.declared.place.Asked.TheVariants as asked
use Rattle.compiled_keywords.specs.Asked.{MayMatchNames}
use Rattle.compiled_keywords.specs.Forms.{alone}
use Rattle.compiled_keywords.specs.Members.{matching_of}
use Rattle.compiled_keywords.specs.Owned.{by_pattern}
use Rattle.compiled_keywords.proofs.MatchLemmas.{by_number, one_match, text_alone, texts_left}
use Rattle.compiled_keywords.proofs.PushLemmas.{put_same, put_next, put_done, matched_next, unmatched_next}
use Rattle.compiled_keywords.proofs.members.push_matched.Goals as goal

pub is_match-requires : goal.is_match-requires
is_match-requires g c =
    let entry = g.T.Matching.matches c.args.matching.now in
    let node = c.args.node.now in
    let p = by_pattern node in
    let e = view c.in-Some.member.now in
    let name = c.as_str-name.result.now in
    let more = listed_members (members_view c.next.new.self) in
    let here = ap (λ es. listed_members (members_view es)) c.in-Some.ensures.steps
    ∙ ap (λ (n : List ℕ). (n, e) ∷ more) (sym c.as_str-name.ensures.value) in
    by_number entry _ node.pattern.number p.0 name c.loop-name.invariant.same c.requires.known
    (one_match (text_alone (subst (MayMatchNames entry (p.0 ∷ [])) here c.loop-name.invariant.may)))

pub loop-name-preserved-in-Continue-branch-2 : goal.loop-name-preserved-in-Continue-branch-2
loop-name-preserved-in-Continue-branch-2 g c =
    let entry = g.T.Matching.matches c.args.matching.now in
    let node = c.args.node.now in
    let p = by_pattern node in
    let e = view c.in-Some.member.now in
    let name = c.as_str-name.result.now in
    let more = listed_members (members_view c.next.new.self) in
    let here = ap (λ es. listed_members (members_view es)) c.in-Some.ensures.steps ∙ ap (λ (n : List ℕ). (n, e) ∷ more) (sym c.as_str-name.ensures.value) in
    let so = λ (rest : Answers). sym (c.in_ok-is_match.ensures.read rest ∙ ap (λ (m : Matches). matched (completed m rest) (m.pattern node.pattern.number) name) c.loop-name.invariant.same ∙ ap (λ t. matched (completed entry rest) t name) c.requires.known)
    ∙ c.if-branch.true in
    record {
      same = c.in_ok-is_match.ensures.same ∙ c.loop-name.invariant.same;
      may = texts_left (subst (MayMatchNames entry (p.0 ∷ [])) here c.loop-name.invariant.may);
      left = λ rest k added part. put_next added _ _ _ (record { node = node.node; asked = asked.Member c.as_str-name.result c.in-Some.member; follows = false; beside = true; entry = c.args.entry }) _ _ _
          (matched_next (completed entry rest) k p name e _ more here (so rest)
          ∙ ap (λ (r : List Part). (true, record { site = node.node; step = to_member name e; added = r; follows = false }) ∷ map alone (matching_of (completed entry rest) k p more)) (sym part))
          (c.loop-name.invariant.left rest k added part) c.in_ok-push.ensures.items;
    }

pub loop-name-preserved : goal.loop-name-preserved
loop-name-preserved g c =
    let entry = g.T.Matching.matches c.args.matching.now in
    let node = c.args.node.now in
    let p = by_pattern node in
    let e = view c.in-Some.member.now in
    let name = c.as_str-name.result.now in
    let more = listed_members (members_view c.next.new.self) in
    let here = ap (λ es. listed_members (members_view es)) c.in-Some.ensures.steps ∙ ap (λ (n : List ℕ). (n, e) ∷ more) (sym c.as_str-name.ensures.value) in
    let so = λ (rest : Answers). sym (c.in_ok-is_match.ensures.read rest ∙ ap (λ (m : Matches). matched (completed m rest) (m.pattern node.pattern.number) name) c.loop-name.invariant.same ∙ ap (λ t. matched (completed entry rest) t name) c.requires.known)
    ∙ c.if-branch.false in
    record {
      same = c.in_ok-is_match.ensures.same ∙ c.loop-name.invariant.same;
      may = texts_left (subst (MayMatchNames entry (p.0 ∷ [])) here c.loop-name.invariant.may);
      left = λ rest k added part. put_same added _ _ _ _ _ (unmatched_next (completed entry rest) k p name e _ more here (so rest)) (c.loop-name.invariant.left rest k added part);
    }

pub returns-clause-put : goal.returns-clause-put
returns-clause-put g c = λ rest k added part.
    let entry = g.T.Matching.matches c.args.matching.now in
    let none : listed_members (members_view c.loop-name.name-iterator) ≡ [] = search rules in
    put_done added _ _ _ _ (ap (λ ms. map alone (matching_of (completed entry rest) k (by_pattern c.args.node.now) ms)) none) (c.loop-name.invariant.left rest k added part)
