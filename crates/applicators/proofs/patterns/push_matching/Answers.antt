use Rattle.std.proofs.Common.{◌∙◌, ◌∷◌, List, ℕ, sym, ap}
use Rattle.std.proofs.lemmas.List.{map-append}
use Rattle.serde_json.specs.View.{view, members_view}
use Rattle.schema_meaning.specs.Questions.{at_name, listed_members}
use Rattle.applicators.specs.Questions.{question_of, questions_of}
use Rattle.schema_patterns.specs.Read.{reads}
use Rattle.applicators.proofs.MatchingLemmas.{matched_step}
use Rattle.applicators.proofs.patterns.push_matching.Goals as goal

pub loop-name-preserved-in-Continue-branch-2 : goal.loop-name-preserved-in-Continue-branch-2
loop-name-preserved-in-Continue-branch-2 c = λ site.
    let e = view c.in-Some.member.now in
    let more = listed_members (members_view c.next.new.self) in
    matched_step (reads c.args.matches.now) (site (at_name c.args.keyword.now c.args.pattern.now) (view c.args.schema.now)) c.args.pattern.now c.as_str-name.result.now c.args.keyword.now e
    (listed_members (members_view c.loop-name.name-iterator)) more _ _ _
    (ap (λ es. listed_members (members_view es)) c.in-Some.ensures.steps ∙ ap (λ (k : List ℕ). (k, e) ∷ more) (sym c.as_str-name.ensures.value))
    (sym c.in_ok-is_match.ensures ∙ c.if-branch.true) (c.loop-name.invariant site)
    (ap (questions_of site) c.in_ok-push.ensures.items ∙ map-append (question_of site) c.loop-name.questions.items _)
