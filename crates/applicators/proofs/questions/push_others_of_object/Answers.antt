use Rattle.std.proofs.Common.{◌∙◌, ◌∷◌, ℕ, List, sym, ap}
use Rattle.serde_json.specs.View.{view, members_view}
use Rattle.schema_meaning.specs.Questions.{listed_members}
use Rattle.schema_patterns.specs.Read.{reads}
use Rattle.applicators.specs.Shapes.{site_of, declared_by}
use Rattle.applicators.proofs.MatchingLemmas.{others_step}
use Rattle.applicators.proofs.questions.push_others_of_object.Goals as goal

pub loop-name-preserved-in_ok-push : goal.loop-name-preserved-in_ok-push
loop-name-preserved-in_ok-push c = λ site.
    let keyword = c.args.keyword.now in
    let e = view c.in-Some.member.now in
    let more = listed_members (members_view c.next.new.self) in
    others_step (reads c.args.matches.now) (declared_by c.args.declared) keyword (site_of site keyword (view c.args.schema.now)) c.as_str-name.result.now e
    (listed_members (members_view c.loop-name.name-iterator)) more _ _ _
    (ap (λ es. listed_members (members_view es)) c.in-Some.ensures.steps ∙ ap (λ (k : List ℕ). (k, e) ∷ more) (sym c.as_str-name.ensures.value))
    (sym c.in_ok-is_declared.ensures ∙ c.if-not-branch.true) (c.loop-name.invariant site) (c.in_ok-push.ensures site)
