use Rattle.std.proofs.Common.{◌≡◌, ◌∙◌, ◌∷◌, [], ℕ, List, true, false, map, sym, ap, rules}
use Rattle.serde_json.specs.View.{view, members_view}
use Rattle.schema_meaning.specs.Questions.{listed_members, each_member}
use Rattle.schema_engine.specs.declared.place.Asked.TheVariants as asked
use Rattle.compiled_keywords.specs.Forms.{alone, whole_at}
use Rattle.compiled_keywords.proofs.PushLemmas.{put_next, put_done}
use Rattle.compiled_keywords.proofs.members.push_members_of.Goals as goal

pub loop-name-preserved : goal.loop-name-preserved
loop-name-preserved c = λ k.
    let e = view c.in-Some.member.now in
    let more = listed_members (members_view c.next.new.self) in
    let here = ap (λ es. listed_members (members_view es)) c.in-Some.ensures.steps ∙ ap (λ (n : List ℕ). (n, e) ∷ more) (sym c.as_str-name.ensures.value) in
    put_next (whole_at k) _ _ _ (record { node = c.args.node; asked = asked.Member c.as_str-name.result c.in-Some.member; follows = false; beside = true; entry = 0 }) _ _ _
    (ap (λ ms. map alone (each_member k c.args.node ms)) here) (c.loop-name.invariant k) c.in_ok-push.ensures.items

pub returns : goal.returns
returns c = λ k.
    let none : listed_members (members_view c.loop-name.name-iterator) ≡ [] = search rules in
    put_done (whole_at k) _ _ _ _ (ap (λ ms. map alone (each_member k c.args.node ms)) none) (c.loop-name.invariant k)
