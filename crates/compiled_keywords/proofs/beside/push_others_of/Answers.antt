use Rattle.std.proofs.Common.{◌≡◌, ◌∙◌, ◌∷◌, ◌||◌, [], ℕ, List, true, false, map, string_bytes, sym, ap, rules}
use Rattle.serde_json.specs.View.{view, members_view}
use Rattle.schema_meaning.specs.Members.{is_listed}
use Rattle.schema_meaning.specs.Questions.{listed_members, each_member}
use Rattle.schema_engine.specs.declared.place.Asked.TheVariants as asked
use Rattle.compiled_keywords.specs.Forms.{alone, whole_at}
use Rattle.compiled_keywords.specs.Named.{others_beside}
use Rattle.compiled_keywords.proofs.NamedLemmas.{left_next, there_next}
use Rattle.compiled_keywords.proofs.PushLemmas.{put_same, put_next, put_done}
use Rattle.compiled_keywords.proofs.beside.push_others_of.Goals as goal

pub loop-name-preserved-in-Continue-1 : goal.loop-name-preserved-in-Continue-1
loop-name-preserved-in-Continue-1 c k ns kept =
    let names = map string_bytes c.args.names.now.list.items in
    let e = view c.in-Some.member.now in
    let name = c.as_str-name.result.now in
    let more = listed_members (members_view c.next.new.self) in
    let here = ap (λ es. listed_members (members_view es)) c.in-Some.ensures.steps ∙ ap (λ (n : List ℕ). (n, e) ∷ more) (sym c.as_str-name.ensures.value) in
    let other = ap (λ b. is_listed name names || b) (sym (kept name)) ∙ sym c.is_there.ensures ∙ c.if-not-is_there.true in
    put_next (whole_at k) _ _ _ (record { node = c.args.node; asked = asked.Member c.as_str-name.result c.in-Some.member; follows = false; beside = true; entry = 0 }) _ _ _
    (left_next k c.args.node names ns name e _ more here other) (c.loop-name.invariant k ns kept) c.in_ok-push.ensures.items

pub loop-name-preserved : goal.loop-name-preserved
loop-name-preserved c k ns kept =
    let names = map string_bytes c.args.names.now.list.items in
    let e = view c.in-Some.member.now in
    let name = c.as_str-name.result.now in
    let more = listed_members (members_view c.next.new.self) in
    let here = ap (λ es. listed_members (members_view es)) c.in-Some.ensures.steps ∙ ap (λ (n : List ℕ). (n, e) ∷ more) (sym c.as_str-name.ensures.value) in
    let so = ap (λ b. is_listed name names || b) (sym (kept name)) ∙ sym c.is_there.ensures ∙ c.if-not-is_there.false in
    put_same (whole_at k) _ _ _ _ _ (there_next k c.args.node names ns name e _ more here so) (c.loop-name.invariant k ns kept)

pub returns : goal.returns
returns c k ns kept =
    let names = map string_bytes c.args.names.now.list.items in
    let none : listed_members (members_view c.loop-name.name-iterator) ≡ [] = search rules in
    put_done (whole_at k) _ _ _ _ (ap (λ ms. map alone (each_member k c.args.node (others_beside names ns ms))) none) (c.loop-name.invariant k ns kept)
