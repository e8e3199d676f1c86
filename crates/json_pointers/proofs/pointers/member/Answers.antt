use Rattle.std.proofs.Common.{◌≡◌, string_bytes, refl, sym, ap, ◌∙◌, arith, true≢false, option_map}
use Rattle.std.proofs.lemmas.Str.Pattern.{contains_char}
use Rattle.serde_json.specs.Find.{unescape, get_member}
use Rattle.serde_json.specs.View.{view, members_view}
use Rattle.serde_json.proofs.Views.{Entry, member_here, member_later, view_of_ref, view-lookup}
use Rattle.serde_json.proofs.Paths.{unescape_plain}
use Rattle.json_pointers.proofs.pointers.member.Goals as goal

pub returns-then-not-contains : goal.returns-then-not-contains
returns-then-not-contains c =
    let part = c.args.token.now in
    let found = contains_char 126 part c.contains.result c.contains.ensures.cases (omega arith) in
    let same = unescape_plain part (λ i less e. true≢false (sym (found.1 i less e) ∙ c.if-not-contains.true)) in
    view_of_ref c.get.result ∙ ap (option_map view) c.get.ensures.value ∙ view-lookup part c.args.members.now.entries ∙ ap (λ name. get_member name (members_view c.args.members.now.entries)) (sym same)

pub returns-then-unescapes_to : goal.returns-then-unescapes_to
returns-then-unescapes_to c =
    let name = unescape c.args.token.now in
    let e : Entry = (c.in-Some.name.now, c.in-Some.value.now) in
    let here = c.loop-name.invariant ∙ ap (λ es. get_member name (members_view es)) c.in-Some.ensures.steps in
    let part = ap unescape c.as_bytes.ensures.value in
    let key : c.as_bytes-in-loop-name.result.now ≡ string_bytes e.0 = c.as_bytes-in-loop-name.ensures.value in
    sym (here ∙ member_here name e _ (sym part ∙ c.if-unescapes_to.ensures.0 refl ∙ key))

pub loop-name-preserved : goal.loop-name-preserved
loop-name-preserved c =
    let name = unescape c.args.token.now in
    let e : Entry = (c.in-Some.name.now, c.in-Some.value.now) in
    let here = c.loop-name.invariant ∙ ap (λ es. get_member name (members_view es)) c.in-Some.ensures.steps in
    let part = ap unescape c.as_bytes.ensures.value in
    let key : c.as_bytes-in-loop-name.result.now ≡ string_bytes e.0 = c.as_bytes-in-loop-name.ensures.value in
    here ∙ member_later name e _ (λ same. true≢false (sym (c.if-unescapes_to.ensures.1 (part ∙ same ∙ sym key))))
