use Rattle.std.proofs.Common.{List, ℕ, IfSome, refl, subst}
use Rattle.serde_json.specs.View.{view, members_view}
use Rattle.reached_sites.specs.Patterns.{Holds, texts_of}
use Rattle.reached_sites.specs.Visits.{site_of}
use Rattle.reached_sites.specs.declared.pattern.Pattern.{Pattern}
use Rattle.reached_sites.proofs.Filling.{held-made, holds-itself}
use Rattle.reached_sites.proofs.Meeting.{stands-itself}
use Rattle.reached_sites.proofs.Walking.{context_of, row_here}
use Rattle.compiled_graphs.specs.Read.{IsUnmade}
use Rattle.compiled_graphs.proofs.Found.{none-of, answered-of, member-wrong, put-texts, member-right, member-unmade, member-written}
use Rattle.compiled_graphs.proofs.Others.{counted-more}
use Rattle.compiled_graphs.proofs.reading.push_member.Goals as goal

pub push_asked-requires : goal.push_asked-requires
push_asked-requires g c = (view c.args.member.value.now, c.in-Ok.ensures.found)

pub returns-in-Some-clause-read : goal.returns-in-Some-clause-read
returns-in-Some-clause-read g c = λ filled.
    let v = c.args.visit.now in
    let makes = (g.P.PatternMaker.patterns c.args.maker.now).makes in
    let all = members_view c.args.member.members.now.entries in
    let k = c.args.member.name.now in
    let d = view c.args.member.value.now in
    let patterns = c.push_patterns.new.patterns.items in
    let unmade = subst (λ o. IfSome o (IsUnmade makes c.as_slice.result.now)) c.in-Some.is c.in_ok-cause-in-Ok.ensures.unmade in
    member-unmade v makes all k d c.args.found.now c.in-Ok.keyword (c.in-Ok.ensures.read makes (site_of v) (stands-itself v) refl) c.new-patterns.result.items patterns c.new-patterns.ensures.items
    c.in_ok-push_patterns-in-Ok.ensures c.in-Some.cause (subst (λ (l : List Pattern). IsUnmade makes l c.in-Some.cause) c.as_slice.ensures.value unmade)

pub returns-in_ok-push-in-Ok-clause-read : goal.returns-in_ok-push-in-Ok-clause-read
returns-in_ok-push-in-Ok-clause-read g c = λ filled.
    let v = c.args.visit.now in
    let maker = c.args.maker.now in
    let finds = g.P.Matcher.PatternMatcher.finds in
    let finished = (g.P.PatternMaker.patterns maker).finished in
    let makes = (g.P.PatternMaker.patterns maker).makes in
    let all = members_view c.args.member.members.now.entries in
    let k = c.args.member.name.now in
    let d = view c.args.member.value.now in
    let larger = c.unmade.new.table in
    let patterns = c.push_patterns.new.patterns.items in
    let none = none-of c.in_ok-cause-in-Ok.field-0 c.in_default.not-Some in
    let held = subst (λ (l : List Pattern). Holds larger (texts_of l)) c.as_slice.ensures.value (c.in_ok-cause-in-Ok.ensures.made none) in
    let made = held-made finds finished makes larger (texts_of patterns) (c.in_ok-cause-in-Ok.ensures.filled filled) held in
    member-right v makes all k d c.args.found.now c.in-Ok.keyword (c.in-Ok.ensures.read makes (site_of v) (stands-itself v) refl) c.new-patterns.result.items patterns c.new-patterns.ensures.items
    c.in_ok-push_patterns-in-Ok.ensures _ c.in_ok-asks-in-Ok.asks made (answered-of v.site d c.in-Ok.keyword c.in-Ok.ensures.found) c.in_ok-asks-in-Ok.ensures.adds c.in_ok-asks-in-Ok.ensures.count
    c.in_ok-push-in-Ok.ensures.items

pub returns-in_ok-push-in-Ok-clause-written : goal.returns-in_ok-push-in-Ok-clause-written
returns-in_ok-push-in-Ok-clause-written g c = λ t.
    let v = c.args.visit.now in
    let makes = (g.P.PatternMaker.patterns c.args.maker.now).makes in
    let all = members_view c.args.member.members.now.entries in
    let k = c.args.member.name.now in
    let d = view c.args.member.value.now in
    let w = c.in-Ok.keyword in
    let larger = c.unmade.new.table in
    let patterns = c.push_patterns.new.patterns.items in
    let none = none-of c.in_ok-cause-in-Ok.field-0 c.in_default.not-Some in
    let held = subst (λ (l : List Pattern). Holds larger (texts_of l)) c.as_slice.ensures.value (c.in_ok-cause-in-Ok.ensures.made none) in
    member-written v all k d larger w (λ f. c.in-Ok.ensures.read f (site_of v) (stands-itself v) refl)
    (subst (λ (ts : List (List ℕ)). Holds larger ts)
    (put-texts v makes all k d c.args.found.now w (c.in-Ok.ensures.read makes (site_of v) (stands-itself v) refl) c.new-patterns.result.items patterns c.new-patterns.ensures.items c.in_ok-push_patterns-in-Ok.ensures) held)

pub returns-in_ok-refused-in-Err-clause-read : goal.returns-in_ok-refused-in-Err-clause-read
returns-in_ok-refused-in-Err-clause-read g c = λ filled.
    let v = c.args.visit.now in
    let makes = (g.P.PatternMaker.patterns c.args.maker.now).makes in
    let all = members_view c.args.member.members.now.entries in
    let k = c.args.member.name.now in
    let d = view c.args.member.value.now in
    let h = c.in_ok-refused-in-Err.ensures.names (context_of v makes all) d (row_here v makes all k d) refl (c.in-Err.ensures.refused makes (site_of v) (stands-itself v) refl) in
    member-wrong v makes all k d c.args.found.now h.0 c.in_ok-refused-in-Err.field-0 h.2 h.1

pub returns-in_ok-refused-in-Err-clause-kept : goal.returns-in_ok-refused-in-Err-clause-kept
returns-in_ok-refused-in-Err-clause-kept g c = holds-itself c.args.table.now

pub returns-in_ok-push-in-Ok-clause-counts : goal.returns-in_ok-push-in-Ok-clause-counts
returns-in_ok-push-in-Ok-clause-counts g c = λ h.
    let found = c.args.found.now in
    rw c.in_ok-push-in-Ok.ensures.items
    (counted-more found.askings.items c.in-Ok.keyword c.in_ok-asks-in-Ok.asks found.visits.items _ c.in_ok-asks-in-Ok.ensures.count h)
