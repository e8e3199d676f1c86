use Rattle.std.proofs.Common.{◌≡◌, ◌∙◌, ℕ, List, Some, option_map, refl, sym, ap, subst}
use Rattle.serde_json.specs.Find.{as_object}
use Rattle.serde_json.specs.View.{view, members_view}
use Rattle.schema_definitions.specs.Rows.{rows_at}
use Rattle.schema_patterns.specs.Tables.{texts_of_table}
use Rattle.reached_sites.specs.Patterns.{Holds}
use Rattle.reached_sites.specs.Visits.{site_of}
use Rattle.reached_sites.proofs.Filling.{holds-itself, same-front}
use Rattle.reached_sites.proofs.Leading.{gone, object-of, written-object}
use Rattle.reached_sites.proofs.Listing.{none-in}
use Rattle.reached_sites.proofs.Walking.{own_of}
use Rattle.compiled_graphs.proofs.Found.{both-none}
use Rattle.compiled_graphs.proofs.Others.{met-itself, all-found, named-tells, object-found}
use Rattle.compiled_graphs.proofs.reading.read.Goals as goal

pub read_other-requires : goal.read_other-requires
read_other-requires g c =
    let v = c.args.visit.now in
    sym c.as_object.ensures ∙ gone (λ m. members_view m.now.entries) c.as_object.result c.in_default.not-Some

pub returns-in-Some-clause-read : goal.returns-in-Some-clause-read
returns-in-Some-clause-read g c = λ filled.
    let v = c.args.visit.now in
    let makes = (g.P.PatternMaker.patterns c.args.maker.now).makes in
    let ms = members_view c.in-Some.members.now.entries in
    let is : as_object (view v.site.contents.now) ≡ Some ms = sym c.as_object.ensures ∙ ap (option_map (λ m. members_view m.now.entries)) c.in-Some.is in
    let tells = named-tells v c.in_ok-named.named c.in_ok-named.ensures.right c.in_ok-named.ensures.wrong in
    rw c.first_cause.ensures
    (object-found (own_of v) makes (site_of v) ms _ _ c.in_ok-named.named c.in_ok-cause.cause tells (object-of (view v.site.contents.now) ms is) c.new.ensures.items c.new-2.ensures.items (c.in_ok-cause.ensures.read filled))

pub returns-in-Some-clause-written : goal.returns-in-Some-clause-written
returns-in-Some-clause-written g c = λ t.
    let v = c.args.visit.now in
    let ms = members_view c.in-Some.members.now.entries in
    let is : as_object (view v.site.contents.now) ≡ Some ms = sym c.as_object.ensures ∙ ap (option_map (λ m. members_view m.now.entries)) c.in-Some.is in
    subst (λ ts. Holds c.read_members.new.table ts) (sym (written-object v (site_of v) ms (met-itself v) (object-of (view v.site.contents.now) ms is))) (c.in_ok-cause.ensures.written (both-none c.in_ok-named.named c.in_ok-cause.cause (sym c.first_cause.ensures ∙ t)).1)

pub returns-in-Some-clause-counts : goal.returns-in-Some-clause-counts
returns-in-Some-clause-counts g c = c.in_ok-cause.ensures.counts (rw (c.new.ensures.items, c.new-2.ensures.items) refl)

pub returns-clause-read : goal.returns-clause-read
returns-clause-read g c = λ filled.
    let v = c.args.visit.now in
    let makes = (g.P.PatternMaker.patterns c.args.maker.now).makes in
    let tells = named-tells v c.in_ok-named.named c.in_ok-named.ensures.right c.in_ok-named.ensures.wrong in
    rw c.first_cause-2.ensures
    (all-found (own_of v) makes (site_of v) (rows_at (own_of v) makes (site_of v)) _ _ c.in_ok-named.named c.in_ok-cause-2.cause tells refl c.new.ensures.items c.new-2.ensures.items (c.in_ok-cause-2.ensures.read makes))

pub returns-clause-kept : goal.returns-clause-kept
returns-clause-kept g c = holds-itself c.args.table.now

pub returns-clause-grows : goal.returns-clause-grows
returns-clause-grows g c = same-front (texts_of_table c.args.table.now) _ refl

pub returns-clause-written : goal.returns-clause-written
returns-clause-written g c = λ t. subst (λ (ts : List (List ℕ)). Holds c.args.table.now ts) (sym (c.in_ok-cause-2.ensures.written (both-none c.in_ok-named.named c.in_ok-cause-2.cause (sym c.first_cause-2.ensures ∙ t)).1)) (λ p i. none-in i)

pub returns-clause-counts : goal.returns-clause-counts
returns-clause-counts g c = c.in_ok-cause-2.ensures.counts (rw (c.new.ensures.items, c.new-2.ensures.items) refl)
