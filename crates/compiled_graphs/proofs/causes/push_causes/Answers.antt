use Rattle.std.proofs.Common.{◌≡◌, ◌∙◌, ◌∷◌, [], Some, List, map, option_map, sym, ap, subst}
use Rattle.std.proofs.lemmas.Result.{on_ok_weaker}
use Rattle.serde_json.specs.Find.{as_object}
use Rattle.serde_json.specs.View.{view, members_view}
use Rattle.schema_definitions.specs.Rows.{Row, rows_at, identifier_causes}
use Rattle.reached_sites.specs.Visits.{site_of}
use Rattle.reached_sites.proofs.Leading.{object-of}
use Rattle.reached_sites.proofs.Walking.{own_of, rows-of-object}
use Rattle.compiled_graphs.specs.Told.{TellsEach}
use Rattle.compiled_graphs.proofs.Others.{named-tells}
use Rattle.compiled_graphs.proofs.Told.{tells-one, tells-both}
use Rattle.compiled_graphs.proofs.causes.push_causes.Goals as goal

pub returns-in-Some-clause-tells : goal.returns-in-Some-clause-tells
returns-in-Some-clause-tells g c =
    let v = c.args.visit.now in
    let makes = (g.P.PatternMaker.patterns c.args.maker.now).makes in
    let ms = members_view c.in-Some.members.now.entries in
    let old = c.args.causes.now.items in
    let now = c.push_some.new.causes.items in
    let new = c.push_of_members.new.causes.items in
    let is : as_object (view v.site.contents.now) ≡ Some ms = sym c.as_object.ensures ∙ ap (option_map (λ m. members_view m.now.entries)) c.in-Some.is in
    let named = tells-one c.in_ok-named.named (identifier_causes (site_of v)) old now (named-tells v c.in_ok-named.named c.in_ok-named.ensures.right c.in_ok-named.ensures.wrong) c.in_ok-push_some.ensures in
    let same = rows-of-object (own_of v) makes (site_of v) ms (object-of (view v.site.contents.now) ms is) in
    on_ok_weaker c.push_of_members.result (λ tells filled.
    tells-both (identifier_causes (site_of v) ∷ []) (map (λ (r : Row). r.causes) (rows_at (own_of v) makes (site_of v))) old now new named
    (subst (λ (rs : List Row). TellsEach (map (λ (r : Row). r.causes) rs) now new) (sym same) (tells filled))) c.push_of_members.ensures.tells

pub returns-in-None-clause-tells : goal.returns-in-None-clause-tells
returns-in-None-clause-tells g c =
    let v = c.args.visit.now in
    let makes = (g.P.PatternMaker.patterns c.args.maker.now).makes in
    let old = c.args.causes.now.items in
    let now = c.push_some.new.causes.items in
    let new = c.push_of_other.new.causes.items in
    let named = tells-one c.in_ok-named.named (identifier_causes (site_of v)) old now (named-tells v c.in_ok-named.named c.in_ok-named.ensures.right c.in_ok-named.ensures.wrong) c.in_ok-push_some.ensures in
    on_ok_weaker c.push_of_other.result (λ tells filled.
    tells-both (identifier_causes (site_of v) ∷ []) (map (λ (r : Row). r.causes) (rows_at (own_of v) makes (site_of v))) old now new named (tells makes)) c.push_of_other.ensures
