use Rattle.std.proofs.Common.{sym, subst}
use Rattle.serde_json.specs.View.{view}
use Rattle.referencing.specs.Resolved.{documents_in}
use Rattle.schema_definitions.specs.Sites.{below}
use Rattle.schema_definitions.specs.Rows.{at}
use Rattle.schema_sites.specs.Seen.{documents_at}
use Rattle.reached_sites.specs.Visits.{site_of, Adds}
use Rattle.reached_sites.proofs.Matching.{adds-one, adds-none}
use Rattle.compiled_graphs.specs.Asked.{site_beside}
use Rattle.compiled_graphs.proofs.Found.{none-of}
use Rattle.compiled_graphs.proofs.asking.push_beside.Goals as goal

pub returns-in_ok-push : goal.returns-in_ok-push
returns-in_ok-push c =
    let outer = c.args.visit.now in
    let own = documents_in outer.site.resolver in
    let v = c.in_ok-below.field-0 in
    let put = at c.args.name.now in
    subst (λ o. Adds own c.args.visits.now.items c.push.new.self.items (site_beside (documents_at outer.site) (site_of outer) c.args.name.now o)) (sym c.in-Some.is)
    (adds-one own c.args.visits.now.items c.push.new.self.items v (below (documents_at outer.site) (site_of outer) put (view c.in-Some.schema.now))
    c.in_ok-push.ensures.items c.in_ok-below.ensures.belongs (c.in_ok-below.ensures.met put (sym c.in_ok-point.ensures.document) (sym c.in_ok-point.ensures.path) (sym c.in_ok-point.ensures.road)))

pub returns-in_default : goal.returns-in_default
returns-in_default c =
    let outer = c.args.visit.now in
    let own = documents_in outer.site.resolver in
    subst (λ o. Adds own c.args.visits.now.items c.args.visits.now.items (site_beside (documents_at outer.site) (site_of outer) c.args.name.now o)) (sym (none-of c.args.schema c.in_default.not-Some))
    (adds-none own c.args.visits.now.items)
