use Rattle.std.proofs.Common.{sym}
use Rattle.serde_json.specs.View.{view}
use Rattle.referencing.specs.Resolved.{documents_in}
use Rattle.schema_definitions.specs.Sites.{below}
use Rattle.schema_definitions.specs.Rows.{at}
use Rattle.schema_sites.specs.Seen.{documents_at}
use Rattle.reached_sites.specs.Visits.{site_of}
use Rattle.reached_sites.proofs.Matching.{adds-one}
use Rattle.reached_sites.proofs.leads.push_at.Goals as goal

pub returns : goal.returns
returns c =
    let outer = c.args.visit.now in
    let v = c.in_ok-below.field-0 in
    let put = at c.args.keyword.now in
    adds-one (documents_in outer.site.resolver) c.args.leads.now.items c.push.new.self.items v (below (documents_at outer.site) (site_of outer) put (view c.args.schema.now))
    c.in_ok-push.ensures.items c.in_ok-below.ensures.belongs (c.in_ok-below.ensures.met put (sym c.in_ok-point.ensures.document) (sym c.in_ok-point.ensures.path) (sym c.in_ok-point.ensures.road))
