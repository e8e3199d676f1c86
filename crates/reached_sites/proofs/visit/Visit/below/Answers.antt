use Rattle.std.proofs.Common.{◌∙◌, ap, sym}
use Rattle.serde_json.specs.View.{view}
use Rattle.schema_definitions.specs.Scopes.{entered_scope}
use Rattle.referencing.specs.Resolved.{base_of, scope_of}
use Rattle.schema_definitions.specs.Sites.{below}
use Rattle.schema_sites.specs.Seen.{documents_at}
use Rattle.reached_sites.specs.Visits.{site_of}
use Rattle.reached_sites.proofs.Meeting.{stands-itself, met-exactly, below-path, spelled-behind}
use Rattle.reached_sites.proofs.visit.Visit.below.Goals as goal

pub returns-clause-met : goal.returns-clause-met
returns-clause-met c = λ added document path road.
    let outer = c.args.self.now in
    let site = c.in_ok-site.ensures in
    let d = view c.args.contents.now in
    let s = below (documents_at outer.site) (site_of outer) added d in
    let stands = site.stands (site_of outer) added (stands-itself outer) in
    met-exactly _ s document (below-path (documents_at outer.site) (site_of outer) added d ∙ path) stands.contents
    (spelled-behind added outer.point.schema_path.steps c.args.point.schema_path.steps outer.point.schema_path.named c.args.point.schema_path.named road)
    (record {
      base = stands.base;
      scope = ap (λ base. entered_scope base (base_of outer.site.resolver) (scope_of outer.site.resolver)) stands.base ∙ sym site.scope;
      dialect = stands.dialect;
    })
