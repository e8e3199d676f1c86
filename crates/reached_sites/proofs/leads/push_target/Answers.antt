use Rattle.referencing.specs.Resolved.{base_of, scope_of, documents_in, target_in}
use Rattle.schema_definitions.specs.Sites.{target_site}
use Rattle.schema_sites.specs.Seen.{documents_at}
use Rattle.reached_sites.specs.Visits.{site_of}
use Rattle.reached_sites.proofs.Matching.{adds-one, belongs-too}
use Rattle.reached_sites.proofs.Reading.{text-reads}
use Rattle.reached_sites.proofs.leads.push_target.Goals as goal

pub of_target-requires : goal.of_target-requires
of_target-requires c =
    let site = c.args.visit.now.site in
    let finds = c.requires.1 in
    text-reads c.requires.0 (documents_at site) (base_of site.resolver) (scope_of site.resolver) c.args.text.now (target_in c.args.target.now) finds.found finds.may_be

pub returns : goal.returns
returns c =
    let outer = c.args.visit.now in
    let v = c.in_ok-of_target.field-0 in
    let finds = c.requires.1 in
    adds-one (documents_in outer.site.resolver) c.args.leads.now.items c.push.new.self.items v (target_site (site_of outer) c.args.text.now (target_in c.args.target.now)) c.in_ok-push.ensures.items
    (belongs-too v finds.documents c.in_ok-of_target.ensures.belongs)
    (c.in_ok-of_target.ensures.met (site_of outer) finds.scope)
