use Rattle.std.proofs.Common.{◌∙◌, List, map, ap, subst}
use Rattle.std.proofs.lemmas.Result.{on_ok_weaker}
use Rattle.referencing.specs.Resolved.{documents_in}
use Rattle.schema_definitions.specs.Sites.{Site, below}
use Rattle.applicators.specs.Shapes.{place_of}
use Rattle.schema_sites.specs.Seen.{documents_at}
use Rattle.reached_sites.specs.Visits.{site_of, Adds}
use Rattle.reached_sites.proofs.leads.push_applied.Goals as goal

pub returns : goal.returns
returns c =
    let v = c.args.visit.now in
    let own = documents_in v.site.resolver in
    let site = below (documents_at v.site) (site_of v) in
    let same = ap (map (place_of site)) c.as_slice.ensures.value ∙ c.in_ok-found.ensures site in
    on_ok_weaker c.push_subschemas.result (λ h. subst (λ (ss : List Site). Adds own c.args.leads.now.items c.push_subschemas.new.leads.items ss) same h) c.push_subschemas.ensures
