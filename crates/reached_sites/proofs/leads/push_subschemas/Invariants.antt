use Rattle.std.proofs.Common.{List, map, drop}
use Rattle.referencing.specs.Resolved.{documents_in}
use Rattle.schema_definitions.specs.Sites.{below}
use Rattle.applicators.specs.Shapes.{place_of}
use Rattle.schema_sites.specs.Seen.{documents_at}
use Rattle.reached_sites.specs.Visits.{site_of, Adds}
use Rattle.reached_sites.specs.declared.visit.Visit.{Visit}
use Rattle.reached_sites.proofs.leads.push_subschemas.Given as goal

abbrev pub invariant-loop-subschema : goal.invariant-loop-subschema
invariant-loop-subschema l =
    (fin : List Visit)
    → Adds (documents_in l.visit.site.resolver) l.leads.items fin (map (place_of (below (documents_at l.visit.site) (site_of l.visit))) (drop l.subschema-index l.found))
    → Adds (documents_in l.visit.site.resolver) l.fn.leads.items fin (map (place_of (below (documents_at l.visit.site) (site_of l.visit))) l.found)
