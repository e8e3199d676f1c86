use Rattle.referencing.specs.Resolved.{documents_in}
use Rattle.reached_sites.proofs.Matching.{adds-both}
use Rattle.compiled_graphs.proofs.asking.push_asked.Goals as goal

pub returns-clause-adds : goal.returns-clause-adds
returns-clause-adds c = adds-both (documents_in c.args.visit.now.site.resolver) c.in_ok-push_leads.ensures c.in_ok-push_all_beside.ensures
