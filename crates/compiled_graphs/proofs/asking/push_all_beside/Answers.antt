use Rattle.std.proofs.Common.{sym, subst}
use Rattle.std.proofs.lemmas.Result.{on_ok_weaker}
use Rattle.referencing.specs.Resolved.{documents_in}
use Rattle.schema_sites.specs.Seen.{documents_at}
use Rattle.schema_sites.specs.declared.keyword.Keyword.{Keyword}
use Rattle.reached_sites.specs.Visits.{site_of, Adds}
use Rattle.reached_sites.proofs.Matching.{adds-none, adds-both}
use Rattle.compiled_graphs.specs.Asked.{beside_of}
use Rattle.compiled_graphs.proofs.Found.{none-beside}
use Rattle.compiled_graphs.proofs.asking.push_all_beside.Goals as goal

pub returns-in_ok-push_beside-in-If : goal.returns-in_ok-push_beside-in-If
returns-in_ok-push_beside-in-If c =
    let v = c.args.visit.now in
    let own = documents_in v.site.resolver in
    on_ok_weaker c.push_beside-in-If.result
    (λ h. subst (λ (k : Keyword). Adds own c.args.visits.now.items c.push_beside-in-If.new.visits.items (beside_of (documents_at v.site) (site_of v) k)) (sym c.in-If.is)
    (adds-both own c.in_ok-push_beside-in-If.ensures h))
    c.push_beside-in-If.ensures

pub returns-in_default : goal.returns-in_default
returns-in_default c =
    let v = c.args.visit.now in
    let own = documents_in v.site.resolver in
    subst (λ ss. Adds own c.args.visits.now.items c.args.visits.now.items ss) (sym (none-beside (documents_at v.site) (site_of v) c.args.keyword.now c.in_default.not-If)) (adds-none own c.args.visits.now.items)
