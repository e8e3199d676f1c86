use Rattle.std.proofs.Common.{ap₂, subst}
use Rattle.referencing.specs.Resolved.{target_in}
use Rattle.schema_definitions.specs.Sites.{Site}
use Rattle.reached_sites.specs.Roots.{root_behind}
use Rattle.reached_sites.specs.Visits.{Met}
use Rattle.reached_sites.proofs.Matching.{belongs-too}
use Rattle.compiled_graphs.proofs.starting.start_one.Goals as goal

pub returns-in-Ok : goal.returns-in-Ok
returns-in-Ok c =
    let t = target_in c.in-Ok.found in
    let there = ap₂ (λ base scope. root_behind base scope t) c.requires.base_is c.requires.scope in
    record {
      target = t;
      found = c.in-Ok.ensures.ok;
      visit = c.in_ok-visit-in-Ok.visit;
      met = subst (λ (s : Site). Met c.in_ok-visit-in-Ok.visit s) there c.in_ok-visit-in-Ok.ensures.met;
      belongs = belongs-too c.in_ok-visit-in-Ok.visit c.requires.documents c.in_ok-visit-in-Ok.ensures.belongs;
      adds = c.in_ok-put-in-Ok.ensures.grows;
      stands = c.in_ok-put-in-Ok.ensures.stands;
    }
