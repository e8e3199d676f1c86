use Rattle.std.proofs.lemmas.Result.{on_ok_weaker}
use Rattle.reached_sites.specs.Visits.{site_of}
use Rattle.reached_sites.proofs.Walking.{own_of}
use Rattle.compiled_graphs.proofs.Told.{tells-other}
use Rattle.compiled_graphs.proofs.causes.push_of_other.Goals as goal

pub returns : goal.returns
returns c =
    let v = c.args.visit.now in
    on_ok_weaker c.push_some.result (λ grown makes. tells-other (own_of v) makes (site_of v) c.requires c.in_ok-cause.cause _ _ (c.in_ok-cause.ensures.read makes).tells grown) c.push_some.ensures
