use Rattle.std.proofs.Common.{◌≡◌, drop}
use Rattle.referencing.specs.Chains.{stand_of, IsOver}
use Rattle.referencing.specs.Followed.{followed, begun}
use Rattle.referencing.specs.Seen.{documents_of}
use Rattle.referencing.proofs.following.follow.Given as goal

abbrev pub invariant-loop-step : goal.invariant-loop-step
invariant-loop-step l = record {
  along : followed l.registry.siblings (documents_of l.registry) (stand_of l.chain) (drop l.step-index l.steps) ≡ followed l.registry.siblings (documents_of l.registry) (begun l.fn.base) l.steps;
  over : IsOver l.registry.siblings (documents_of l.registry) l.chain;
}
