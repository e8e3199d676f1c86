use Rattle.serde_json.specs.View.{members_view}
use Rattle.applicator_reading.proofs.DependencyLemmas.{Left}
use Rattle.applicator_reading.proofs.dependencies.first_refused.Given as goal

abbrev pub invariant-loop-name : goal.invariant-loop-name
invariant-loop-name l = Left (members_view l.entries.entries) (members_view l.name-iterator)
