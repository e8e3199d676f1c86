use Rattle.serde_json.specs.View.{members_view}
use Rattle.assertions.proofs.EntryLemmas.{Left}
use Rattle.assertions.proofs.names.first_refused.Given as goal

abbrev pub invariant-loop-name : goal.invariant-loop-name
invariant-loop-name l = Left (members_view l.entries.entries) (members_view l.name-iterator)
