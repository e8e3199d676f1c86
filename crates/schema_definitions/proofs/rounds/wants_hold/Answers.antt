use Rattle.schema_definitions.proofs.RoundExamples.{wants_hold}
use Rattle.schema_definitions.proofs.rounds.wants_hold.Goals as goal

pub returns : goal.returns
returns c = wants_hold
