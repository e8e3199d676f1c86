use Rattle.std.proofs.Common.{ap, ◌∙◌}
use Rattle.std.specs.Hash as fed
use Rattle.shared_lists.specs.Hashes.{marked}
use Rattle.schema_steps.specs.Parts.{part_fed}
use Rattle.schema_steps.specs.Steps.{step_part}
use Rattle.schema_steps.proofs.EqualLemmas.{marked-map}
use Rattle.schema_steps.proofs.path.PathHash.hash.Goals as goal

pub returns : goal.returns
returns g c = fed.fed_along _ _ _ (marked-map step_part part_fed c.self.inside.steps ∙ ap (marked part_fed) c.self.view_is) c.hash.ensures
