use Rattle.serde_json.specs.View.{view}
use Rattle.applicators.proofs.CombinedLemmas.{decides}
use Rattle.applicators.proofs.combined.Applicator.accepts.Goals as goal

pub returns : goal.returns
returns c = decides c.args.self.now (view c.args.value.now) c.args.asked c.args.accepted c.decides.result c.decides.ensures
