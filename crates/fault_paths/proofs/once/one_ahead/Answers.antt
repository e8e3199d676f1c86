use Rattle.std.proofs.Common.{subst}
use Rattle.serde_json.specs.View.{view}
use Rattle.fault_paths.specs.Laws.{NamesRiseIn, BranchesFitIn}
use Rattle.fault_paths.proofs.OnceFacts.{one_ahead}
use Rattle.fault_paths.proofs.once.one_ahead.Goals as goal

pub returns : goal.returns
returns c =
    one_ahead c.args.applicator.now (view c.args.value.now) (subst NamesRiseIn c.asks.ensures c.schemas_stand.ensures.names) (subst BranchesFitIn c.asks.ensures c.schemas_stand.ensures.branches)
    c.indexes_fit.ensures c.members_rise.ensures
