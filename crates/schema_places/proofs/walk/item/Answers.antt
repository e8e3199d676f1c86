use Rattle.std.proofs.Common.{sym, ◌∙◌}
use Rattle.serde_json.specs.View.{view}
use Rattle.schema_places.proofs.ListLemmas.{gone}
use Rattle.schema_places.proofs.walk.item.Goals as goal

pub returns-in-None-clause-stopped : goal.returns-in-None-clause-stopped
returns-in-None-clause-stopped c =
    gone c.args.token.now (view c.args.list.now) (view c.in_ok-item.item.now) c.requires (sym c.parse_index.ensures ∙ c.in-None.is) c.in_ok-item.ensures
