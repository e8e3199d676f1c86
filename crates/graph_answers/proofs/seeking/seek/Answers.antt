use Rattle.serde_json.specs.View.{view}
use Rattle.schema_engine.proofs.Beginning.{ready_at, led_at}
use Rattle.graph_answers.proofs.seeking.seek.Goals as goal

pub seek_value-requires-clause-known : goal.seek_value-requires-clause-known
seek_value-requires-clause-known g c =
    ready_at g.K.Validate.knows g.K.Validate.shape c.args.graph.now.nodes.items c.args.start _ (view c.args.value.now) c.requires.known c.requires.begin

pub seek_value-requires-clause-led : goal.seek_value-requires-clause-led
seek_value-requires-clause-led g c =
    led_at g.K.Validate.knows g.K.Validate.shape c.args.graph.now.nodes.items c.args.start _ (view c.args.value.now) c.requires.begin
