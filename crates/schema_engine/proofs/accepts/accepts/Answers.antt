use Rattle.std.proofs.lemmas.Result.{IfOk-weaker}
use Rattle.schema_engine.proofs.Answered.{is_cut, is_decided}
use Rattle.serde_json.specs.View.{view}
use Rattle.schema_engine.proofs.Beginning.{ready_at, led_at}
use Rattle.schema_engine.proofs.accepts.accepts.Goals as goal

pub accepts_node-requires-clause-known : goal.accepts_node-requires-clause-known
accepts_node-requires-clause-known g c =
    ready_at g.K.Validate.knows g.K.Validate.shape c.args.graph.now.nodes.items c.args.node _ (view c.args.value.now) c.requires.known c.requires.begin

pub accepts_node-requires-clause-led : goal.accepts_node-requires-clause-led
accepts_node-requires-clause-led g c =
    led_at g.K.Validate.knows g.K.Validate.shape c.args.graph.now.nodes.items c.args.node _ (view c.args.value.now) c.requires.begin

pub returns-clause-cut : goal.returns-clause-cut
returns-clause-cut g c =
    IfOk-weaker c.accepts_node.result _ _ (λ b tells rest. is_cut g.K.Validate.shape _ c.args.graph.now.nodes.items c.args.value c.args.node _ b (tells rest) c.args.graph.now.sound) c.accepts_node.ensures.verdict

pub returns-clause-decided : goal.returns-clause-decided
returns-clause-decided g c =
    IfOk-weaker c.accepts_node.result _ _ (λ b tells rest. is_decided g.K.Validate.shape _ c.args.graph.now.nodes.items c.args.value c.args.node _ b (tells rest)) c.accepts_node.ensures.verdict
