use Rattle.std.proofs.Common.{sym, refl}
use Rattle.std.proofs.lemmas.Result.{on_ok_weaker}
use Rattle.engine_faults.proofs.ToldFaults.{tells_cut, tells_decided}
use Rattle.serde_json.specs.View.{view}
use Rattle.schema_engine.proofs.Beginning.{ready_at, led_at}
use Rattle.engine_faults.proofs.tell.tell.Goals as goal

pub tell_value-requires-clause-known : goal.tell_value-requires-clause-known
tell_value-requires-clause-known g c =
    ready_at g.K.Validate.knows g.K.Validate.shape c.args.graph.now.nodes.items c.args.node _ (view c.args.value.now) c.requires.known c.requires.begin

pub tell_value-requires-clause-led : goal.tell_value-requires-clause-led
tell_value-requires-clause-led g c =
    led_at g.K.Validate.knows g.K.Validate.shape c.args.graph.now.nodes.items c.args.node _ (view c.args.value.now) c.requires.begin

pub returns-clause-cut : goal.returns-clause-cut
returns-clause-cut g c =
    on_ok_weaker c.tell_value.result
    (λ told rest. tells_cut g.K.Validate.shape _ c.args.graph.now.nodes.items c.args.value c.args.node _ _ c.args.observer.now c.tell_value.new.observer refl refl (sym c.new-start.ensures) (sym c.new-start.ensures) (told rest) c.args.graph.now.sound)
    c.tell_value.ensures.heard

pub returns-clause-decided : goal.returns-clause-decided
returns-clause-decided g c =
    on_ok_weaker c.tell_value.result
    (λ told rest. tells_decided g.K.Validate.shape _ c.args.graph.now.nodes.items c.args.value c.args.node _ _ c.args.observer.now c.tell_value.new.observer refl refl (sym c.new-start.ensures) (sym c.new-start.ensures) (told rest))
    c.tell_value.ensures.heard
