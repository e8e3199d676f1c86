use Rattle.serde_json.specs.View.{view}
use Rattle.schema_engine.proofs.situation.Situation.tell.Goals as goal

pub returns-then-branch : goal.returns-then-branch
returns-then-branch c = record {
  told = λ said stands. c.in_ok-tell_paths.ensures.told c.if-branch.true (record { kind = said; value = view c.args.value.now });
}
