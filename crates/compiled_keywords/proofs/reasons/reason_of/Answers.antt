use Rattle.serde_json.specs.View.{view}
use Rattle.compiled_keywords.proofs.reasons.reason_of.Goals as goal

pub returns : goal.returns
returns c m so = record { kind = c.in_ok-kind.ensures m (view c.args.situation.now.value.now) so; value = c.value_of-value.ensures }
