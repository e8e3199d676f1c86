use Rattle.serde_json.specs.View.{view}
use Rattle.assertions.specs.Wrong.{kind_of}
use Rattle.compiled_keywords.proofs.TellLemmas.{tells_right}
use Rattle.compiled_keywords.proofs.notes.tell_unless.Goals as goal

pub returns-then-accepted : goal.returns-then-accepted
returns-then-accepted c = tells_right c.args.situation.now c.args.keyword.now c.args.accepted (kind_of c.args.wrong) (view c.args.situation.now.value.now) c.args.observer.now c.if-accepted.true
