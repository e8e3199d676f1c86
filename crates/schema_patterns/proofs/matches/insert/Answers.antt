use Rattle.schema_patterns.proofs.Found.{text_inserted}
use Rattle.schema_patterns.proofs.matches.insert.Goals as goal

pub returns : goal.returns
returns c = text_inserted c.args.texts.now c.insert.new.self c.in_ok-from_str.field-0 c.args.text.now c.in_ok-from_str.ensures.ok c.in_ok-insert.ensures.updates
