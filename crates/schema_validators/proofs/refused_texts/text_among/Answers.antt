use Rattle.schema_validators.proofs.RefusedTextLemmas.{text-found}
use Rattle.schema_validators.proofs.refused_texts.text_among.Goals as goal

pub returns-in-Some : goal.returns-in-Some
returns-in-Some c = text-found c.args.error.now c.args.causes.now c.in-Some.cause.now c.in-Some.ensures.among c.in-Some.ensures.named c.text_in.result c.text_in.ensures
