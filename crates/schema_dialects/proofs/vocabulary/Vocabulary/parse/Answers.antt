use Rattle.std.proofs.Common.{◌∙◌, sym}
use Rattle.schema_dialects.proofs.vocabulary.Vocabulary.parse.Goals as goal

pub returns-clause-accepted : goal.returns-clause-accepted
returns-clause-accepted c = sym c.is_uri.ensures ∙ c.if-not-is_uri.false
