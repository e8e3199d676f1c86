use Rattle.std.proofs.Common.{◌∙◌, ap}
use Rattle.schema_drafts.specs.Vocabularies.{custom}
use Rattle.schema_dialects.proofs.vocabulary.Vocabulary.named.Goals as goal

pub returns-in-Some : goal.returns-in-Some
returns-in-Some c = c.of_known.ensures ∙ c.in-Some.ensures

pub returns-in_ok-from_str-in-None : goal.returns-in_ok-from_str-in-None
returns-in_ok-from_str-in-None c = ap custom c.in_ok-from_str-in-None.ensures.ok ∙ c.in-None.ensures
