use Rattle.reading_laws.proofs.Reading.{alike_have_keywords}
use Rattle.reading_laws.proofs.sites.alike_have_keywords.Goals as goal

pub returns : goal.returns
returns c = alike_have_keywords
