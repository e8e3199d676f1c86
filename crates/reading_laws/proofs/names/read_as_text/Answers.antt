use Rattle.reading_laws.proofs.NameTexts.{read_as_text}
use Rattle.reading_laws.proofs.names.read_as_text.Goals as goal

pub returns : goal.returns
returns g c = read_as_text
