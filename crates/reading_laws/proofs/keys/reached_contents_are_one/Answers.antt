use Rattle.reading_laws.proofs.One.{reached_contents_are_one}
use Rattle.reading_laws.proofs.keys.reached_contents_are_one.Goals as goal

pub returns : goal.returns
returns c = reached_contents_are_one
