use Rattle.document_laws.proofs.Placing.{places_are_one}
use Rattle.document_laws.proofs.places.places_are_one.Goals as goal

pub returns : goal.returns
returns c = places_are_one
