use Rattle.document_laws.proofs.Agreeing.{agreeing_tell_places}
use Rattle.document_laws.proofs.dialects.agreeing_tell_places.Goals as goal

pub returns : goal.returns
returns c = agreeing_tell_places
