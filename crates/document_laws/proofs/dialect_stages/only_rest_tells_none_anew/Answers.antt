use Rattle.document_laws.proofs.Told.{only_rest_tells_none_anew}
use Rattle.document_laws.proofs.dialect_stages.only_rest_tells_none_anew.Goals as goal

pub returns : goal.returns
returns c = only_rest_tells_none_anew
