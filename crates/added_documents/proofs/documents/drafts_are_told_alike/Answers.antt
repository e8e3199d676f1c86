use Rattle.added_documents.proofs.Drafts.{drafts_are_told_alike}
use Rattle.added_documents.proofs.documents.drafts_are_told_alike.Goals as goal

pub returns : goal.returns
returns c = drafts_are_told_alike
