use Rattle.std.proofs.Common.{map}
use Rattle.document_index.specs.Seen.{document_of}
use Rattle.document_index.proofs.StageLemmas.{if_ok_weaker, none_told}
use Rattle.document_index.proofs.told.first_stage.Goals as goal

pub returns-clause-told : goal.returns-clause-told
returns-clause-told c = if_ok_weaker c.one_more.result (λ s next. next 0 (none_told c.none.result (map document_of c.args.documents.now) c.none.ensures)) c.one_more.ensures.next

pub returns-clause-anew : goal.returns-clause-anew
returns-clause-anew c = if_ok_weaker c.one_more.result (λ s anew. anew 0 (none_told c.none.result (map document_of c.args.documents.now) c.none.ensures)) c.one_more.ensures.anew
