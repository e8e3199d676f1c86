use Rattle.std.specs.BTreeMap.{get_by_text}
use Rattle.document_index.specs.Indexes.{bearer_of, bearer_in}
use Rattle.document_index.proofs.NamedLemmas.{lent}
use Rattle.document_index.proofs.index.Index.bearer.Goals as goal

pub returns : goal.returns
unfolding bearer_in
returns c = lent bearer_of c.get.result (get_by_text c.args.self.now.by_uri c.args.uri.now) c.get.ensures.value
