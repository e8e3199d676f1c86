use Rattle.std.proofs.Common.{string_bytes}
use Rattle.document_retrieval.proofs.KnownLemmas.{has-put}
use Rattle.document_retrieval.proofs.names.Names.put.Goals as goal

pub returns : goal.returns
returns c =
    has-put c.args.text.now (string_bytes c.in_ok-from_str.field-0) c.args.self.now.texts c.insert.new.self tt
    c.in_ok-from_str.ensures.ok c.in_ok-insert.ensures.updates
