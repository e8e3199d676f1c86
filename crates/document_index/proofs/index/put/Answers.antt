use Rattle.std.proofs.Common.{string_bytes}
use Rattle.document_index.specs.Located.{kept_of}
use Rattle.document_index.specs.Seen.{located_of}
use Rattle.document_index.proofs.NamedLemmas.{named-put}
use Rattle.document_index.proofs.index.put.Goals as goal

pub returns : goal.returns
returns c =
    named-put c.args.name.now (string_bytes c.in_ok-from_str.field-0) c.args.names.now c.insert.new.self c.in_ok-bearer_at.field-0 (kept_of (located_of c.args.standing.now))
    c.in_ok-from_str.ensures.ok c.in_ok-bearer_at.ensures c.in_ok-insert.ensures.updates
