use Rattle.std.proofs.Common.{map, string_bytes, ap}
use Rattle.document_index.specs.Indexes.{dynamic_names_in}
use Rattle.document_index.proofs.index.Index.dynamic_names.Goals as goal

pub returns : goal.returns
unfolding dynamic_names_in
returns c = ap (map string_bytes) c.as_slice.ensures.value
