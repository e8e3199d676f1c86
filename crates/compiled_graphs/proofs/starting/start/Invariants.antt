use Rattle.std.proofs.Common.{take, map, string_bytes}
use Rattle.referencing.specs.Resolved.{base_of, documents_in}
use Rattle.compiled_graphs.proofs.Begun.{Starting}
use Rattle.compiled_graphs.proofs.starting.start.Given as goal

abbrev pub invariant-loop-reference : goal.invariant-loop-reference
invariant-loop-reference l = record {
  starting : Starting (documents_in l.resolver) (base_of l.resolver) (map string_bytes (take l.reference-index l.references)) l.visits.list.items l.starts.items;
}
