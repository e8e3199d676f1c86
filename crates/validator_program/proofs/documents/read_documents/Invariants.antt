use Rattle.std.proofs.Common.{◌∷◌, map}
use Rattle.schema_registries.specs.Seen.{documents_given}
use Rattle.validator_program.specs.Given.{pair_of}
use Rattle.validator_program.proofs.Added.{AddsSoFar}
use Rattle.validator_program.proofs.documents.read_documents.Given as goal

abbrev pub invariant-loop-pair : goal.invariant-loop-pair
invariant-loop-pair g l = AddsSoFar (g.F.SchemaFiles.held l.fn.files) ((l.fn.base, l.fn.schema) ∷ map pair_of l.further) l.further l.pair-index (documents_given l.documents)
