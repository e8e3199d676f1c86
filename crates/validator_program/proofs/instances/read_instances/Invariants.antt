use Rattle.validator_program.proofs.NamedFiles.{HeldSoFar}
use Rattle.validator_program.proofs.instances.read_instances.Given as goal

abbrev pub invariant-loop-name : goal.invariant-loop-name
invariant-loop-name g l = HeldSoFar (g.F.SchemaFiles.held l.files) l.names l.name-index l.instances.items
