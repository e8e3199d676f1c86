use Rattle.std.proofs.Common.{map, take, string_bytes}
use Rattle.schema_registries.specs.Seen.{documents_shared}
use Rattle.schema_validators.specs.Maps.{entries_in, Enters}
use Rattle.schema_validators.proofs.mapping.validators_at.Given as goal

abbrev pub invariant-loop-position : goal.invariant-loop-position
invariant-loop-position g l =
    Enters (documents_shared l.registry) l.document l.shared.value (map string_bytes (take l.position l.pointers)) (take l.position l.starts) (entries_in l.map)
