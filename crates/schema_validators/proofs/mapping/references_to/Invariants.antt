use Rattle.std.proofs.Common.{◌≡◌, map, take, string_bytes}
use Rattle.schema_registries.specs.Pointers.{reference_to}
use Rattle.schema_validators.proofs.mapping.references_to.Given as goal

abbrev pub invariant-loop-pointer : goal.invariant-loop-pointer
invariant-loop-pointer l = map string_bytes l.references.items ≡ map reference_to (map string_bytes (take l.pointer-index l.pointers))
