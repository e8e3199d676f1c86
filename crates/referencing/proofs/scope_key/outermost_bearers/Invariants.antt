use Rattle.std.proofs.Common.{◌≡◌, map, take, option_map, string_bytes}
use Rattle.schema_definitions.specs.CompileKeys.{outermost_bearer}
use Rattle.referencing.specs.Seen.{documents_of}
use Rattle.referencing.proofs.scope_key.outermost_bearers.Given as goal

abbrev pub invariant-loop-name : goal.invariant-loop-name
invariant-loop-name l =
    map (option_map (λ u. u.value)) l.bearers.items
    ≡ map (outermost_bearer (documents_of l.registry) (map (λ u. u.value) l.scope)) (map string_bytes (take l.name-index l.name-items))
