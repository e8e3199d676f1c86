use Rattle.std.proofs.Common.{◌≡◌, None, map, option_map, is_some}
use Rattle.schema_definitions.specs.Words.{or_else, last_that}
use Rattle.schema_definitions.specs.Bearers.{dynamically_anchored}
use Rattle.referencing.specs.Seen.{documents_of}
use Rattle.referencing.proofs.dynamic.outermost_bearer.Given as goal

abbrev pub invariant-loop-resource : goal.invariant-loop-resource
invariant-loop-resource l =
    or_else (last_that (λ u. is_some (dynamically_anchored (documents_of l.registry) u l.name)) (map (λ u. u.value) l.rest)) (option_map (λ u. u.now.value) l.outermost)
    ≡ or_else (last_that (λ u. is_some (dynamically_anchored (documents_of l.registry) u l.name)) (map (λ u. u.value) l.scope)) None
