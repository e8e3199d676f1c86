use Rattle.std.proofs.Common.{◌≡◌, map}
use Rattle.schema_definitions.specs.Scopes.{end_of_run}
use Rattle.referencing.specs.Seen.{documents_of}
use Rattle.referencing.proofs.dynamic.end_of_run.Given as goal

abbrev pub invariant-loop-resource : goal.invariant-loop-resource
invariant-loop-resource l =
    end_of_run (documents_of l.registry) l.last.value (map (λ u. u.value) l.rest)
    ≡ end_of_run (documents_of l.registry) l.present.value (map (λ u. u.value) l.scope)
