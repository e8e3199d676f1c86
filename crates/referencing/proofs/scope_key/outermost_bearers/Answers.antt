use Rattle.std.proofs.Common.{◌∙◌, map, string_bytes, ap}
use Rattle.std.proofs.lemmas.List.{take_all}
use Rattle.schema_definitions.specs.CompileKeys.{outermost_bearer}
use Rattle.referencing.specs.Seen.{documents_of}
use Rattle.referencing.proofs.ToldLemmas.{names-told}
use Rattle.referencing.proofs.scope_key.outermost_bearers.Goals as goal

pub returns : goal.returns
returns c =
    let registry = c.args.registry.now in
    let bearer = outermost_bearer (documents_of registry) (map (λ u. u.value) c.args.scope.now) in
    c.loop-name.invariant
    ∙ ap (λ names. map bearer (map string_bytes names)) (take_all c.loop-name.name-index c.dynamic_names-name-items.result.now c.loop-name-test.false)
    ∙ ap (map bearer) (c.dynamic_names-name-items.ensures ∙ names-told registry.known registry.index (documents_of registry) registry.stands.told registry.stands.indexed)
