use Rattle.std.proofs.Common.{◌∙◌, sym, ap, map, List, ℕ, option_map}
use Rattle.schema_definitions.specs.Bearers.{dynamically_anchored}
use Rattle.schema_definitions.specs.CompileKeys.{outermost_bearer}
use Rattle.referencing.specs.Seen.{documents_of}
use Rattle.referencing.proofs.DynamicLemmas.{by_outer}
use Rattle.referencing.proofs.KeptLemmas.{if-ok}
use Rattle.referencing.proofs.dynamic.outermost_standing.Goals as goal

pub returns-in-Some : goal.returns-in-Some
returns-in-Some c =
    let documents = documents_of c.args.registry.now in
    let found = λ (u : List ℕ). dynamically_anchored documents u c.args.name.now in
    let outermost = outermost_bearer documents (map (λ u. u.value) c.args.scope.now) c.args.name.now in
    let there = ap (option_map (λ u. u.now.value)) (sym c.in-Some.is) ∙ c.outermost_bearer.ensures in
    if-ok _ _ c.dynamically_anchored.result
    (λ s e. e ∙ ap found (c.as_str.ensures.value ∙ c.deref.ensures) ∙ by_outer found c.args.innermost.now c.in-Some.resource.now.value outermost there)
    c.dynamically_anchored.ensures
