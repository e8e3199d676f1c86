use Rattle.std.proofs.Common.{◌≡◌, ◌∙◌, Ok, sym, ap, subst}
use Rattle.std.specs.List.{list_all}
use Rattle.std.proofs.lemmas.Result.{IfOk-weaker}
use Rattle.schema_definitions.specs.Lookup.{lookup}
use Rattle.document_laws.specs.TargetLaws.{are_apart, contents_rise, by_reference}
use Rattle.fault_checks.specs.Passed.{documents_in, base_of, target_in}
use Rattle.schema_registries.specs.Seen.{documents_in_registry, documents_shared}
use Rattle.schema_registries.specs.Roots.{root_on}
use Rattle.fault_checks.proofs.ReadLemmas.{held_there, one_root}
use Rattle.fault_checks.proofs.reading.read_patterns.Goals as goal

pub patterns_at-requires : goal.patterns_at-requires
patterns_at-requires g c =
    let registry = c.args.registry.now in
    let resolver = c.in_ok-resolver.resolver in
    let own = documents_in c.in-Ok.found.resolver in
    let there : own ≡ documents_in_registry registry = c.in-Ok.ensures.documents ∙ c.in_ok-resolver.ensures.documents ∙ c.registry.ensures in
    record {
      placed = record {
        apart = ap are_apart there ∙ ap (λ o. are_apart (documents_shared o)) (sym c.own.ensures) ∙ c.documents_are_apart.ensures;
        rise = ap (list_all contents_rise) (there ∙ sym c.registry-in-Ok.ensures) ∙ c.names_rise.ensures;
        target = by_reference (base_of resolver) c.args.root.now (subst (λ ds. lookup ds (base_of resolver) c.args.root.now ≡ Ok (target_in c.in-Ok.found)) (sym c.in-Ok.ensures.documents) c.in-Ok.ensures.ok);
      };
    }

pub returns-in-Ok : goal.returns-in-Ok
returns-in-Ok g c =
    let registry = c.args.registry.now in
    let finds = g.P.Matcher.PatternMatcher.finds in
    let p = g.P.PatternMaker.patterns c.args.maker.now in
    let resolver = c.in_ok-resolver.resolver in
    let own = documents_in c.in-Ok.found.resolver in
    let t = target_in c.in-Ok.found in
    let there : own ≡ documents_in_registry registry = c.in-Ok.ensures.documents ∙ c.in_ok-resolver.ensures.documents ∙ c.registry.ensures in
    let base : base_of resolver ≡ registry.base = c.in_ok-resolver.ensures.base ∙ c.in_ok-clone.ensures.cases ∙ c.base.ensures in
    let found = subst (λ ds. lookup ds (base_of resolver) c.args.root.now ≡ Ok t) (sym c.in-Ok.ensures.documents) c.in-Ok.ensures.ok in
    let apart = ap are_apart there ∙ ap (λ o. are_apart (documents_shared o)) (sym c.own.ensures) ∙ c.documents_are_apart.ensures in
    let rise = ap (list_all contents_rise) (there ∙ sym c.registry-in-Ok.ensures) ∙ c.names_rise.ensures in
    IfOk-weaker c.patterns_at.result _ _
    (λ table h. held_there finds own (base_of resolver) c.args.root.now t found apart rise p table h (root_on registry c.args.root.now) (one_root c.args.root.now there base))
    c.patterns_at.ensures
