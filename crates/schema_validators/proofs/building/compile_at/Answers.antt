use Rattle.std.proofs.Common.{◌≡◌, ◌∙◌, Ok, ap, ap₂, sym, subst, refl}
use Rattle.std.specs.List.{list_all}
use Rattle.schema_definitions.specs.Lookup.{lookup}
use Rattle.schema_definitions.specs.Sites.{root_site}
use Rattle.document_sources.specs.Causes.{RefusesLookup}
use Rattle.schema_patterns.specs.Tables.{texts_of_table}
use Rattle.reached_sites.specs.Passed.{documents_in, base_of, target_in}
use Rattle.schema_registries.specs.Seen.{documents_shared}
use Rattle.compiled_graphs.specs.First.{RefusesFirst}
use Rattle.schema_registries.specs.Roots.{Root}
use Rattle.document_laws.specs.TargetLaws.{are_apart, contents_rise, by_reference}
use Rattle.schema_validators.specs.Seen.{root_of}
use Rattle.schema_validators.proofs.Placing.{sound_there, within_there, patterns_there, means_there, one_root}
use Rattle.schema_validators.proofs.building.compile_at.Goals as goal

pub returns-in-Err-clause-refused : goal.returns-in-Err-clause-refused
returns-in-Err-clause-refused g c =
    let p = g.P.PatternMaker.patterns c.args.maker.now in
    let r : Root = root_of (documents_shared c.args.registry.now) c.args.base.now c.args.root.now in
    let resolver = c.in_ok-resolver.resolver in
    let documents : documents_in resolver ≡ documents_shared c.args.registry.now = c.in_ok-resolver.ensures.documents ∙ c.registry.ensures.documents in
    let base : base_of resolver ≡ r.base = c.in_ok-resolver.ensures.base ∙ c.in_ok-clone.ensures.cases in
    let same : lookup (documents_in resolver) (base_of resolver) r.reference ≡ lookup r.documents r.base r.reference = ap₂ (λ ds b. lookup ds b r.reference) documents base in
    c.of_root.ensures.build p c.args.node_limit r refl refl (subst (λ x. RefusesLookup x c.in-Err.error) same c.in-Err.ensures.refused)

pub returns-clause-refused : goal.returns-clause-refused
returns-clause-refused g c =
    let p = g.P.PatternMaker.patterns c.args.maker.now in
    let r : Root = root_of (documents_shared c.args.registry.now) c.args.base.now c.args.root.now in
    let resolver = c.in_ok-resolver.resolver in
    let documents : documents_in resolver ≡ documents_shared c.args.registry.now = c.in_ok-resolver.ensures.documents ∙ c.registry.ensures.documents in
    let base : base_of resolver ≡ r.base = c.in_ok-resolver.ensures.base ∙ c.in_ok-clone.ensures.cases in
    let same : lookup (documents_in resolver) (base_of resolver) r.reference ≡ lookup r.documents r.base r.reference = ap₂ (λ ds b. lookup ds b r.reference) documents base in
    let target = target_in c.in-Ok.found in
    let there : documents_in c.in-Ok.found.resolver ≡ documents_shared c.args.registry.now = c.in-Ok.ensures.documents ∙ documents in
    c.of_schema.ensures p c.args.node_limit r target (sym same ∙ c.in-Ok.ensures.ok)
    (subst (λ own. RefusesFirst own p.makes (root_site target) c.args.node_limit c.in-Err-build.cause) there c.in-Err-build.ensures.first)

pub build-requires : goal.build-requires
build-requires g c =
    let resolver = c.in_ok-resolver.resolver in
    let own = documents_in c.in-Ok.found.resolver in
    let there : own ≡ documents_shared c.args.registry.now = c.in-Ok.ensures.documents ∙ c.in_ok-resolver.ensures.documents ∙ c.registry.ensures.documents in
    record {
      placed = record {
        apart = ap are_apart there ∙ c.documents_are_apart.ensures;
        rise = ap (list_all contents_rise) (there ∙ sym c.registry-2.ensures.documents) ∙ c.names_rise.ensures;
        target = by_reference (base_of resolver) c.args.root.now (subst (λ ds. lookup ds (base_of resolver) c.args.root.now ≡ Ok (target_in c.in-Ok.found)) (sym c.in-Ok.ensures.documents) c.in-Ok.ensures.ok);
      };
    }

pub returns-in-Ok-build-clause-made : goal.returns-in-Ok-build-clause-made
returns-in-Ok-build-clause-made g c =
    let p = g.P.PatternMaker.patterns c.args.maker.now in
    let resolver = c.in_ok-resolver.resolver in
    let own = documents_in c.in-Ok.found.resolver in
    let t = target_in c.in-Ok.found in
    let there : own ≡ documents_shared c.args.registry.now = c.in-Ok.ensures.documents ∙ c.in_ok-resolver.ensures.documents ∙ c.registry.ensures.documents in
    let found = subst (λ ds. lookup ds (base_of resolver) c.args.root.now ≡ Ok t) (sym c.in-Ok.ensures.documents) c.in-Ok.ensures.ok in
    let apart = ap are_apart there ∙ c.documents_are_apart.ensures in
    let rise = ap (list_all contents_rise) (there ∙ sym c.registry-2.ensures.documents) ∙ c.names_rise.ensures in
    let one = one_root there (c.in_ok-resolver.ensures.base ∙ c.in_ok-clone.ensures.cases) refl in
    record {
      sound = sound_there own (base_of resolver) c.args.root.now t found apart rise p (λ placed. c.in-Ok-build.ensures.accepted) _ one;
      means = means_there own (base_of resolver) c.args.root.now t found apart rise p c.in-Ok-build.compiled.schemas.graph.nodes.items c.in-Ok-build.compiled.start c.in-Ok-build.ensures.linked _ one;
      patterns = patterns_there own (base_of resolver) c.args.root.now t found apart rise p (texts_of_table c.in-Ok-build.compiled.schemas.table) (λ placed. c.in-Ok-build.ensures.patterns) _ one;
      made = c.in-Ok-build.ensures.made;
    }

pub returns-in-Ok-build-clause-within : goal.returns-in-Ok-build-clause-within
returns-in-Ok-build-clause-within g c =
    let p = g.P.PatternMaker.patterns c.args.maker.now in
    let resolver = c.in_ok-resolver.resolver in
    let own = documents_in c.in-Ok.found.resolver in
    let t = target_in c.in-Ok.found in
    let there : own ≡ documents_shared c.args.registry.now = c.in-Ok.ensures.documents ∙ c.in_ok-resolver.ensures.documents ∙ c.registry.ensures.documents in
    let found = subst (λ ds. lookup ds (base_of resolver) c.args.root.now ≡ Ok t) (sym c.in-Ok.ensures.documents) c.in-Ok.ensures.ok in
    let apart = ap are_apart there ∙ c.documents_are_apart.ensures in
    let rise = ap (list_all contents_rise) (there ∙ sym c.registry-2.ensures.documents) ∙ c.names_rise.ensures in
    let one = one_root there (c.in_ok-resolver.ensures.base ∙ c.in_ok-clone.ensures.cases) refl in
    within_there own (base_of resolver) c.args.root.now t found apart rise p c.args.node_limit (λ placed. c.in-Ok-build.ensures.within) _ one
