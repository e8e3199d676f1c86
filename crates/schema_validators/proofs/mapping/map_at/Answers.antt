use Rattle.std.proofs.Common.{◌≡◌, ◌∙◌, inl, ap₂, refl, sym, subst}
use Rattle.schema_definitions.specs.Lookup.{lookup}
use Rattle.document_sources.specs.Causes.{RefusesLookup}
use Rattle.reached_sites.specs.Passed.{documents_in, base_of, target_in}
use Rattle.schema_registries.specs.Seen.{documents_in_registry}
use Rattle.schema_registries.specs.Roots.{Root, Finds, root_on}
use Rattle.schema_validators.proofs.Rooting.{map-there, more-there}
use Rattle.schema_validators.proofs.mapping.map_at.Goals as goal

pub returns-in-Ok-clause-built : goal.returns-in-Ok-clause-built
returns-in-Ok-clause-built g c =
    let registry = c.args.registry.now in
    let r : Root = root_on registry c.args.root.now in
    let resolver = c.in_ok-resolver.resolver in
    let t = target_in c.in-Ok.found in
    let documents : documents_in resolver ≡ documents_in_registry registry = c.in_ok-resolver.ensures.documents ∙ c.registry.ensures in
    let base : base_of resolver ≡ r.base = c.in_ok-resolver.ensures.base ∙ c.in_ok-clone.ensures.cases ∙ c.base-base.ensures in
    let found : Finds r t = sym (ap₂ (λ ds b. lookup ds b c.args.root.now) documents base) ∙ c.in-Ok.ensures.ok in
    map-there (g.P.PatternMaker.patterns c.args.maker.now) registry c.args.root.now c.args.node_limit t found c.own.result.now c.own.ensures
    c.document.result.now c.document.ensures c.map_of.result c.map_of.ensures.built

pub returns-in-Ok-clause-refused : goal.returns-in-Ok-clause-refused
returns-in-Ok-clause-refused g c =
    let registry = c.args.registry.now in
    let r : Root = root_on registry c.args.root.now in
    let resolver = c.in_ok-resolver.resolver in
    let t = target_in c.in-Ok.found in
    let documents : documents_in resolver ≡ documents_in_registry registry = c.in_ok-resolver.ensures.documents ∙ c.registry.ensures in
    let base : base_of resolver ≡ r.base = c.in_ok-resolver.ensures.base ∙ c.in_ok-clone.ensures.cases ∙ c.base-base.ensures in
    let found : Finds r t = sym (ap₂ (λ ds b. lookup ds b c.args.root.now) documents base) ∙ c.in-Ok.ensures.ok in
    more-there (g.P.PatternMaker.patterns c.args.maker.now) registry c.args.root.now c.args.node_limit t found c.own.result.now c.own.ensures
    c.document.result.now c.document.ensures c.map_of.result c.map_of.ensures.refused

pub returns-clause-refused : goal.returns-clause-refused
returns-clause-refused g c =
    let registry = c.args.registry.now in
    let r : Root = root_on registry c.args.root.now in
    let resolver = c.in_ok-resolver.resolver in
    let documents : documents_in resolver ≡ documents_in_registry registry = c.in_ok-resolver.ensures.documents ∙ c.registry.ensures in
    let base : base_of resolver ≡ r.base = c.in_ok-resolver.ensures.base ∙ c.in_ok-clone.ensures.cases ∙ c.base-base.ensures in
    let same : lookup (documents_in resolver) (base_of resolver) r.reference ≡ lookup r.documents r.base r.reference = ap₂ (λ ds b. lookup ds b c.args.root.now) documents base in
    inl (c.of_root.ensures.alone r (sym c.base-base.ensures) refl (subst (λ x. RefusesLookup x c.in-Err.error) same c.in-Err.ensures.refused))
