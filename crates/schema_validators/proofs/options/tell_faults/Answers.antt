use Rattle.std.proofs.Common.{◌≡◌, ◌∙◌, [], Some, inl, ap₂, refl, sym, subst}
use Rattle.schema_definitions.specs.Lookup.{lookup}
use Rattle.document_sources.specs.Causes.{RefusesLookup}
use Rattle.reached_sites.specs.Passed.{documents_in, base_of, target_in}
use Rattle.schema_registries.specs.Seen.{documents_in_registry}
use Rattle.schema_registries.specs.Roots.{Root, Finds, root_on}
use Rattle.schema_validators.proofs.Telling.{told_by, untold_by, none_beside}
use Rattle.schema_validators.proofs.options.tell_faults.Goals as goal

pub returns-in-Ok-clause-told : goal.returns-in-Ok-clause-told
returns-in-Ok-clause-told g c =
    let registry = c.args.registry.now in
    let r : Root = root_on registry c.args.root.now in
    let resolver = c.in_ok-resolver.resolver in
    let t = target_in c.in-Ok.found in
    let documents : documents_in resolver ≡ documents_in_registry registry = c.in_ok-resolver.ensures.documents ∙ c.registry.ensures in
    let base : base_of resolver ≡ r.base = c.in_ok-resolver.ensures.base ∙ c.in_ok-clone.ensures.cases ∙ c.base-base.ensures in
    let found : Finds r t = sym (ap₂ (λ ds b. lookup ds b c.args.root.now) documents base) ∙ c.in-Ok.ensures.ok in
    let is : registry.parent ≡ Some c.in-Some.parent.now = sym c.in-Some.ensures in
    told_by (g.P.PatternMaker.patterns c.args.maker.now) c.args.node_limit registry r c.in-Some.parent.now is t found c.tell_by_meta_schema.result c.tell_by_meta_schema.ensures.told

pub returns-in-Ok-clause-refused : goal.returns-in-Ok-clause-refused
returns-in-Ok-clause-refused g c =
    let registry = c.args.registry.now in
    let r : Root = root_on registry c.args.root.now in
    let resolver = c.in_ok-resolver.resolver in
    let t = target_in c.in-Ok.found in
    let documents : documents_in resolver ≡ documents_in_registry registry = c.in_ok-resolver.ensures.documents ∙ c.registry.ensures in
    let base : base_of resolver ≡ r.base = c.in_ok-resolver.ensures.base ∙ c.in_ok-clone.ensures.cases ∙ c.base-base.ensures in
    let found : Finds r t = sym (ap₂ (λ ds b. lookup ds b c.args.root.now) documents base) ∙ c.in-Ok.ensures.ok in
    let is : registry.parent ≡ Some c.in-Some.parent.now = sym c.in-Some.ensures in
    untold_by (g.P.PatternMaker.patterns c.args.maker.now) c.args.node_limit registry r c.in-Some.parent.now is t found c.tell_by_meta_schema.result c.tell_by_meta_schema.ensures.refused

pub returns-clause-refused : goal.returns-clause-refused
returns-clause-refused g c =
    let registry = c.args.registry.now in
    let r : Root = root_on registry c.args.root.now in
    let resolver = c.in_ok-resolver.resolver in
    let documents : documents_in resolver ≡ documents_in_registry registry = c.in_ok-resolver.ensures.documents ∙ c.registry.ensures in
    let base : base_of resolver ≡ r.base = c.in_ok-resolver.ensures.base ∙ c.in_ok-clone.ensures.cases ∙ c.base-base.ensures in
    let same : lookup (documents_in resolver) (base_of resolver) r.reference ≡ lookup r.documents r.base r.reference = ap₂ (λ ds b. lookup ds b c.args.root.now) documents base in
    inl (c.of_root.ensures.alone r (sym c.base-base.ensures) refl (subst (λ x. RefusesLookup x c.in-Err.error) same c.in-Err.ensures.refused))

pub returns-in-Ok-clause-none : goal.returns-in-Ok-clause-none
returns-in-Ok-clause-none g c =
    none_beside c.tell_by_meta_schema.result c.args.registry.now.parent c.in-Some.parent.now (λ v. v.items ≡ []) (sym c.in-Some.ensures)
