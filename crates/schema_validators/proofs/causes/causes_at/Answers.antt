use Rattle.std.proofs.Common.{◌≡◌, ◌∙◌, Ok, inl, ap, ap₂, sym, subst, refl}
use Rattle.std.specs.List.{list_all}
use Rattle.schema_definitions.specs.Lookup.{lookup}
use Rattle.document_sources.specs.Causes.{RefusesLookup}
use Rattle.reached_sites.specs.Passed.{documents_in, base_of, target_in}
use Rattle.schema_registries.specs.Seen.{documents_shared, documents_in_registry}
use Rattle.schema_registries.specs.Roots.{Root, root_on}
use Rattle.document_laws.specs.TargetLaws.{are_apart, contents_rise, by_reference}
use Rattle.schema_validators.proofs.Placing.{within_there, one_root}
use Rattle.schema_validators.proofs.Causing.{lists_there, none_there, refuses_there}
use Rattle.schema_validators.proofs.causes.causes_at.Goals as goal

pub returns-in-Err-clause-refused : goal.returns-in-Err-clause-refused
returns-in-Err-clause-refused g c =
    let r : Root = root_on c.args.registry.now c.args.root.now in
    let resolver = c.in_ok-resolver.resolver in
    let documents : documents_in resolver ≡ r.documents = c.in_ok-resolver.ensures.documents ∙ c.registry.ensures.documents ∙ ap documents_shared c.own-own.ensures in
    let base : base_of resolver ≡ r.base = c.in_ok-resolver.ensures.base ∙ c.in_ok-clone.ensures.cases ∙ c.base-base.ensures in
    let same : lookup (documents_in resolver) (base_of resolver) r.reference ≡ lookup r.documents r.base r.reference = ap₂ (λ ds b. lookup ds b r.reference) documents base in
    inl (c.of_root.ensures.alone r (sym c.base-base.ensures) refl (subst (λ x. RefusesLookup x c.in-Err.error) same c.in-Err.ensures.refused))

pub causes-requires : goal.causes-requires
causes-requires g c =
    let resolver = c.in_ok-resolver.resolver in
    let own = documents_in c.in-Ok.found.resolver in
    let there : own ≡ documents_shared c.own-own.result.now = c.in-Ok.ensures.documents ∙ c.in_ok-resolver.ensures.documents ∙ c.registry.ensures.documents in
    record {
      placed = record {
        apart = ap are_apart there ∙ c.documents_are_apart.ensures;
        rise = ap (list_all contents_rise) (there ∙ sym c.registry-2.ensures.documents) ∙ c.names_rise.ensures;
        target = by_reference (base_of resolver) c.args.root.now (subst (λ ds. lookup ds (base_of resolver) c.args.root.now ≡ Ok (target_in c.in-Ok.found)) (sym c.in-Ok.ensures.documents) c.in-Ok.ensures.ok);
      };
    }

pub returns-in-Ok-causes-clause-listed : goal.returns-in-Ok-causes-clause-listed
returns-in-Ok-causes-clause-listed g c =
    let p = g.P.PatternMaker.patterns c.args.maker.now in
    let resolver = c.in_ok-resolver.resolver in
    let own = documents_in c.in-Ok.found.resolver in
    let t = target_in c.in-Ok.found in
    let there : own ≡ documents_in_registry c.args.registry.now = c.in-Ok.ensures.documents ∙ c.in_ok-resolver.ensures.documents ∙ c.registry.ensures.documents ∙ ap documents_shared c.own-own.ensures in
    let found = subst (λ ds. lookup ds (base_of resolver) c.args.root.now ≡ Ok t) (sym c.in-Ok.ensures.documents) c.in-Ok.ensures.ok in
    lists_there own (base_of resolver) c.args.root.now t found p _ c.in-Ok-causes.ensures.told _ (one_root there (c.in_ok-resolver.ensures.base ∙ c.in_ok-clone.ensures.cases ∙ c.base-base.ensures) refl)

pub returns-in-Ok-causes-clause-sound : goal.returns-in-Ok-causes-clause-sound
returns-in-Ok-causes-clause-sound g c =
    let p = g.P.PatternMaker.patterns c.args.maker.now in
    let resolver = c.in_ok-resolver.resolver in
    let own = documents_in c.in-Ok.found.resolver in
    let t = target_in c.in-Ok.found in
    let there : own ≡ documents_in_registry c.args.registry.now = c.in-Ok.ensures.documents ∙ c.in_ok-resolver.ensures.documents ∙ c.registry.ensures.documents ∙ ap documents_shared c.own-own.ensures in
    let found = subst (λ ds. lookup ds (base_of resolver) c.args.root.now ≡ Ok t) (sym c.in-Ok.ensures.documents) c.in-Ok.ensures.ok in
    none_there own (base_of resolver) c.args.root.now t found p _ c.in-Ok-causes.ensures.told _ (one_root there (c.in_ok-resolver.ensures.base ∙ c.in_ok-clone.ensures.cases ∙ c.base-base.ensures) refl)

pub returns-in-Ok-causes-clause-within : goal.returns-in-Ok-causes-clause-within
returns-in-Ok-causes-clause-within g c =
    let p = g.P.PatternMaker.patterns c.args.maker.now in
    let resolver = c.in_ok-resolver.resolver in
    let own = documents_in c.in-Ok.found.resolver in
    let t = target_in c.in-Ok.found in
    let here : own ≡ documents_shared c.own-own.result.now = c.in-Ok.ensures.documents ∙ c.in_ok-resolver.ensures.documents ∙ c.registry.ensures.documents in
    let there : own ≡ documents_in_registry c.args.registry.now = here ∙ ap documents_shared c.own-own.ensures in
    let found = subst (λ ds. lookup ds (base_of resolver) c.args.root.now ≡ Ok t) (sym c.in-Ok.ensures.documents) c.in-Ok.ensures.ok in
    let apart = ap are_apart here ∙ c.documents_are_apart.ensures in
    let rise = ap (list_all contents_rise) (here ∙ sym c.registry-2.ensures.documents) ∙ c.names_rise.ensures in
    within_there own (base_of resolver) c.args.root.now t found apart rise p c.args.node_limit (λ placed. c.in-Ok-causes.ensures.within) _
    (one_root there (c.in_ok-resolver.ensures.base ∙ c.in_ok-clone.ensures.cases ∙ c.base-base.ensures) refl)

pub returns-clause-refused : goal.returns-clause-refused
returns-clause-refused g c =
    let p = g.P.PatternMaker.patterns c.args.maker.now in
    let resolver = c.in_ok-resolver.resolver in
    let own = documents_in c.in-Ok.found.resolver in
    let t = target_in c.in-Ok.found in
    let there : own ≡ documents_in_registry c.args.registry.now = c.in-Ok.ensures.documents ∙ c.in_ok-resolver.ensures.documents ∙ c.registry.ensures.documents ∙ ap documents_shared c.own-own.ensures in
    let found = subst (λ ds. lookup ds (base_of resolver) c.args.root.now ≡ Ok t) (sym c.in-Ok.ensures.documents) c.in-Ok.ensures.ok in
    refuses_there own (base_of resolver) c.args.root.now t found p c.args.node_limit _ _ c.in-Err-causes.ensures.refused c.of_places.ensures _
    (one_root there (c.in_ok-resolver.ensures.base ∙ c.in_ok-clone.ensures.cases ∙ c.base-base.ensures) refl)
