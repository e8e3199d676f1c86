use Rattle.std.proofs.Common.{◌≡◌, ◌∙◌, codes}
use Rattle.reached_sites.specs.Passed.{documents_in, base_of, target_in}
use Rattle.schema_registries.specs.Seen.{documents_shared}
use Rattle.schema_registries.specs.Roots.{Finds}
use Rattle.schema_validators.specs.Asked.{meta_root}
use Rattle.schema_validators.proofs.Asking.{handed_in}
use Rattle.schema_validators.proofs.meta_schema.is_handed_in.Goals as goal

pub returns-in-Ok-clause-there : goal.returns-in-Ok-clause-there
returns-in-Ok-clause-there c =
    let p = c.args.parent.now in
    let resolver = c.in_ok-resolver.resolver in
    let t = target_in c.in-Ok.found in
    let documents : documents_in resolver ≡ documents_shared p = c.in_ok-resolver.ensures.documents ∙ c.registry.ensures.documents in
    let base : base_of resolver ≡ codes "json-schema:///" = cc (c.in_ok-resolver.ensures.base, c.in_ok-clone.ensures.cases, c.requires.base) in
    let found : Finds (meta_root p c.args.uri.now) t = cc (documents, base, c.in-Ok.ensures.ok) in
    handed_in p c.args.uri.now t c.is_retrieved.result found (cc (c.is_retrieved.ensures, c.document.ensures, c.registry-in-Ok.ensures.retrieved))
