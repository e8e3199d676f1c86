use Rattle.std.proofs.Common.{◌≡◌, ◌∙◌, sym, ap, subst, Ok}
use Rattle.schema_definitions.specs.Lookup.{lookup}
use Rattle.document_sources.specs.Causes.{RefusesLookup}
use Rattle.referencing.specs.Found.{found_target}
use Rattle.referencing.specs.Resolved.{documents_in}
use Rattle.document_index.proofs.CauseNames.{kept}
use Rattle.referencing.proofs.resolver.Resolver.lookup.Goals as goal

pub returns-in_err-found-clause-refused : goal.returns-in_err-found-clause-refused
returns-in_err-found-clause-refused c =
    let self = c.args.self.now in
    let reference = c.args.reference.now in
    let e = c.in_err-found.field-0.0 in
    kept c.from_residual.result e _ c.from_residual.ensures.1 (subst (λ b. RefusesLookup (lookup (documents_in self) b reference) e) c.deref.ensures c.in_err-found.ensures.refused)

pub returns-clause-ok : goal.returns-clause-ok
returns-clause-ok c =
    let self = c.args.self.now in
    let reference = c.args.reference.now in
    subst (λ b. lookup (documents_in self) b reference ≡ Ok (found_target c.in_ok-found.found)) c.deref.ensures c.in_ok-found.ensures.ok
    ∙ ap Ok (sym c.in_ok-arrived.ensures.target)
