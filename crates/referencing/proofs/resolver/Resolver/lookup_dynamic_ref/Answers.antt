use Rattle.std.proofs.Common.{◌≡◌, ◌∙◌, sym, ap, subst, [], Ok}
use Rattle.uri_grammar.specs.Texts.{cut_at}
use Rattle.schema_definitions.specs.Words.{or}
use Rattle.schema_definitions.specs.Lookup.{lookup}
use Rattle.document_sources.specs.Causes.{RefusesLookup}
use Rattle.referencing.specs.Found.{found_target, redirect}
use Rattle.referencing.specs.Resolved.{base_of, scope_of, documents_in}
use Rattle.document_index.proofs.CauseNames.{kept}
use Rattle.referencing.proofs.RefusedLemmas.{refused-through}
use Rattle.referencing.proofs.ToldLemmas.{dynamic-at}
use Rattle.referencing.proofs.resolver.Resolver.lookup_dynamic_ref.Goals as goal

pub returns-in_err-found-clause-refused : goal.returns-in_err-found-clause-refused
returns-in_err-found-clause-refused c =
    let self = c.args.self.now in
    let docs = documents_in self in
    let reference = c.args.reference.now in
    let e = c.in_err-found.field-0.0 in
    let refused = subst (λ b. RefusesLookup (lookup docs b reference) e) c.deref.ensures c.in_err-found.ensures.refused in
    kept c.from_residual.result e _ c.from_residual.ensures.1 (refused-through (lookup docs (base_of self) reference) (redirect docs (scope_of self) (or [] (cut_at 35 reference).1)) e refused)

pub returns-in_err-found-2-clause-refused : goal.returns-in_err-found-2-clause-refused
returns-in_err-found-2-clause-refused c =
    let self = c.args.self.now in
    let docs = documents_in self in
    let reference = c.args.reference.now in
    let e = c.in_err-found-2.field-0.0 in
    let fragment = c.fragment_or_empty.ensures ∙ ap (or []) c.split_fragment.ensures.after in
    let there = found_target c.in_ok-found.found in
    let ok = subst (λ b. lookup docs b reference ≡ Ok there) c.deref.ensures c.in_ok-found.ensures.ok in
    let redirected = dynamic-at docs (base_of self) (scope_of self) reference there ok in
    let refused = subst (λ k. RefusesLookup (redirect docs (scope_of self) k there) e) fragment c.in_err-found-2.ensures.refused in
    kept c.from_residual-in_err-found-2.result e _ c.from_residual-in_err-found-2.ensures.1 (subst (λ a. RefusesLookup a e) (sym redirected) refused)

pub returns-clause-ok : goal.returns-clause-ok
returns-clause-ok c =
    let self = c.args.self.now in
    let docs = documents_in self in
    let reference = c.args.reference.now in
    let fragment = c.fragment_or_empty.ensures ∙ ap (or []) c.split_fragment.ensures.after in
    let there = found_target c.in_ok-found.found in
    let ok = subst (λ b. lookup docs b reference ≡ Ok there) c.deref.ensures c.in_ok-found.ensures.ok in
    let redirected = dynamic-at docs (base_of self) (scope_of self) reference there ok in
    redirected ∙ ap (λ k. redirect docs (scope_of self) k there) (sym fragment) ∙ c.in_ok-found-2.ensures.ok ∙ ap Ok (sym c.in_ok-arrived.ensures.target)
