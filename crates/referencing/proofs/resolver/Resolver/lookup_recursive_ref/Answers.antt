use Rattle.std.proofs.Common.{◌≡◌, ◌∙◌, sym, ap, subst, Some, None, Ok, ◌⊎◌, option_map}
use Rattle.schema_definitions.specs.Lookup.{unretrievable}
use Rattle.schema_definitions.specs.Scopes.{recursive_lookup}
use Rattle.schema_definitions.specs.CompileKeys.{run_end}
use Rattle.document_index.specs.Seen.{standing_of}
use Rattle.document_sources.specs.Causes.{IsMemory, NamesLookup}
use Rattle.referencing.specs.Resolved.{base_of, scope_of, documents_in}
use Rattle.referencing.proofs.RefusedLemmas.{refused-one}
use Rattle.referencing.proofs.ToldLemmas.{recursive-at}
use Rattle.referencing.proofs.resolver.Resolver.lookup_recursive_ref.Goals as goal

pub returns-in_ok-arrived-in-Some-clause-ok : goal.returns-in_ok-arrived-in-Some-clause-ok
returns-in_ok-arrived-in-Some-clause-ok c =
    let self = c.args.self.now in
    let end = run_end (documents_in self) (base_of self) (scope_of self) in
    let text : c.as_str.result.now ≡ end = c.as_str.ensures.value ∙ c.deref.ensures ∙ c.run_end-resource.ensures in
    let borne = sym (ap (option_map standing_of) c.in-Some.is) ∙ c.in_ok-bearer.ensures in
    recursive-at (documents_in self) (base_of self) (scope_of self) c.as_str.result.now (Some (standing_of c.in-Some.bearer)) text borne
    ∙ ap Ok (sym (c.in_ok-arrived-in-Some.ensures.target ∙ c.whole.ensures))

pub returns-in-None-clause-refused : goal.returns-in-None-clause-refused
returns-in-None-clause-refused c =
    let self = c.args.self.now in
    let end = run_end (documents_in self) (base_of self) (scope_of self) in
    let text : c.as_str.result.now ≡ end = c.as_str.ensures.value ∙ c.deref.ensures ∙ c.run_end-resource.ensures in
    let named : c.as_str-in-None.result.now ≡ end = c.as_str-in-None.ensures.value ∙ c.deref-in-None.ensures ∙ c.run_end-resource.ensures in
    let nobody = sym (ap (option_map standing_of) c.in-None.is) ∙ c.in_ok-bearer.ensures in
    let e = c.not_borne.result in
    refused-one (recursive_lookup (documents_in self) (base_of self) (scope_of self)) (unretrievable end) e
    (recursive-at (documents_in self) (base_of self) (scope_of self) c.as_str.result.now None text nobody)
    (subst (λ u. IsMemory e ⊎ NamesLookup (unretrievable u) e) named c.not_borne.ensures.lookup)
