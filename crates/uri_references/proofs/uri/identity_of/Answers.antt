use Rattle.std.proofs.Common.{◌≡◌, ◌∙◌, ap, refl, sym, subst, string_bytes, IfOk, Bool, true, false, if◌then◌else◌}
use Rattle.std.specs.Prelude.{not}
use Rattle.uri_references.specs.Passed.{is_none}
use Rattle.uri_references.specs.Passed.{split, recompose}
use Rattle.uri_references.specs.Resolution.{resolve}
use Rattle.uri_references.proofs.Resolved.{some_kept}
use Rattle.uri_references.specs.Identity.{identity, default_base}
use Rattle.uri_references.proofs.IdentityLemmas.{default-uri}
use Rattle.uri_references.proofs.uri.identity_of.Goals as goal

pub identity_against-requires-clause-base : goal.identity_against-requires-clause-base
identity_against-requires-clause-base c = default-uri

none_of : (b : Bool) → not b ≡ false → b ≡ true
none_of true e = refl
none_of false e = sym e

pub returns : goal.returns
returns c =
    let parts = split c.args.text.now in
    let none = none_of (is_none parts.scheme)
    (sym (ap (λ p. not (is_none p.scheme)) c.split_reference-parts.ensures.parts) ∙ some_kept c.split_reference-parts.result.scheme false c.if-is_some.ensures) in
    subst (λ t. IfOk c.identity_against.result (λ s. string_bytes s ≡ t))
    (ap (λ b. recompose (identity (if b then resolve (split default_base) parts else parts))) (sym none)) c.identity_against.ensures
