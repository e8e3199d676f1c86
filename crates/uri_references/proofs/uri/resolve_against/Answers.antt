use Rattle.std.proofs.Common.{◌≡◌, ◌∙◌, ap, sym, subst, true}
use Rattle.uri_references.specs.Passed.{split}
use Rattle.uri_references.specs.Passed.{is_uri}
use Rattle.uri_references.specs.Resolution.{resolve}
use Rattle.uri_references.specs.NormalForm.{normal_text}
use Rattle.uri_references.specs.Identity.{identity_against}
use Rattle.uri_references.proofs.IdentityLemmas.{identity-uri, identity-again, against-uri}
use Rattle.uri_references.proofs.uri.resolve_against.Goals as goal

pub of_valid-requires : goal.of_valid-requires
of_valid-requires c =
    let target = resolve (split c.args.base.now) (split c.args.text.now) in
    let valid = against-uri c.args.base.now c.args.text.now c.as_str.ensures.valid (sym c.is_uri_reference.ensures ∙ c.if-not-is_uri_reference.false) in
    let known = c.in_ok-known.ensures ∙ ap (λ b. identity_against b c.args.text.now) c.as_str.ensures.value in
    subst (λ t. is_uri (split t) ≡ true) (sym known) (identity-uri target valid)

pub returns-clause-once : goal.returns-clause-once
returns-clause-once c =
    let target = resolve (split c.args.base.now) (split c.args.text.now) in
    let valid = against-uri c.args.base.now c.args.text.now c.as_str.ensures.valid (sym c.is_uri_reference.ensures ∙ c.if-not-is_uri_reference.false) in
    let known = c.in_ok-known.ensures ∙ ap (λ b. identity_against b c.args.text.now) c.as_str.ensures.value in
    subst (λ t. normal_text t ≡ t) (sym (c.of_valid.ensures ∙ known)) (identity-again target valid)
