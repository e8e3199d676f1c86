use Rattle.std.proofs.Common.{◌≡◌, ◌∙◌, sym, subst, true}
use Rattle.uri_references.specs.Passed.{split}
use Rattle.uri_references.specs.Passed.{is_uri}
use Rattle.uri_references.specs.NormalForm.{normal_text}
use Rattle.uri_references.specs.Identity.{absolute}
use Rattle.uri_references.proofs.IdentityLemmas.{identity-uri, identity-again, absolute-uri}
use Rattle.uri_references.proofs.uri.from_str.Goals as goal

pub of_valid-requires : goal.of_valid-requires
of_valid-requires c =
    let parts = absolute (split c.args.text.now) in
    let valid = absolute-uri (split c.args.text.now) (sym c.is_uri_reference.ensures ∙ c.if-not-is_uri_reference.false) in
    subst (λ t. is_uri (split t) ≡ true) (sym c.in_ok-known.ensures) (identity-uri parts valid)

pub returns-clause-once : goal.returns-clause-once
returns-clause-once c =
    let parts = absolute (split c.args.text.now) in
    let valid = absolute-uri (split c.args.text.now) (sym c.is_uri_reference.ensures ∙ c.if-not-is_uri_reference.false) in
    subst (λ t. normal_text t ≡ t) (sym (c.of_valid.ensures ∙ c.in_ok-known.ensures)) (identity-again parts valid)
