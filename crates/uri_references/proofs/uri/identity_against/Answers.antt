use Rattle.std.proofs.Common.{◌≡◌, ◌∙◌, ap, subst, string_bytes, IfOk}
use Rattle.uri_references.specs.Passed.{split, recompose}
use Rattle.uri_references.specs.Passed.{parts_of}
use Rattle.uri_references.specs.Resolution.{resolve}
use Rattle.uri_references.specs.Identity.{identity}
use Rattle.uri_references.proofs.IdentityLemmas.{against-parts}
use Rattle.uri_references.proofs.uri.identity_against.Goals as goal

pub returns : goal.returns
returns c =
    let target = c.in_ok-target.ensures
    ∙ ap (λ p. recompose (resolve p (parts_of c.split_reference-2.result))) c.split_reference.ensures.parts
    ∙ ap (λ p. recompose (resolve (split c.args.base.now) p)) c.split_reference-2.ensures.parts in
    let parts = c.split_reference-3.ensures.parts ∙ ap split (c.as_str.ensures.value ∙ target)
    ∙ against-parts c.args.base.now c.args.reference.now c.requires.base c.requires.reference in
    subst (λ p. IfOk c.identity.result (λ s. string_bytes s ≡ recompose (identity p))) parts c.identity.ensures
