use Rattle.std.proofs.Common.{◌≡◌, ◌∙◌, ap, subst, sym, true}
use Rattle.uri_references.specs.Passed.{split, recompose}
use Rattle.uri_references.specs.Passed.{is_uri}
use Rattle.uri_references.specs.Passed.{parts_of}
use Rattle.uri_references.specs.Resolution.{resolve}
use Rattle.uri_references.specs.Fragments.{fragment_of}
use Rattle.uri_references.proofs.TextLemmas.{resolved-text-uri, resolved-fragment}
use Rattle.uri_references.proofs.borrowed.UriRef.resolve_against.Goals as goal

pub of_valid-requires : goal.of_valid-requires
of_valid-requires c =
    let text = c.in_ok-text.ensures
    ∙ ap (λ p. recompose (resolve p (parts_of c.components.result))) (c.split_reference-base_components.ensures.parts ∙ ap split c.as_str.ensures.value)
    ∙ ap (λ p. recompose (resolve (split c.args.base.now) p)) c.components.ensures in
    subst (λ t. is_uri (split t) ≡ true) (sym text) (resolved-text-uri c.args.base.now c.args.self.now.text.now c.as_str.ensures.valid c.args.self.now.valid)

pub returns-clause-fragment : goal.returns-clause-fragment
returns-clause-fragment c =
    let text = c.in_ok-text.ensures
    ∙ ap (λ p. recompose (resolve p (parts_of c.components.result))) (c.split_reference-base_components.ensures.parts ∙ ap split c.as_str.ensures.value)
    ∙ ap (λ p. recompose (resolve (split c.args.base.now) p)) c.components.ensures in
    ap fragment_of (c.of_valid.ensures ∙ text) ∙ resolved-fragment c.args.base.now c.args.self.now.text.now c.as_str.ensures.valid c.args.self.now.valid
