use Rattle.std.proofs.Common.{◌≡◌, ◌∙◌, ap, subst, sym, true, string_bytes}
use Rattle.uri_references.specs.Passed.{split, recompose}
use Rattle.uri_references.specs.Passed.{is_uri}
use Rattle.uri_references.specs.NormalForm.{normal, normal_text}
use Rattle.uri_references.proofs.TextLemmas.{normal-text-uri, normal-text-again}
use Rattle.uri_references.proofs.owned.Uri.normalize.Goals as goal

pub invariant_of-result : goal.invariant_of-result
invariant_of-result c =
    let text = c.in_ok-text.ensures ∙ ap (λ p. recompose (normal p)) (c.split_reference.ensures.parts ∙ ap split c.as_str.ensures.value) in
    subst (λ t. is_uri (split t) ≡ true) (sym text) (normal-text-uri (string_bytes c.self.inside.text) c.self.invariant)

pub returns-clause-once : goal.returns-clause-once
returns-clause-once c =
    let text = c.in_ok-text.ensures ∙ ap (λ p. recompose (normal p)) (c.split_reference.ensures.parts ∙ ap split c.as_str.ensures.value) in
    subst (λ t. normal_text t ≡ t) (sym text) (normal-text-again (string_bytes c.self.inside.text) c.self.invariant)
