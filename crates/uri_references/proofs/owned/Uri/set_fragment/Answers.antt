use Rattle.std.proofs.Common.{◌≡◌, ◌∙◌, ap, subst, sym, true, string_bytes, option_map}
use Rattle.uri_references.specs.Passed.{split}
use Rattle.uri_references.specs.Passed.{is_uri}
use Rattle.uri_references.specs.Fragments.{with_fragment}
use Rattle.uri_references.proofs.FragmentLemmas.{with-uri}
use Rattle.uri_references.proofs.owned.Uri.set_fragment.Goals as goal

pub invariant_of-self : goal.invariant_of-self
invariant_of-self c =
    let fragment = option_map (λ t. t.now) c.args.fragment in
    let text = c.in_ok-text.ensures ∙ ap (λ t. with_fragment t fragment) c.as_str.ensures.value in
    subst (λ t. is_uri (split t) ≡ true) (sym text)
    (with-uri (string_bytes c.self.inside.text) fragment c.self.invariant (sym c.is_fragment_or_none.ensures ∙ c.if-not-is_fragment_or_none.false))
