-- The URIs by which documents are known.
use Rattle.std.proofs.Common.{◌≡◌, List, [], ◌∷◌, ℕ, ap, sym, refl, Bool, true, false, Option, Some, None, if◌then◌else◌}
use Rattle.std.specs.Prelude.{not}
use Rattle.uri_references.specs.Passed.{is_none, all_or_none}
use Rattle.uri_references.specs.Passed.{Parts, split, recompose}
use Rattle.uri_references.specs.Passed.{is_reference, is_uri, is_fragment}
use Rattle.uri_references.specs.Resolution.{resolve}
use Rattle.uri_references.specs.NormalForm.{normal_text}
use Rattle.uri_references.proofs.Bools.{and_left, and_right, and_both}
use Rattle.uri_references.proofs.ResolveLemmas.{resolve-valid}
use Rattle.uri_references.proofs.NormalLemmas.{normal-valid}
use Rattle.uri_references.specs.Identity.{without_empty, identity, default_base, absolute}
use Rattle.uri_references.proofs.FragmentLemmas.{fragment-valid}
use Rattle.uri_references.proofs.TextLemmas.{back-uri, recompose-uri, normal-parts-again}

without-empty-valid : (f : Option (List ℕ)) → all_or_none (λ t. is_fragment t) f ≡ true → all_or_none (λ t. is_fragment t) (without_empty f) ≡ true
without-empty-valid None h = refl
without-empty-valid (Some []) h = refl
without-empty-valid (Some (b ∷ t)) h = h

fragment-of-valid : (p : Parts) → is_reference p ≡ true → all_or_none (λ t. is_fragment t) p.fragment ≡ true
unfolding is_reference
fragment-of-valid p h = and_right _ _ (and_left _ _ h)

without-valid : (p : Parts) → is_uri p ≡ true → is_uri (record p { fragment = without_empty p.fragment }) ≡ true
without-valid p h =
    let reference = and_left (is_reference p) _ h in
    and_both _ (not (is_none p.scheme)) (fragment-valid p (without_empty p.fragment) reference (without-empty-valid p.fragment (fragment-of-valid p reference))) (and_right (is_reference p) _ h)

pub identity-uri : (p : Parts) → is_uri p ≡ true → is_uri (split (recompose (identity p))) ≡ true
identity-uri p h = recompose-uri (identity p) (normal-valid (record p { fragment = without_empty p.fragment }) (without-valid p h))

pub identity-again : (p : Parts) → is_uri p ≡ true → normal_text (recompose (identity p)) ≡ recompose (identity p)
identity-again p h = normal-parts-again (record p { fragment = without_empty p.fragment }) (without-valid p h)

pub default-uri : is_uri (split default_base) ≡ true
unfolding split is_reference
default-uri = refl

pub against-uri : (base reference : List ℕ) → is_uri (split base) ≡ true → is_reference (split reference) ≡ true → is_uri (resolve (split base) (split reference)) ≡ true
against-uri base reference b h = resolve-valid (split base) (split reference) b h

pub against-parts : (base reference : List ℕ) → is_uri (split base) ≡ true → is_reference (split reference) ≡ true
    → split (recompose (resolve (split base) (split reference))) ≡ resolve (split base) (split reference)
against-parts base reference b h = back-uri (resolve (split base) (split reference)) (against-uri base reference b h)

pub absolute-uri : (p : Parts) → is_reference p ≡ true → is_uri (absolute p) ≡ true
absolute-uri p h = by_scheme (is_none p.scheme) refl
  where
    by_scheme : (b : Bool) → b ≡ is_none p.scheme → is_uri (if b then resolve (split default_base) p else p) ≡ true
    by_scheme true e = resolve-valid (split default_base) p default-uri h
    by_scheme false e = and_both (is_reference p) _ h (ap not (sym e))
