-- A fragment set, or cut off, and the other components.
use Rattle.std.proofs.Common.{◌≡◌, ◌∙◌, List, ℕ, true, ap, refl, subst, append-nil, Option, None}
use Rattle.std.specs.Prelude.{not}
use Rattle.uri_references.specs.Passed.{cut_at, all_or_none, is_none}
use Rattle.uri_references.specs.Passed.{Parts, split, scheme_of, authority_of}
use Rattle.uri_references.specs.Passed.{is_reference, is_uri, is_fragment}
use Rattle.uri_references.proofs.Passed.{cut_behind, cut_lacks}
use Rattle.uri_references.proofs.Bools.{and_left, and_right, and_both}
use Rattle.uri_references.specs.Fragments.{fragment_of, without_fragment, with_fragment}

from_cut : List ℕ × Option (List ℕ) → Parts
from_cut f =
    let q = cut_at 63 f.0 in
    let s = scheme_of (cut_at 58 q.0) q.0 in
    let a = authority_of s.1 in
    record { scheme = s.0; authority = a.0; path = a.1; query = q.1; fragment = f.1 }

pub split-with : (text : List ℕ) (f : Option (List ℕ)) → split (with_fragment text f) ≡ record (split text) { fragment = f }
unfolding split from_cut
split-with text f = ap from_cut (cut_behind 35 (without_fragment text) f (cut_lacks 35 text))

pub split-fragment : (text : List ℕ) → (split text).fragment ≡ fragment_of text
unfolding split
split-fragment text = refl

pub with-none : (text : List ℕ) → with_fragment text None ≡ without_fragment text
with-none text = append-nil (without_fragment text)

pub fragment-valid : (p : Parts) (f : Option (List ℕ)) → is_reference p ≡ true → all_or_none (λ t. is_fragment t) f ≡ true → is_reference (record p { fragment = f }) ≡ true
unfolding is_reference
fragment-valid p f h g = and_both _ _ (and_both _ _ (and_left _ _ (and_left _ _ h)) g) (and_right _ _ h)

pub with-valid : (text : List ℕ) (f : Option (List ℕ)) → is_reference (split text) ≡ true → all_or_none (λ t. is_fragment t) f ≡ true → is_reference (split (with_fragment text f)) ≡ true
with-valid text f h g = ap is_reference (split-with text f) ∙ fragment-valid (split text) f h g

pub with-uri : (text : List ℕ) (f : Option (List ℕ)) → is_uri (split text) ≡ true → all_or_none (λ t. is_fragment t) f ≡ true → is_uri (split (with_fragment text f)) ≡ true
with-uri text f h g =
    ap is_uri (split-with text f)
    ∙ and_both _ (not (is_none (split text).scheme)) (fragment-valid (split text) f (and_left (is_reference (split text)) _ h) g) (and_right (is_reference (split text)) _ h)

pub without-valid : (text : List ℕ) → is_reference (split text) ≡ true → is_reference (split (without_fragment text)) ≡ true
without-valid text h = subst (λ t. is_reference (split t) ≡ true) (with-none text) (with-valid text None h refl)
