-- Resolved and normalised texts are URIs; a second normal form changes nothing.
use Rattle.std.proofs.Common.{◌≡◌, ◌∙◌, List, ℕ, ap, sym, refl, true, not, Bool, false, if◌then◌else◌}
use Rattle.uri_references.specs.Passed.{is_none}
use Rattle.uri_references.specs.Passed.{Parts, split, recompose}
use Rattle.uri_references.specs.Passed.{is_reference, is_uri}
use Rattle.uri_references.proofs.Passed.{back}
use Rattle.uri_references.specs.Resolution.{resolve, guarded, target_path, target_query, resolved_text}
use Rattle.uri_references.specs.Dots.{remove_dots}
use Rattle.uri_references.specs.NormalForm.{normal, normal_text}
use Rattle.uri_references.proofs.Bools.{and_left}
use Rattle.uri_references.proofs.ResolveLemmas.{resolve-valid}
use Rattle.uri_references.proofs.NormalLemmas.{normal-valid, normal-again}
use Rattle.uri_references.specs.Fragments.{fragment_of}
use Rattle.uri_references.proofs.FragmentLemmas.{split-fragment}

pub back-uri : (p : Parts) → is_uri p ≡ true → split (recompose p) ≡ p
back-uri p h = back p (and_left (is_reference p) _ h)

pub recompose-uri : (p : Parts) → is_uri p ≡ true → is_uri (split (recompose p)) ≡ true
recompose-uri p h = ap is_uri (back-uri p h) ∙ h

pub normal-parts-again : (p : Parts) → is_uri p ≡ true → normal_text (recompose (normal p)) ≡ recompose (normal p)
normal-parts-again p h = ap (λ q. recompose (normal q)) (back-uri (normal p) (normal-valid p h)) ∙ ap recompose (normal-again p h)

pub normal-text-uri : (text : List ℕ) → is_uri (split text) ≡ true → is_uri (split (normal_text text)) ≡ true
normal-text-uri text h = recompose-uri (normal (split text)) (normal-valid (split text) h)

pub normal-text-again : (text : List ℕ) → is_uri (split text) ≡ true → normal_text (normal_text text) ≡ normal_text text
normal-text-again text h = normal-parts-again (split text) h

pub resolved-text-uri : (base reference : List ℕ) → is_uri (split base) ≡ true → is_reference (split reference) ≡ true → is_uri (split (resolved_text base reference)) ≡ true
resolved-text-uri base reference b h = recompose-uri (resolve (split base) (split reference)) (resolve-valid (split base) (split reference) b h)

-- a target has the fragment of the reference
target-fragment : (base r : Parts) → (resolve base r).fragment ≡ r.fragment
unfolding resolve
target-fragment base r = by_tests (not (is_none r.scheme)) (not (is_none r.authority))
  where
    by_tests : (s a : Bool) → (guarded (
        if s then record { scheme = r.scheme; authority = r.authority; path = remove_dots r.path; query = r.query; fragment = r.fragment }
        else (if a then record { scheme = base.scheme; authority = r.authority; path = remove_dots r.path; query = r.query; fragment = r.fragment }
        else record { scheme = base.scheme; authority = base.authority; path = target_path base r; query = target_query base r; fragment = r.fragment }))).fragment ≡ r.fragment
    by_tests true a = refl
    by_tests false true = refl
    by_tests false false = refl

pub resolved-fragment : (base reference : List ℕ) → is_uri (split base) ≡ true → is_reference (split reference) ≡ true → fragment_of (resolved_text base reference) ≡ fragment_of reference
resolved-fragment base reference b h =
    sym (split-fragment (resolved_text base reference))
    ∙ ap (λ p. p.fragment) (back-uri (resolve (split base) (split reference)) (resolve-valid (split base) (split reference) b h))
    ∙ target-fragment (split base) (split reference) ∙ split-fragment reference
