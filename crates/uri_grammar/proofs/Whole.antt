-- Components, written back, give the text.
use Rattle.std.proofs.Common.{◌≡◌, ◌==◌, ◌∙◌, ◌||◌, ◌&&◌, List, [], ◌∷◌, ◌++◌, ℕ, not, Bool, true, false, ap, sym, refl, append_assoc, Option, Some, None, if◌then◌else◌}
use Rattle.std.specs.Prelude.{codes}
use Rattle.std.proofs.lemmas.Bool.{eqb-true, and_parts}
use Rattle.uri_grammar.specs.Texts.{cut_at, has, is_empty, is_none}
use Rattle.uri_grammar.specs.Parts.{split, recompose, before, behind, scheme_of, authority_of, authority_in, after_slashes, from_slash}
use Rattle.uri_grammar.specs.Grammar.{stands_behind, begins_slashed}
use Rattle.uri_grammar.proofs.Halves.{cut_whole}

scheme_whole : (p : List ℕ × Option (List ℕ)) (text : List ℕ) → p.0 ++ behind (58 ∷ []) p.1 ≡ text → before (scheme_of p text).0 (codes ":") ++ (scheme_of p text).1 ≡ text
scheme_whole (front, None) text e = refl
scheme_whole (front, Some rest) text e = go (is_empty front || has 47 front) refl
  where
    pair : Bool → Option (List ℕ) × List ℕ
    pair b = if b then (None, text) else (Some front, rest)

    go : (b : Bool) → (is_empty front || has 47 front) ≡ b → before (pair (is_empty front || has 47 front)).0 (codes ":") ++ (pair (is_empty front || has 47 front)).1 ≡ text
    go true h = ap (λ b. before (pair b).0 (codes ":") ++ (pair b).1) h
    go false h = ap (λ b. before (pair b).0 (codes ":") ++ (pair b).1) h ∙ append_assoc front (codes ":") rest ∙ e

from_slash_is : (p : List ℕ × Option (List ℕ)) → from_slash p ≡ behind (47 ∷ []) p.1
from_slash_is (front, None) = refl
from_slash_is (front, Some rest) = refl

slashes : (text rest : List ℕ) → after_slashes text ≡ Some rest → text ≡ 47 ∷ 47 ∷ rest
slashes [] rest e = absurd cc
slashes (x ∷ []) rest e = absurd cc
slashes (x ∷ y ∷ more) rest e = go (x == 47 && y == 47) refl
  where
    go : (b : Bool) → (x == 47 && y == 47) ≡ b → x ∷ y ∷ more ≡ 47 ∷ 47 ∷ rest
    go true h =
        let f = and_parts (x == 47) (y == 47) h in
        let same : Some more ≡ Some rest = sym (ap (λ t. if t then Some more else None) h) ∙ e in
        let inner : more ≡ rest = cc in
        ap (λ z. z ∷ y ∷ more) (eqb-true x 47 f.0) ∙ ap (λ z. 47 ∷ z ∷ more) (eqb-true y 47 f.1) ∙ ap (λ z. 47 ∷ 47 ∷ z) inner
    go false h =
        let same : None ≡ Some rest = sym (ap (λ t. if t then Some more else None) h) ∙ e in
        absurd cc

authority_whole : (text : List ℕ) → behind (codes "//") (authority_of text).0 ++ (authority_of text).1 ≡ text
authority_whole text = go (after_slashes text) refl
  where
    go : (o : Option (List ℕ)) → after_slashes text ≡ o → behind (codes "//") (authority_in text o).0 ++ (authority_in text o).1 ≡ text
    go None e = refl
    go (Some rest) e =
        ap (λ t. codes "//" ++ ((cut_at 47 rest).0 ++ t)) (from_slash_is (cut_at 47 rest)) ∙ ap (λ t. codes "//" ++ t) (cut_whole 47 rest) ∙ sym (slashes text rest e)

pub whole : (text : List ℕ) → recompose (split text) ≡ text
unfolding split
whole text =
    let f = cut_at 35 text in
    let q = cut_at 63 f.0 in
    let s = scheme_of (cut_at 58 q.0) q.0 in
    let a = authority_of s.1 in
    let first = before s.0 (codes ":") in
    let upper : first ++ behind (codes "//") a.0 ++ a.1 ≡ q.0 =
    append_assoc first (behind (codes "//") a.0) a.1 ∙ ap (λ t. first ++ t) (authority_whole s.1) ∙ scheme_whole (cut_at 58 q.0) q.0 (cut_whole 58 q.0) in
    ap (λ t. t ++ behind (codes "?") q.1 ++ behind (codes "#") f.1) upper ∙ ap (λ t. t ++ behind (codes "#") f.1) (cut_whole 63 f.0) ∙ cut_whole 35 text

stands_slashed : (p : List ℕ × Option (List ℕ)) → (is_empty (from_slash p) || begins_slashed (from_slash p)) ≡ true
stands_slashed (front, None) = refl
stands_slashed (front, Some rest) = refl

-- a path behind an authority begins with a slash, and one without an authority does not begin with two
pub authority_placed : (text : List ℕ) → stands_behind (authority_of text).0 (authority_of text).1 ≡ true
authority_placed text = go (after_slashes text) refl
  where
    go : (o : Option (List ℕ)) → after_slashes text ≡ o → stands_behind (authority_in text o).0 (authority_in text o).1 ≡ true
    go None e = ap (λ t. not (not (is_none t))) e
    go (Some rest) e = stands_slashed (cut_at 47 rest)

pub split_placed : (text : List ℕ) → stands_behind (split text).authority (split text).path ≡ true
unfolding split
split_placed text = let q = (cut_at 63 (cut_at 35 text).0).0 in authority_placed (scheme_of (cut_at 58 q) q).1
