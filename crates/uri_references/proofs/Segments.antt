use Rattle.std.proofs.Common.{◌≡◌, ◌==◌, ◌∙◌, List, [], ◌∷◌, ℕ, true, false, ap, refl, sym, ne_eqb, lit<, Some, None, if◌then◌else◌, Bor}
use Rattle.std.specs.List.{onto_first, after_first}
use Rattle.std.proofs.lemmas.List.Splits.{slice_split_first, slice_split_none}
use Rattle.std.proofs.lemmas.List.Elements.{All-from_get_or}
use Rattle.std.proofs.lemmas.Str.Pattern.{IsSplitOnceResult, split_once_first, split_parts}
use Rattle.uri_grammar.specs.Texts.{pieces, is_empty}
use Rattle.uri_references.specs.Dots.{after_segments, after_segment, without_dots, is_dot_segment}

pub segments_some : (bs : List ℕ) (a b : Bor (List ℕ)) → IsSplitOnceResult 47 bs (Some (a, b)) → pieces 47 bs ≡ a.now ∷ pieces 47 b.now
segments_some bs a b h =
    let f = split_once_first 47 bs (Some (a, b)) h (lit< tt) in
    slice_split_first (λ b. b == 47) bs 0 f.0 ∙ ap (λ s. s ∷ pieces 47 (after_first (λ b. b == 47) bs)) (sym f.1) ∙ ap (λ t. a.now ∷ pieces 47 t) (sym f.2)

pub segments_none : (bs : List ℕ) → IsSplitOnceResult 47 bs None → pieces 47 bs ≡ bs ∷ []
segments_none bs h =
    let f = split_parts 47 bs None h (lit< tt) in
    slice_split_none (λ b. b == 47) bs (All-from_get_or (λ b. (b == 47) ≡ false) bs 0 (λ i within. ne_eqb _ _ (f i within)))

onto-some : (x : ℕ) (parts : List (List ℕ)) → is_empty (onto_first x parts) ≡ false
onto-some x [] = refl
onto-some x (p ∷ ps) = refl

pub segments-filled : (bs : List ℕ) → is_empty (pieces 47 bs) ≡ false
segments-filled [] = refl
segments-filled (x ∷ xs) = elim (x == 47) as (λ b. is_empty (if b then [] ∷ pieces 47 xs else onto_first x (pieces 47 xs)) ≡ false) [ true ↦ refl | false ↦ onto-some x (pieces 47 xs) ]

pub after_some : (out bs : List ℕ) (a b : Bor (List ℕ)) → IsSplitOnceResult 47 bs (Some (a, b)) → after_segments (after_segment out a.now false) (pieces 47 b.now) ≡ after_segments out (pieces 47 bs)
after_some out bs a b h = sym (ap (after_segments out) (segments_some bs a b h) ∙ ap (λ e. after_segments (after_segment out a.now e) (pieces 47 b.now)) (segments-filled b.now))

pub after_none : (out bs : List ℕ) → IsSplitOnceResult 47 bs None → after_segment out bs true ≡ after_segments out (pieces 47 bs)
after_none out bs h = sym (ap (after_segments out) (segments_none bs h))

pub without_kept : (s : List ℕ) (rest : List (List ℕ)) → is_dot_segment s ≡ false → without_dots (s ∷ rest) ≡ after_segments s rest
without_kept s rest a = ap (λ e. if e then without_dots rest else after_segments s rest) a

pub without_gone : (s : List ℕ) (rest : List (List ℕ)) → is_dot_segment s ≡ true → without_dots (s ∷ rest) ≡ without_dots rest
without_gone s rest a = ap (λ e. if e then without_dots rest else after_segments s rest) a
