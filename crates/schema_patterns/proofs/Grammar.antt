-- The literal forms are read by their grammar.
use borrow.Author.Tests.{eqb-true}
use Rattle.std.proofs.Common.{◌≡◌, ℕ, ◌≤◌, List, [], ◌∷◌, ◌++◌, length, Bool, true, false, not, ◌&&◌, ◌==◌, bytes_eq, inl, inr, ◌⊎◌, Option, Some, None, option_map, option_and_then, refl, sym, ap, ◌∙◌, subst, append_assoc, append-nil, arith, true≢false}
use Rattle.std.proofs.lemmas.Slice.Eq.{bytes_eq-Decides}
use Rattle.std.proofs.lemmas.List.Splits.{join_with_byte-slice_split}
use Rattle.std.specs.Cmp.{first_so, second_so}
use Rattle.std.specs.List.{list_all, join_with_byte, slice_split}
use Rattle.std.specs.Prelude.{if◌then◌else◌}
use Rattle.schema_patterns.specs.Forms.{IsWritten, nothing, bare, behind_backslash, IsWord, AreWords, no_words, and_word, HasForm, a_prefix, an_exact_text, a_choice, without_space}
use Rattle.json_values.specs.Patterns.{Literal, prefix, exact, one_of, no_white_space, is_plain, is_escapable, unescaped, if_any, word, words, if_several, behind, before, exact_of, choice_of, space_of, closed_of, opened_of, or_else, literal_of}
use Rattle.json_values.proofs.Marks.{plain_first, before_last, before_from, behind_from}
use Rattle.json_values.proofs.Names.{both, not_true}

-- ---- from the grammar

escape_first : (c : ℕ) (rest : List ℕ) → is_escapable c ≡ true → unescaped (92 ∷ c ∷ rest) ≡ option_map (λ t. c ∷ t) (unescaped rest)
unfolding unescaped
escape_first c rest h = rw h refl

then_more : (o : Option (List ℕ)) (c : ℕ) (l : List ℕ) → option_map (λ t. c ∷ t) (option_map (λ t. l ++ t) o) ≡ option_map (λ t. c ∷ l ++ t) o
then_more None c l = refl
then_more (Some t) c l = refl

no_more : (o : Option (List ℕ)) → o ≡ option_map (λ t. t) o
no_more None = refl
no_more (Some t) = refl

written_read : (p t : List ℕ) → IsWritten p t → (rest : List ℕ) → unescaped (p ++ rest) ≡ option_map (λ u. t ++ u) (unescaped rest)
written_read _ _ nothing rest = no_more (unescaped rest)
written_read _ _ (bare c p t h w) rest = plain_first c (p ++ rest) h ∙ ap (option_map (λ u. c ∷ u)) (written_read p t w rest) ∙ then_more (unescaped rest) c t
written_read _ _ (behind_backslash c p t h w) rest = escape_first c (p ++ rest) h ∙ ap (option_map (λ u. c ∷ u)) (written_read p t w rest) ∙ then_more (unescaped rest) c t

any_of : (t : List ℕ) → 1 ≤ length t → if_any t ≡ Some t
any_of [] h = absurd (omega arith)
any_of (c ∷ t) h = refl

word_read : (p t : List ℕ) → IsWord p t → word p ≡ Some t
unfolding unescaped
word_read p t w =
    let whole : unescaped p ≡ Some t = ap unescaped (sym (append-nil p)) ∙ written_read p t w.written [] ∙ ap Some (append-nil t) in
    ap (option_and_then if_any) whole ∙ any_of t w.some

-- with more behind it that is not written so, it is no word
no_word : (p t rest : List ℕ) → IsWord p t → unescaped rest ≡ None → word (p ++ rest) ≡ None
no_word p t rest w none = ap (option_and_then if_any) (written_read p t w.written rest ∙ ap (option_map (λ u. t ++ u)) none)

no_parenthesis : (rest : List ℕ) → unescaped (40 ∷ rest) ≡ None
unfolding unescaped
no_parenthesis [] = refl
no_parenthesis (d ∷ rest) = refl

abbrev is_bar : ℕ → Bool
is_bar b = b == 124

abbrev lacks_bar : List ℕ → Bool
lacks_bar p = list_all (λ b. not (is_bar b)) p

split_none : (xs : List ℕ) → lacks_bar xs ≡ true → slice_split is_bar xs ≡ xs ∷ []
split_none [] h = refl
split_none (x ∷ xs) h =
    let no : is_bar x ≡ false = not_true (is_bar x) (first_so (not (is_bar x)) (lacks_bar xs) h) in
    rw (no, split_none xs (second_so (not (is_bar x)) (lacks_bar xs) h)) refl

split_first : (xs ys : List ℕ) → lacks_bar xs ≡ true → slice_split is_bar (xs ++ 124 ∷ ys) ≡ xs ∷ slice_split is_bar ys
split_first [] ys h = refl
split_first (x ∷ xs) ys h =
    let no : is_bar x ≡ false = not_true (is_bar x) (first_so (not (is_bar x)) (lacks_bar xs) h) in
    rw (no, split_first xs ys (second_so (not (is_bar x)) (lacks_bar xs) h)) refl

not_bar : (f : ℕ → Bool) → f 124 ≡ false → (c : ℕ) → f c ≡ true → not (is_bar c) ≡ true
not_bar f none c h = by (is_bar c) refl
  where
    by : (b : Bool) → is_bar c ≡ b → not b ≡ true
    by true is = (let s : c ≡ 124 = eqb-true c 124 is in absurd (true≢false (sym h ∙ ap f s ∙ none)))
    by false is = refl

no_bars : (p t : List ℕ) → IsWritten p t → lacks_bar p ≡ true
no_bars _ _ nothing = refl
no_bars _ _ (bare c p t h w) = both (not (is_bar c)) (lacks_bar p) (not_bar is_plain refl c h) (no_bars p t w)
no_bars _ _ (behind_backslash c p t h w) = both (not (is_bar c)) (lacks_bar p) (not_bar is_escapable refl c h) (no_bars p t w)

split_joined : (p t : List ℕ) (ps ts : List (List ℕ)) → IsWord p t → AreWords ps ts → slice_split is_bar (join_with_byte 124 (p ∷ ps)) ≡ p ∷ ps
split_joined p t _ _ w no_words = split_none p (no_bars p t w.written)
split_joined p t _ _ w (and_word q u ps ts v vs) =
    split_first p (join_with_byte 124 (q ∷ ps)) (no_bars p t w.written) ∙ ap (λ rest. p ∷ rest) (split_joined q u ps ts v vs)

words_read : (ps ts : List (List ℕ)) → AreWords ps ts → words ps ≡ Some ts
words_read _ _ no_words = refl
words_read _ _ (and_word p t ps ts w ws) = rw (word_read p t w, words_read ps ts ws) refl

joined_read : (ps ts : List (List ℕ)) → AreWords ps ts → 2 ≤ length ts → words (slice_split is_bar (join_with_byte 124 ps)) ≡ Some ts
joined_read _ _ no_words h = absurd (omega arith)
joined_read _ _ (and_word p t ps ts w ws) h = ap words (split_joined p t ps ts w ws) ∙ words_read (p ∷ ps) (t ∷ ts) (and_word p t ps ts w ws)

several_of : (ts : List (List ℕ)) → 2 ≤ length ts → if_several ts ≡ Some ts
several_of [] h = absurd (omega arith)
several_of (t ∷ []) h = absurd (omega arith)
several_of (t ∷ u ∷ ts) h = refl

choice_read : (ps ts : List (List ℕ)) → AreWords ps ts → 2 ≤ length ts → literal_of (94 ∷ 40 ∷ join_with_byte 124 ps ++ 41 ∷ 36 ∷ []) ≡ Some (one_of ts)
choice_read ps ts w h =
    let joined : List ℕ = join_with_byte 124 ps in
    let inside : List ℕ = 40 ∷ joined ++ 41 ∷ [] in
    let text : List ℕ = 40 ∷ joined ++ 41 ∷ 36 ∷ [] in
    let cut : text ≡ inside ++ 36 ∷ [] = ap (λ t. 40 ∷ t) (sym (append_assoc joined (41 ∷ []) (36 ∷ []))) in
    let ended : before 36 text ≡ Some inside = ap (before 36) cut ∙ before_last 36 inside in
    let a : word text ≡ None = ap (option_and_then if_any) (no_parenthesis (joined ++ 41 ∷ 36 ∷ [])) in
    let b : word inside ≡ None = ap (option_and_then if_any) (no_parenthesis (joined ++ 41 ∷ [])) in
    let c : choice_of inside ≡ Some (one_of ts) =
    ap (λ o. option_map one_of (option_and_then if_several (option_and_then (λ inner. words (slice_split is_bar inner)) o))) (before_last 41 joined)
    ∙ ap (λ o. option_map one_of (option_and_then if_several o)) (joined_read ps ts w h)
    ∙ ap (option_map one_of) (several_of ts h) in
    ap (λ o. or_else (option_map prefix o) (option_and_then closed_of (before 36 text))) a
    ∙ ap (option_and_then closed_of) ended
    ∙ ap (λ o. or_else (option_map exact o) (choice_of inside)) b
    ∙ c

pub form_read : (pattern : List ℕ) (l : Literal) → HasForm pattern l → literal_of pattern ≡ Some l
unfolding unescaped
form_read _ _ (a_prefix p t w) = ap (λ o. or_else (option_map prefix o) (option_and_then closed_of (before 36 p))) (word_read p t w)
form_read _ _ (an_exact_text p t w) =
    ap (λ o. or_else (option_map prefix o) (option_and_then closed_of (before 36 (p ++ 36 ∷ [])))) (no_word p t (36 ∷ []) w refl)
    ∙ ap (option_and_then closed_of) (before_last 36 p)
    ∙ ap (λ o. or_else (option_map exact o) (or_else (space_of p) (choice_of p))) (word_read p t w)
form_read _ _ (a_choice ps ts w h) = choice_read ps ts w h
form_read _ _ without_space = refl

-- ---- to the grammar

mapped : {X Y : Type 0} (f : X → Y) (o : Option X) (y : Y) → option_map f o ≡ Some y → (x : X) × (o ≡ Some x) × (f x ≡ y)
mapped f None y h = cc
mapped f (Some x) y h = (x, refl, cc)

chained : {X Y : Type 0} (f : X → Option Y) (o : Option X) (y : Y) → option_and_then f o ≡ Some y → (x : X) × (o ≡ Some x) × (f x ≡ Some y)
chained f None y h = cc
chained f (Some x) y h = (x, refl, h)

first_or : {X : Type 0} (o other : Option X) (x : X) → or_else o other ≡ Some x → (o ≡ Some x) ⊎ (other ≡ Some x)
first_or None other x h = inr h
first_or (Some y) other x h = inl h

either_way : (b : Bool) (o other : Option (List ℕ)) (t : List ℕ) → (if b then o else other) ≡ Some t → ((b ≡ true) × (o ≡ Some t)) ⊎ ((b ≡ false) × (other ≡ Some t))
either_way true o other t h = inl (refl, h)
either_way false o other t h = inr (refl, h)

escaped_here : (c d : ℕ) (rest t : List ℕ) → ((u : List ℕ) → unescaped rest ≡ Some u → IsWritten rest u)
    → (if c == 92 && is_escapable d then option_map (λ u. d ∷ u) (unescaped rest) else None) ≡ Some t → IsWritten (c ∷ d ∷ rest) t
escaped_here c d rest t later h =
    elim (either_way (c == 92 && is_escapable d) (option_map (λ u. d ∷ u) (unescaped rest)) None t h) [
      | inl holds ↦ (let m = mapped (λ u. d ∷ u) (unescaped rest) t holds.1 in
          let mark : c ≡ 92 = eqb-true c 92 (first_so (c == 92) (is_escapable d) holds.0) in
          let P : ℕ → Type 0 = λ x. IsWritten (x ∷ d ∷ rest) t in
          let Q : List ℕ → Type 0 = λ u. IsWritten (92 ∷ d ∷ rest) u in
          subst P (sym mark) (subst Q m.2 (behind_backslash d rest m.0 (second_so (c == 92) (is_escapable d) holds.0) (later m.0 m.1))))
      | inr fails ↦ (let impossible : None ≡ Some t = fails.1 in cc)
    ]

plain_here : (c : ℕ) (rest t : List ℕ) → is_plain c ≡ true → ((u : List ℕ) → unescaped rest ≡ Some u → IsWritten rest u) → option_map (λ u. c ∷ u) (unescaped rest) ≡ Some t → IsWritten (c ∷ rest) t
plain_here c rest t h later g =
    let m = mapped (λ u. c ∷ u) (unescaped rest) t g in
    let Q : List ℕ → Type 0 = λ u. IsWritten (c ∷ rest) u in
    subst Q m.2 (bare c rest m.0 h (later m.0 m.1))

written_from : (p t : List ℕ) → unescaped p ≡ Some t → IsWritten p t
unfolding unescaped
written_from [] t h = (let Q : List ℕ → Type 0 = λ u. IsWritten [] u in let s : [] ≡ t = cc in subst Q s nothing)
written_from (c ∷ []) t h =
    elim (either_way (is_plain c) (Some (c ∷ [])) None t h) [
      | inl holds ↦ (let Q : List ℕ → Type 0 = λ u. IsWritten (c ∷ []) u in let e : Some (c ∷ []) ≡ Some t = holds.1 in let s : c ∷ [] ≡ t = cc in subst Q s (bare c [] [] holds.0 nothing))
      | inr fails ↦ (let impossible : None ≡ Some t = fails.1 in cc)
    ]
written_from (c ∷ d ∷ rest) t h =
    elim (either_way (is_plain c) (option_map (λ u. c ∷ u) (unescaped (d ∷ rest))) (if c == 92 && is_escapable d then option_map (λ u. d ∷ u) (unescaped rest) else None) t h) [
      | inl holds ↦ plain_here c (d ∷ rest) t holds.0 (written_from (d ∷ rest)) holds.1
      | inr fails ↦ escaped_here c d rest t (written_from rest) fails.1
    ]

some_from : (u t : List ℕ) → if_any u ≡ Some t → (u ≡ t) × (1 ≤ length t)
some_from [] t h = cc
some_from (c ∷ u) t h = (let s : c ∷ u ≡ t = cc in let P : List ℕ → Type 0 = λ v. 1 ≤ length v in (s, subst P s (omega arith)))

word_from : (p t : List ℕ) → word p ≡ Some t → IsWord p t
word_from p t h =
    let m = chained if_any (unescaped p) t h in
    let s = some_from m.0 t m.2 in
    let Q : List ℕ → Type 0 = λ u. IsWritten p u in
    record { written = subst Q s.0 (written_from p m.0 m.1); some = s.1 }

words_from : (ps ts : List (List ℕ)) → words ps ≡ Some ts → AreWords ps ts
words_from [] ts h = (let Q : List (List ℕ) → Type 0 = λ us. AreWords [] us in let s : [] ≡ ts = cc in subst Q s no_words)
words_from (p ∷ ps) ts h =
    let m = chained (λ l. option_map (λ ls. l ∷ ls) (words ps)) (word p) ts h in
    let n = mapped (λ ls. m.0 ∷ ls) (words ps) ts m.2 in
    let Q : List (List ℕ) → Type 0 = λ us. AreWords (p ∷ ps) us in
    subst Q n.2 (and_word p m.0 ps n.0 (word_from p m.0 m.1) (words_from ps n.0 n.1))

several_from : (us ts : List (List ℕ)) → if_several us ≡ Some ts → (us ≡ ts) × (2 ≤ length ts)
several_from [] ts h = cc
several_from (u ∷ []) ts h = cc
several_from (u ∷ v ∷ us) ts h =
    (let s : u ∷ v ∷ us ≡ ts = cc in let P : List (List ℕ) → Type 0 = λ v. 2 ≤ length v in (s, subst P s (omega arith)))

choice_from : (closed : List ℕ) (l : Literal) → choice_of closed ≡ Some l → HasForm (94 ∷ closed ++ 36 ∷ []) l
choice_from closed l h =
    let a = mapped one_of (option_and_then if_several (option_and_then (λ inner. words (slice_split is_bar inner)) (option_and_then (before 41) (behind 40 closed)))) l h in
    let b = chained if_several (option_and_then (λ inner. words (slice_split is_bar inner)) (option_and_then (before 41) (behind 40 closed))) a.0 a.1 in
    let d = chained (λ inner. words (slice_split is_bar inner)) (option_and_then (before 41) (behind 40 closed)) b.0 b.1 in
    let e = chained (before 41) (behind 40 closed) d.0 d.1 in
    let s = several_from b.0 a.0 b.2 in
    let inner = d.0 in
    let parts = slice_split is_bar inner in
    let opened : closed ≡ 40 ∷ e.0 = behind_from 40 closed e.0 e.1 in
    let ended : e.0 ≡ inner ++ 41 ∷ [] = before_from 41 e.0 inner e.2 in
    let joined : join_with_byte 124 parts ≡ inner = join_with_byte-slice_split 124 inner in
    let W : List (List ℕ) → Type 0 = λ us. AreWords parts us in
    let form : HasForm (94 ∷ 40 ∷ join_with_byte 124 parts ++ 41 ∷ 36 ∷ []) (one_of a.0) = a_choice parts a.0 (subst W s.0 (words_from parts b.0 d.2)) s.1 in
    let is : 94 ∷ 40 ∷ join_with_byte 124 parts ++ 41 ∷ 36 ∷ [] ≡ 94 ∷ closed ++ 36 ∷ [] =
    ap (λ j. 94 ∷ 40 ∷ j ++ 41 ∷ 36 ∷ []) joined
    ∙ ap (λ j. 94 ∷ 40 ∷ j) (sym (append_assoc inner (41 ∷ []) (36 ∷ [])))
    ∙ ap (λ j. 94 ∷ (40 ∷ j) ++ 36 ∷ []) (sym ended)
    ∙ ap (λ j. 94 ∷ j ++ 36 ∷ []) (sym opened) in
    let P : List ℕ → Type 0 = λ p. HasForm p (one_of a.0) in
    let L : Literal → Type 0 = λ m. HasForm (94 ∷ closed ++ 36 ∷ []) m in
    subst L a.2 (subst P is form)

space_by : (b : Bool) (closed : List ℕ) (l : Literal) → bytes_eq closed (92 ∷ 83 ∷ 42 ∷ []) ≡ b → (if b then Some no_white_space else None) ≡ Some l → HasForm (94 ∷ closed ++ 36 ∷ []) l
space_by true closed l is h =
    let s : closed ≡ 92 ∷ 83 ∷ 42 ∷ [] = (bytes_eq-Decides closed (92 ∷ 83 ∷ 42 ∷ [])).0 is in
    let m : no_white_space ≡ l = cc in
    let P : List ℕ → Type 0 = λ p. HasForm (94 ∷ p ++ 36 ∷ []) no_white_space in
    let L : Literal → Type 0 = λ k. HasForm (94 ∷ closed ++ 36 ∷ []) k in
    subst L m (subst P (sym s) without_space)
space_by false closed l is h = cc

closed_from : (closed : List ℕ) (l : Literal) → closed_of closed ≡ Some l → HasForm (94 ∷ closed ++ 36 ∷ []) l
closed_from closed l h =
    elim (first_or (exact_of closed) (or_else (space_of closed) (choice_of closed)) l h) [
      | inl e ↦ (let m = mapped exact (word closed) l e in
          let L : Literal → Type 0 = λ k. HasForm (94 ∷ closed ++ 36 ∷ []) k in
          subst L m.2 (an_exact_text closed m.0 (word_from closed m.0 m.1)))
      | inr rest ↦ (elim (first_or (space_of closed) (choice_of closed) l rest) [
        | inl s ↦ space_by (bytes_eq closed (92 ∷ 83 ∷ 42 ∷ [])) closed l refl s
        | inr c ↦ choice_from closed l c
      ])
    ]

pub form_from : (pattern : List ℕ) (l : Literal) → literal_of pattern ≡ Some l → HasForm pattern l
form_from pattern l h =
    let m = chained opened_of (behind 94 pattern) l h in
    let opened = m.0 in
    let P : List ℕ → Type 0 = λ p. HasForm p l in
    subst P (sym (behind_from 94 pattern opened m.1))
    (elim (first_or (option_map prefix (word opened)) (option_and_then closed_of (before 36 opened)) l m.2) [
      | inl w ↦ (let n = mapped prefix (word opened) l w in
          let L : Literal → Type 0 = λ k. HasForm (94 ∷ opened) k in
          subst L n.2 (a_prefix opened n.0 (word_from opened n.0 n.1)))
      | inr e ↦ (let n = chained closed_of (before 36 opened) l e in
          let Q : List ℕ → Type 0 = λ p. HasForm (94 ∷ p) l in
          subst Q (sym (before_from 36 opened n.0 n.1)) (closed_from n.0 l n.2))
    ])
