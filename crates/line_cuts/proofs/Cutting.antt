-- Lemmas on lines.
use Rattle.std.proofs.Common.{◌≡◌, ◌==◌, if◌then◌else◌, ◌<◌, ◌+◌, ◌-◌, ◌∙◌, ℕ, List, [], ◌∷◌, ◌++◌, Bool, true, false, Some, None, length, take, drop, arith, ap, refl, sym}
use Rattle.std.specs.List.{onto_first, position_or_len}
use Rattle.std.proofs.lemmas.Bool.{false_from_ne_true}
use Rattle.std.proofs.lemmas.List.{take_rest}
use Rattle.std.proofs.lemmas.List.Splits.{slice_split_first, slice_split_none}
use Rattle.std.proofs.lemmas.List.Elements.{All-from_get_or}
use Rattle.std.proofs.lemmas.List.Sums.{position_or_len_is}
use Rattle.memchr.specs.Find.{IsFirstByte, is_byte}
use Rattle.line_cuts.specs.Cuts.{pieces, all_but_last, last_of, ended_in, part_of}

-- ---- the first line

pub no_first : (bytes : List ℕ) → IsFirstByte (is_byte 10) bytes None → pieces bytes ≡ bytes ∷ []
no_first bytes h = slice_split_none (λ b. b == 10) bytes (All-from_get_or (λ b. (b == 10) ≡ false) bytes 0 (λ i within. false_from_ne_true _ (h i (omega arith) within)))

pub first_at : (bytes : List ℕ) (k : ℕ) → IsFirstByte (is_byte 10) bytes (Some k) → pieces bytes ≡ take k bytes ∷ pieces (take (length bytes - (k + 1)) (drop (k + 1) bytes))
first_at bytes k h =
    let within : k < length bytes = h.0.high in
    let at : position_or_len (λ b. b == 10) bytes ≡ k =
    position_or_len_is (λ b. b == 10) bytes k 0 (omega arith) (λ i below. false_from_ne_true _ (h.0.before i (omega arith) below)) (λ _. h.1) in
    let found : position_or_len (λ b. b == 10) bytes < length bytes = omega arith in
    slice_split_first (λ b. b == 10) bytes 0 found ∙ ap (λ n. take n bytes ∷ pieces (drop (n + 1) bytes)) at
    ∙ ap (λ rest. take k bytes ∷ pieces rest) (sym (take_rest bytes (k + 1)))

-- ---- cuts of two texts joined

abbrev pub is_filled : List (List ℕ) → Bool
is_filled [] = false
is_filled (p ∷ ps) = true

-- the last part goes on with the first of the next
abbrev pub glued : List ℕ → List (List ℕ) → List (List ℕ)
glued part [] = part ∷ []
glued part (q ∷ qs) = (part ++ q) ∷ qs

abbrev pub joined : List (List ℕ) → List (List ℕ) → List (List ℕ)
joined ps qs = all_but_last ps ++ glued (last_of ps) qs

onto_filled : (x : ℕ) (ps : List (List ℕ)) → is_filled (onto_first x ps) ≡ true
onto_filled x [] = refl
onto_filled x (p ∷ ps) = refl

pub pieces_filled : (bytes : List ℕ) → is_filled (pieces bytes) ≡ true
pieces_filled [] = refl
pieces_filled (x ∷ xs) = elim (x == 10) as (λ b. is_filled (if b then [] ∷ pieces xs else onto_first x (pieces xs)) ≡ true) [ true ↦ refl | false ↦ onto_filled x (pieces xs) ]

glued_filled : (part : List ℕ) (qs : List (List ℕ)) → is_filled (glued part qs) ≡ true
glued_filled part [] = refl
glued_filled part (q ∷ qs) = refl

glued_nothing : (qs : List (List ℕ)) → is_filled qs ≡ true → qs ≡ glued [] qs
glued_nothing [] h = absurd cc
glued_nothing (q ∷ qs) h = refl

onto_joined : (x : ℕ) (p : List ℕ) (ps qs : List (List ℕ)) → onto_first x (joined (p ∷ ps) qs) ≡ joined (onto_first x (p ∷ ps)) qs
onto_joined x p [] [] = refl
onto_joined x p [] (q ∷ qs) = refl
onto_joined x p (r ∷ rs) qs = refl

joined_end : (ps qs all : List (List ℕ)) → is_filled ps ≡ true → all ≡ joined ps qs → [] ∷ all ≡ joined ([] ∷ ps) qs
joined_end [] qs all f h = absurd cc
joined_end (p ∷ ps) qs all f h = ap (λ l. [] ∷ l) h

joined_more : (x : ℕ) (ps qs all : List (List ℕ)) → is_filled ps ≡ true → all ≡ joined ps qs → onto_first x all ≡ joined (onto_first x ps) qs
joined_more x [] qs all f h = absurd cc
joined_more x (p ∷ ps) qs all f h = ap (onto_first x) h ∙ onto_joined x p ps qs

pub pieces_append : (a b : List ℕ) → pieces (a ++ b) ≡ joined (pieces a) (pieces b)
pieces_append [] b = glued_nothing (pieces b) (pieces_filled b)
pieces_append (x ∷ a) b =
    let h = pieces_append a b in
    let f = pieces_filled a in
    elim (x == 10) as (λ t. (if t then [] ∷ pieces (a ++ b) else onto_first x (pieces (a ++ b))) ≡ joined (if t then [] ∷ pieces a else onto_first x (pieces a)) (pieces b))
    [ true ↦ joined_end (pieces a) (pieces b) (pieces (a ++ b)) f h | false ↦ joined_more x (pieces a) (pieces b) (pieces (a ++ b)) f h ]

all_but_last-cons : (p : List ℕ) (ps : List (List ℕ)) → is_filled ps ≡ true → all_but_last (p ∷ ps) ≡ p ∷ all_but_last ps
all_but_last-cons p [] f = absurd cc
all_but_last-cons p (q ∷ qs) f = refl

last_of-cons : (p : List ℕ) (ps : List (List ℕ)) → is_filled ps ≡ true → last_of (p ∷ ps) ≡ last_of ps
last_of-cons p [] f = absurd cc
last_of-cons p (q ∷ qs) f = refl

append_filled : (ps qs : List (List ℕ)) → is_filled qs ≡ true → is_filled (ps ++ qs) ≡ true
append_filled [] qs f = f
append_filled (p ∷ ps) qs f = refl

all_but_last-append : (ps qs : List (List ℕ)) → is_filled qs ≡ true → all_but_last (ps ++ qs) ≡ ps ++ all_but_last qs
all_but_last-append [] qs f = refl
all_but_last-append (p ∷ ps) qs f = all_but_last-cons p (ps ++ qs) (append_filled ps qs f) ∙ ap (λ l. p ∷ l) (all_but_last-append ps qs f)

last_of-append : (ps qs : List (List ℕ)) → is_filled qs ≡ true → last_of (ps ++ qs) ≡ last_of qs
last_of-append [] qs f = refl
last_of-append (p ∷ ps) qs f = last_of-cons p (ps ++ qs) (append_filled ps qs f) ∙ last_of-append ps qs f

-- ---- a part that no line end stands in

part_onto : (x : ℕ) (ps : List (List ℕ)) → (x == 10) ≡ false → is_filled ps ≡ true → pieces (last_of ps) ≡ last_of ps ∷ [] → pieces (last_of (onto_first x ps)) ≡ last_of (onto_first x ps) ∷ []
part_onto x [] e f h = absurd cc
part_onto x (p ∷ []) e f h = ap (λ t. if t then [] ∷ pieces p else onto_first x (pieces p)) e ∙ ap (onto_first x) h
part_onto x (p ∷ q ∷ qs) e f h = h

part_ends : (ps : List (List ℕ)) → is_filled ps ≡ true → pieces (last_of ps) ≡ last_of ps ∷ [] → pieces (last_of ([] ∷ ps)) ≡ last_of ([] ∷ ps) ∷ []
part_ends [] f h = absurd cc
part_ends (p ∷ ps) f h = h

pub part_plain : (a : List ℕ) → pieces (part_of a) ≡ part_of a ∷ []
part_plain [] = refl
part_plain (x ∷ a) =
    let h = part_plain a in
    let f = pieces_filled a in
    let go : (t : Bool) → (x == 10) ≡ t → pieces (last_of (if t then [] ∷ pieces a else onto_first x (pieces a))) ≡ last_of (if t then [] ∷ pieces a else onto_first x (pieces a)) ∷ [] =
    elim [ true ↦ λ _. part_ends (pieces a) f h | false ↦ λ e. part_onto x (pieces a) e f h ] in
    go (x == 10) refl

pub kept_plain : (kept whole : List ℕ) → kept ≡ part_of whole → pieces kept ≡ kept ∷ []
kept_plain kept whole e = ap pieces e ∙ part_plain whole ∙ ap (λ l. l ∷ []) (sym e)

pub pieces_plain : (part b : List ℕ) → pieces part ≡ part ∷ [] → pieces (part ++ b) ≡ glued part (pieces b)
pieces_plain part b h = pieces_append part b ∙ ap (λ ps. joined ps (pieces b)) h

-- ---- lines of two texts joined

pub ended_append : (a b : List ℕ) → ended_in (a ++ b) ≡ ended_in a ++ ended_in (part_of a ++ b)
ended_append a b =
    ap all_but_last (pieces_append a b) ∙ all_but_last-append (ended_in a) (glued (part_of a) (pieces b)) (glued_filled (part_of a) (pieces b))
    ∙ ap (λ ps. ended_in a ++ all_but_last ps) (sym (pieces_plain (part_of a) b (part_plain a)))

pub part_append : (a b : List ℕ) → part_of (a ++ b) ≡ part_of (part_of a ++ b)
part_append a b =
    ap last_of (pieces_append a b) ∙ last_of-append (ended_in a) (glued (part_of a) (pieces b)) (glued_filled (part_of a) (pieces b))
    ∙ ap last_of (sym (pieces_plain (part_of a) b (part_plain a)))

-- ---- a line ends, or none does

module _ (part rest : List ℕ) (plain : pieces part ≡ part ∷ []) where
  module _ (line after : List ℕ) (cut : pieces rest ≡ line ∷ pieces after) where
    pub ended_first : ended_in (part ++ rest) ≡ (part ++ line) ∷ ended_in after
    ended_first = ap all_but_last (pieces_plain part rest plain ∙ ap (glued part) cut) ∙ all_but_last-cons (part ++ line) (pieces after) (pieces_filled after)

    pub part_first : part_of (part ++ rest) ≡ part_of after
    part_first = ap last_of (pieces_plain part rest plain ∙ ap (glued part) cut) ∙ last_of-cons (part ++ line) (pieces after) (pieces_filled after)

  pub ended_none : pieces rest ≡ rest ∷ [] → ended_in (part ++ rest) ≡ []
  ended_none none = ap all_but_last (pieces_plain part rest plain ∙ ap (glued part) none)

  pub part_none : pieces rest ≡ rest ∷ [] → part_of (part ++ rest) ≡ part ++ rest
  part_none none = ap last_of (pieces_plain part rest plain ∙ ap (glued part) none)
