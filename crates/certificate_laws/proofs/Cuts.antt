-- The texts of paths, cut at their first part.
use Rattle.std.proofs.Common.{◌≡◌, ◌∙◌, ◌++◌, ◌==◌, ℕ, ◌<◌, ◌^◌, List, [], ◌∷◌, Bool, true, false, ◌&&◌, All, length, ◌+◌, refl, sym, ap, subst, append-nil, arith, decimal, true≢false, eqb-true, eq-eqb, Some, None, if◌then◌else◌}
use Rattle.std.specs.Char.{is_ascii_digit}
use Rattle.std.specs.List.{list_all, join_with_byte}
use Rattle.std.proofs.lemmas.Bool.Decides.{nat_tests}
use Rattle.std.proofs.lemmas.Fmt.{digits_decimal, decimal-digits_value}
use Rattle.std.proofs.lemmas.List.Elements.{All-nil, All-cons, All-append}
use Rattle.std.proofs.lemmas.List.Splits.{slice_split_none, slice_split_at, length-slice_split, join_with_byte-slice_split}
use Rattle.json_values.specs.Parts.{Part}
use Rattle.json_values.specs.Pointers.{escape, escaped_byte, pointer_text, is_index, index_of, number_from}
use Rattle.json_pointers.proofs.PointerLemmas.{own, digits_from_index}
use Rattle.certificate_laws.specs.Words.{IsRest, nothing, part, cuts, cuts_behind}

abbrev pub NotSlash : ℕ → Type 0
NotSlash b = (b == 47) ≡ false

-- ---- texts of parts have no `/`

escaped_byte_at : (b : ℕ) (tilde slash : Bool) → (b == 126) ≡ tilde → (b == 47) ≡ slash → All NotSlash (escaped_byte b)
escaped_byte_at b true slash e f = rw e (All-cons NotSlash 126 (48 ∷ []) refl (All-cons NotSlash 48 [] refl (All-nil NotSlash)))
escaped_byte_at b false true e f = rw (e, f) (All-cons NotSlash 126 (49 ∷ []) refl (All-cons NotSlash 49 [] refl (All-nil NotSlash)))
escaped_byte_at b false false e f = rw (e, f) (All-cons NotSlash b [] f (All-nil NotSlash))

pub escape_no_slash : (text : List ℕ) → All NotSlash (escape text)
unfolding escape
escape_no_slash [] = All-nil NotSlash
escape_no_slash (b ∷ text) = All-append NotSlash (escaped_byte b) (escape text) (escaped_byte_at b (b == 126) (b == 47) refl refl) (escape_no_slash text)

digit_no_slash : (b : ℕ) → is_ascii_digit b ≡ true → NotSlash b
digit_no_slash b digit = grind (arith, nat_tests)

first_digit : (b c : Bool) → (b && c) ≡ true → (b ≡ true) × (c ≡ true)
first_digit true c e = (refl, e)
first_digit false c e = absurd (true≢false (sym e))

digits_no_slash : (text : List ℕ) → list_all is_ascii_digit text ≡ true → All NotSlash text
digits_no_slash [] digits = All-nil NotSlash
digits_no_slash (b ∷ text) digits =
    let both = first_digit (is_ascii_digit b) (list_all is_ascii_digit text) digits in
    All-cons NotSlash b text (digit_no_slash b both.0) (digits_no_slash text both.1)

pub index_no_slash : (n : ℕ) → n < 2 ^ 64 → All NotSlash (decimal n)
index_no_slash n fits = digits_no_slash (decimal n) (digits_decimal own n fits)

-- ---- what is left of a path

pub rest_of : (path : List Part) → IsRest (pointer_text path)
rest_of [] = nothing
rest_of (p ∷ path) = part

pub rest_append : (a b : List ℕ) → IsRest a → IsRest b → IsRest (a ++ b)
rest_append _ b nothing h = h
rest_append _ b part h = part

-- ---- cut at the first part

cuts_join : (t : List ℕ) → join_with_byte 47 (cuts t) ≡ t
cuts_join t = join_with_byte-slice_split 47 t

pub cuts_one : (t u : List ℕ) → cuts t ≡ cuts u → t ≡ u
cuts_one t u e = sym (cuts_join t) ∙ ap (join_with_byte 47) e ∙ cuts_join u

pub cuts_first : (a rest : List ℕ) → All NotSlash a → IsRest rest → cuts (a ++ rest) ≡ a ∷ cuts_behind rest
cuts_first a _ clean nothing = ap cuts (append-nil a) ∙ slice_split_none (λ c. c == 47) a clean
cuts_first a _ clean (part {t = t}) = slice_split_at (λ c. c == 47) a 47 t clean refl

not_none : (t : List ℕ) → cuts t ≡ [] → ⊥
not_none t e =
    let none : length (cuts t) ≡ 0 = ap length e in
    let some : length (cuts t) ≡ _ + 1 = length-slice_split (λ c. c == 47) t in
    omega (arith, none, some)

pub behind_one : (x y : List ℕ) → IsRest x → IsRest y → cuts_behind x ≡ cuts_behind y → x ≡ y
behind_one _ _ nothing nothing e = refl
behind_one _ _ nothing (part {t = t}) e = absurd (not_none t (sym e))
behind_one _ _ (part {t = t}) nothing e = absurd (not_none t e)
behind_one _ _ (part {t = t}) (part {t = u}) e = ap (λ x. 47 ∷ x) (cuts_one t u e)

head_is : {A : Type 0} (x y : A) (xs ys : List A) → x ∷ xs ≡ y ∷ ys → (x ≡ y) × (xs ≡ ys)
head_is x y xs ys e = (cc, cc)

-- where a text is cut, its first part is the one that it begins with
pub cut_is : (t p x b y : List ℕ) → cuts t ≡ p ∷ cuts_behind x → IsRest x → All NotSlash b → IsRest y → t ≡ b ++ y → (p ≡ b) × (x ≡ y)
cut_is t p x b y cut h clean g e =
    let both = head_is p b (cuts_behind x) (cuts_behind y) (sym cut ∙ ap cuts e ∙ cuts_first b y clean g) in
    (both.0, behind_one x y h g both.1)

join_some : (p : List ℕ) (ts : List (List ℕ)) → (ts ≡ [] → ⊥) → join_with_byte 47 (p ∷ ts) ≡ p ++ (47 ∷ join_with_byte 47 ts)
join_some p [] h = absurd (h refl)
join_some p (t ∷ ts) h = refl

joins : (p x : List ℕ) → IsRest x → join_with_byte 47 (p ∷ cuts_behind x) ≡ p ++ x
joins p _ nothing = sym (append-nil p)
joins p _ (part {t = t}) = join_some p (cuts t) (not_none t) ∙ ap (λ u. p ++ (47 ∷ u)) (cuts_join t)

-- the first part and what is left are the text
pub cut_joined : (t p x : List ℕ) → cuts t ≡ p ∷ cuts_behind x → IsRest x → t ≡ p ++ x
cut_joined t p x cut h = sym (cuts_join t) ∙ ap (join_with_byte 47) cut ∙ joins p x h

-- ---- indexes

first_only : (digit : ℕ) (rest : List ℕ) → is_index (digit ∷ rest) ≡ true → digit ≡ 48 → length (digit ∷ rest) ≡ 1
first_only digit rest h e = by (digit == 48) refl h
  where
    by : (b : Bool) → (digit == 48) ≡ b → (if b then length rest == 0 else list_all is_ascii_digit (digit ∷ rest)) ≡ true → length (digit ∷ rest) ≡ 1
    by true is g = let none : length rest ≡ 0 = eqb-true (length rest) 0 g in omega (arith, none)
    by false is g = absurd (true≢false (sym (eq-eqb digit 48 e) ∙ is))

index_written : (t : List ℕ) → is_index t ≡ true → number_from 0 t < 2 ^ 64 → decimal (number_from 0 t) ≡ t
index_written [] h fits = absurd (true≢false (sym h))
index_written (digit ∷ rest) h fits =
    decimal-digits_value own (digit ∷ rest) (digits_from_index (digit ∷ rest) h) (omega arith) (λ e. first_only digit rest h e) fits

index_if : (t : List ℕ) (n : ℕ) (b : Bool) → is_index t ≡ b → (if b then Some (number_from 0 t) else None) ≡ Some n → n < 2 ^ 64 → t ≡ decimal n
index_if t n true is e fits =
    let same : number_from 0 t ≡ n = cc in
    sym (index_written t is (subst (λ k. k < 2 ^ 64) (sym same) fits)) ∙ ap decimal same
index_if t n false is e fits = absurd (let no : None ≡ Some n = e in cc)

-- a text that is an index is the one that the index is written by
pub index_text : (t : List ℕ) (n : ℕ) → index_of t ≡ Some n → n < 2 ^ 64 → t ≡ decimal n
index_text t n e fits = index_if t n (is_index t) refl e fits
