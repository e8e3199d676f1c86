-- Fragments: the set of bytes that are encoded, the grammar, and the way back.
use Rattle.std.proofs.Common.{◌≡◌, ℕ, ◌+◌, ◌/◌, ◌%◌, ◌<◌, ◌≤◌, ◌&&◌, not, nat_lt, List, [], ◌∷◌, ◌++◌, length, Bool, true, false, if◌then◌else◌, All, codes, Result, Ok, Err, OnOk, OnErr, true≢false, refl, sym, ap, subst, ◌∙◌, arith, ne_eqb}
use Rattle.std.specs.Char.{is_ascii_alphanumeric, is_digit}
use Rattle.std.specs.Fmt.{digit_glyph}
use Rattle.std.specs.List.{list_all}
use Rattle.std.proofs.lemmas.Bool.{agree_below, agree_below_at, ltb-true, ltb-false}
use Rattle.std.proofs.lemmas.Bool.Decides.{nat_tests}
use Rattle.std.proofs.lemmas.Grind.{flat_map-append}
use Rattle.std.proofs.lemmas.List.Elements.{All-append}
use Rattle.percent_encoding.specs.AsciiSet.{contains, should_percent_encode}
use Rattle.percent_encoding.specs.Percent.{percent_encode_byte, percent_encode, percent_decode}
use Rattle.percent_encoding.proofs.AsciiSetLemmas.{ascii_from_kept}
use Rattle.percent_encoding.proofs.PercentLemmas.{IsByte, All-percent_encode, All-percent_decode, percent_encode-nil, round_trip}
use Rattle.json_pointers.specs.declared.fragments.TheConstants.{ENCODED}
use Rattle.json_pointers.specs.Fragments.{is_among, may_stand, is_fragment, fragment_text}

-- ---- the set

below : agree_below (contains ENCODED) (λ b. not (may_stand b)) 128 ≡ true
below = refl

and_true : (a b : Bool) → (a && b) ≡ true → (a ≡ true) × (b ≡ true)
and_true true b e = (refl, e)
and_true false b e = absurd (true≢false (sym e))

among_past : (bytes : List ℕ) (b : ℕ) → list_all (λ c. nat_lt c 128) bytes ≡ true → 128 ≤ b → is_among bytes b ≡ false
among_past [] b small past = refl
among_past (c ∷ bytes) b small past =
    let both = and_true (nat_lt c 128) (list_all (λ x. nat_lt x 128) bytes) small in
    let less : c < 128 = ltb-true c 128 both.0 in
    rw (ne_eqb c b (λ e. omega arith)) (among_past bytes b both.1 past)

alphanumeric_past : (b : ℕ) → 128 ≤ b → is_ascii_alphanumeric b ≡ false
alphanumeric_past b past = grind (arith, nat_tests)

past_ascii : (b : ℕ) → 128 ≤ b → may_stand b ≡ false
past_ascii b past =
    rw (alphanumeric_past b past, among_past (codes "-._~") b refl past, among_past (codes "!$&'()*+,;=") b refl past, among_past (codes ":@/?") b refl past) refl

encoded_at : (b : ℕ) (ascii : Bool) → nat_lt b 128 ≡ ascii → should_percent_encode ENCODED b ≡ not (may_stand b)
unfolding should_percent_encode
encoded_at b true e = rw e (agree_below_at (contains ENCODED) (λ x. not (may_stand x)) 128 b below (ltb-true b 128 e))
encoded_at b false e = rw (e, past_ascii b (ltb-false b 128 e)) refl

encoded : (b : ℕ) → should_percent_encode ENCODED b ≡ not (may_stand b)
encoded b = encoded_at b (nat_lt b 128) refl

flipped : (b : Bool) (xs ys : List ℕ) → (if not b then xs else ys) ≡ (if b then ys else xs)
flipped true xs ys = refl
flipped false xs ys = refl

pub percent_encode-ENCODED : (text : List ℕ) → percent_encode ENCODED text ≡ fragment_text text
unfolding percent_encode fragment_text
percent_encode-ENCODED [] = refl
percent_encode-ENCODED (b ∷ text) =
    rw (encoded b, flipped (may_stand b) (percent_encode_byte b) (b ∷ []))
    (ap (λ l. (if may_stand b then b ∷ [] else percent_encode_byte b) ++ l) (percent_encode-ENCODED text))

-- ---- the grammar

hex_glyph : (d : ℕ) → d < 16 → is_digit (digit_glyph true d) 16 ≡ true
hex_glyph d small = grind (arith, nat_tests)

stands_at : (b : ℕ) (text : List ℕ) (stands : Bool) → may_stand b ≡ stands → is_fragment text ≡ true
    → is_fragment ((if stands then b ∷ [] else percent_encode_byte b) ++ text) ≡ true
unfolding percent_encode_byte
stands_at b text true e rest = rw (ne_eqb b 37 (λ same. true≢false (sym e ∙ ap may_stand same)), e) rest
stands_at b text false e rest = rw (hex_glyph (b / 16 % 16) (omega arith), hex_glyph (b % 16) (omega arith)) rest

pub is_fragment-fragment_text : (text : List ℕ) → is_fragment (fragment_text text) ≡ true
unfolding fragment_text
is_fragment-fragment_text [] = refl
is_fragment-fragment_text (b ∷ text) = stands_at b (fragment_text text) (may_stand b) refl (is_fragment-fragment_text text)

-- ---- the way back

fragment_text-append : (xs ys : List ℕ) → fragment_text (xs ++ ys) ≡ fragment_text xs ++ fragment_text ys
unfolding fragment_text
fragment_text-append xs ys = flat_map-append _ xs ys

decoded : (text : List ℕ) → All IsByte text → percent_decode (fragment_text text) ≡ text
decoded text small = ap percent_decode (sym (percent_encode-ENCODED text)) ∙ round_trip ENCODED text refl small

small_pushed : (old : List ℕ) → old ≡ fragment_text (percent_decode old) → All IsByte (percent_decode old)
small_pushed old e =
    let all = All-percent_encode IsByte ENCODED (percent_decode old) (λ b kept. omega (arith, ascii_from_kept ENCODED b kept)) (λ b escape. grind arith) in
    All-percent_decode old (subst (All IsByte) (percent_encode-ENCODED (percent_decode old) ∙ sym e) all)

pub decoded_push : (old text new : List ℕ) → old ≡ fragment_text (percent_decode old) → All IsByte text → new ≡ old ++ percent_encode ENCODED text → (percent_decode new ≡ percent_decode old ++ text) × (new ≡ fragment_text (percent_decode new))
decoded_push old text new e small is =
    let whole : new ≡ fragment_text (percent_decode old ++ text) =
    is ∙ ap (λ l. l ++ percent_encode ENCODED text) e ∙ ap (λ l. fragment_text (percent_decode old) ++ l) (percent_encode-ENCODED text) ∙ sym (fragment_text-append (percent_decode old) text) in
    let back : percent_decode new ≡ percent_decode old ++ text = ap percent_decode whole ∙ decoded (percent_decode old ++ text) (All-append IsByte (percent_decode old) text (small_pushed old e) small) in
    (back, whole ∙ ap fragment_text (sym back))

pub kept_push : {T E : Type 0} (r : Result T E) (old text new : List ℕ) → old ≡ fragment_text (percent_decode old) → All IsByte text → OnOk r (new ≡ old ++ percent_encode ENCODED text) → OnErr r (new ≡ old) → new ≡ fragment_text (percent_decode new)
kept_push (Ok x) old text new e small ok err = (decoded_push old text new e small ok).1
kept_push (Err x) old text new e small ok err = err ∙ e ∙ ap (λ l. fragment_text (percent_decode l)) (sym err)

pub back_push : {T E : Type 0} (r : Result T E) (old text new : List ℕ) → old ≡ fragment_text (percent_decode old) → All IsByte text → OnOk r (new ≡ old ++ percent_encode ENCODED text) → OnOk r (percent_decode new ≡ percent_decode old ++ text)
back_push (Ok x) old text new e small ok = (decoded_push old text new e small ok).0
back_push (Err x) old text new e small ok = tt

-- an append was refused for want of room, so something was to be appended
some_left : (room len : ℕ) (text : List ℕ) → room < len + length (percent_encode ENCODED text) → len ≤ room → 0 < length text
some_left room len [] full within = absurd (omega (arith, full, within, ap length (percent_encode-nil ENCODED)))
some_left room len (b ∷ text) full within = omega arith

pub some_refused : {T E : Type 0} (r : Result T E) (room len : ℕ) (text : List ℕ) → OnErr r (room < len + length (percent_encode ENCODED text)) → len ≤ room → OnErr r (0 < length text)
some_refused (Ok x) room len text full within = tt
some_refused (Err x) room len text full within = some_left room len text full within
