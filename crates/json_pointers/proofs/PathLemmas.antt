-- A path's text leads to the value at the path.
use Rattle.std.proofs.Common.{◌≡◌, ℕ, ◌<◌, ◌^◌, ◌==◌, ◌&&◌, List, [], ◌∷◌, ◌++◌, zero, suc, get_or, Bool, true, false, All, Option, Some, None, option_and_then, Result, Ok, decimal, true≢false, refl, sym, ap, arith, append-nil, ne_eqb}
use Rattle.std.specs.Char.{is_ascii_digit}
use Rattle.std.specs.List.{list_all, slice_split}
use Rattle.std.proofs.lemmas.Bool.Decides.{nat_tests}
use Rattle.std.proofs.lemmas.Fmt.{decimal_digit, first_decimal, digits_decimal, digits_value-decimal}
use Rattle.std.proofs.lemmas.List.Elements.{All-nil, All-cons, All-append}
use Rattle.std.proofs.lemmas.List.Splits.{slice_split_none, slice_split_at}
use Rattle.serde_json.specs.Data.{Data, null, boolean, number, string, array, object}
use Rattle.json_values.specs.Parts.{Part, name, index}
use Rattle.json_values.specs.Pointers.{escape, escaped_byte, part_text, pointer_text, value_in, value_at, PartFits, PathFits, is_index, index_of, Stop, found, step_from, follow, locate}
use Rattle.json_pointers.proofs.EscapeLemmas.{unescape-escape}
use Rattle.json_pointers.proofs.PointerLemmas.{own}

-- ---- an index's text

index_by_first : (text : List ℕ) → list_all is_ascii_digit text ≡ true → 48 < get_or text 0 0 → is_index text ≡ true
index_by_first [] digits first = absurd (omega arith)
index_by_first (digit ∷ rest) digits first =
    rw (ne_eqb digit 48 (λ e. omega arith)) digits

pub is_index-decimal : (n : ℕ) → n < 2 ^ 64 → is_index (decimal n) ≡ true
is_index-decimal zero fits = rw (decimal_digit 0 (omega arith)) refl
is_index-decimal (suc n) fits = index_by_first (decimal (suc n)) (digits_decimal own (suc n) fits) (first_decimal (suc n) (omega arith) fits)

pub index_of-decimal : (n : ℕ) → n < 2 ^ 64 → index_of (decimal n) ≡ Some n
index_of-decimal n fits = rw (is_index-decimal n fits) (ap Some (digits_value-decimal own n fits))

and_true : (a b : Bool) → (a && b) ≡ true → (a ≡ true) × (b ≡ true)
and_true true b e = (refl, e)
and_true false b e = absurd (true≢false (sym e))

-- ---- no part's text has a `/`

abbrev NotSlash : ℕ → Type 0
NotSlash b = (b == 47) ≡ false

escaped_byte_at : (b : ℕ) (tilde slash : Bool) → (b == 126) ≡ tilde → (b == 47) ≡ slash → All NotSlash (escaped_byte b)
escaped_byte_at b true slash e f = rw e (All-cons NotSlash 126 (48 ∷ []) refl (All-cons NotSlash 48 [] refl (All-nil NotSlash)))
escaped_byte_at b false true e f = rw (e, f) (All-cons NotSlash 126 (49 ∷ []) refl (All-cons NotSlash 49 [] refl (All-nil NotSlash)))
escaped_byte_at b false false e f = rw (e, f) (All-cons NotSlash b [] f (All-nil NotSlash))

All-escape : (text : List ℕ) → All NotSlash (escape text)
unfolding escape
All-escape [] = All-nil NotSlash
All-escape (b ∷ text) = All-append NotSlash (escaped_byte b) (escape text) (escaped_byte_at b (b == 126) (b == 47) refl refl) (All-escape text)

digit_no_slash : (b : ℕ) → is_ascii_digit b ≡ true → NotSlash b
digit_no_slash b digit = grind (arith, nat_tests)

All-digits : (text : List ℕ) → list_all is_ascii_digit text ≡ true → All NotSlash text
All-digits [] digits = All-nil NotSlash
All-digits (b ∷ text) digits =
    let both = and_true (is_ascii_digit b) (list_all is_ascii_digit text) digits in
    All-cons NotSlash b text (digit_no_slash b both.0) (All-digits text both.1)

All-part_text : (part : Part) → PartFits part → All NotSlash (part_text part)
All-part_text (name text) fits = All-escape text
All-part_text (index n) fits = All-digits (decimal n) (digits_decimal own n fits)

-- ---- following

step_part : (part : Part) (d e : Data) → PartFits part → value_in part d ≡ Some e → step_from d (part_text part) ≡ Ok e
step_part (name text) null e fits h = absurd (cc h)
step_part (name text) (boolean b) e fits h = absurd (cc h)
step_part (name text) (number n) e fits h = absurd (cc h)
step_part (name text) (string s) e fits h = absurd (cc h)
step_part (name text) (array ds) e fits h = absurd (cc h)
step_part (name text) (object ms) e fits h = rw (unescape-escape text) (ap found h)
step_part (index n) null e fits h = absurd (cc h)
step_part (index n) (boolean b) e fits h = absurd (cc h)
step_part (index n) (number x) e fits h = absurd (cc h)
step_part (index n) (string s) e fits h = absurd (cc h)
step_part (index n) (array ds) e fits h = rw (index_of-decimal n fits) (ap found h)
step_part (index n) (object ms) e fits h = absurd (cc h)

-- the value at the first part, and from there on
first_value : (part : Part) (path : List Part) (d v : Data) (o : Option Data) → value_in part d ≡ o → option_and_then (value_at path) o ≡ Some v → (e : Data) × (value_in part d ≡ Some e) × (value_at path e ≡ Some v)
first_value part path d v None is h = absurd (cc h)
first_value part path d v (Some e) is h = (e, is, h)

some_ok : (d v : Data) → Some d ≡ Some v → ◌≡◌ {A = Result Data Stop} (Ok d) (Ok v)
some_ok d v h = cc

follow_path : (path : List Part) (part : Part) (d v : Data) → PathFits (part ∷ path) → value_at (part ∷ path) d ≡ Some v → follow (slice_split (λ c. c == 47) (part_text part ++ pointer_text path)) d ≡ Ok v
unfolding follow
follow_path [] part d v fits h =
    let first = first_value part [] d v _ refl h in
    rw (append-nil (part_text part), slice_split_none (λ c. c == 47) (part_text part) (All-part_text part fits.0), step_part part d first.0 fits.0 first.1)
    (some_ok first.0 v first.2)
follow_path (next ∷ path) part d v fits h =
    let first = first_value part (next ∷ path) d v _ refl h in
    rw (slice_split_at (λ c. c == 47) (part_text part) 47 (part_text next ++ pointer_text path) (All-part_text part fits.0) refl, step_part part d first.0 fits.0 first.1)
    (follow_path path next first.0 v fits.1 first.2)

pub locate_path : (path : List Part) (d v : Data) → PathFits path → value_at path d ≡ Some v → locate (pointer_text path) d ≡ Ok v
locate_path [] d v fits h = some_ok d v h
locate_path (part ∷ path) d v fits h = follow_path path part d v fits h
