-- Indexes, and a pointer one part at a time.
use Rattle.std.proofs.Common.{◌≡◌, ◌≢◌, ℕ, ◌<◌, ◌≤◌, ◌^◌, ◌==◌, List, [], ◌∷◌, length, get_or, Bool, true, false, nat_lt, if◌then◌else◌, Some, None, option_and_then, Result, Ok, Err, Bor, true≢false, refl, sym, ap, ◌∙◌, arith, rules, ne_eqb, lt-ltb, eqb-true, lit<, ltb-false}
use Rattle.std.specs.Char.{is_ascii_digit}
use Rattle.std.specs.List.{list_all, slice_split, after_first}
use Rattle.std.specs.Result.{result_map_both, result_ok, IsErrAnd}
use Rattle.std.specs.Str.Parse.{ParsesUnsigned}
use Rattle.std.proofs.lemmas.Bool.Decides.{nat_tests}
use Rattle.std.proofs.lemmas.List.Elements.{All-from_get_or}
use Rattle.std.proofs.lemmas.List.Splits.{slice_split_first, slice_split_none}
use Rattle.std.proofs.lemmas.Str.Parse.{IsNumeralModel, numerals_by_fold, parse_digits}
use Rattle.std.proofs.lemmas.Str.Pattern.{IsSplitOnceResult, split_once_first, split_parts}
use Rattle.serde_json.specs.Data.{Data}
use Rattle.serde_json.specs.View.{view, items_view}
use Rattle.serde_json.specs.declared.value.Value.{Value}
use Rattle.serde_json.proofs.Views.{get_item_within, get_item_past}
use Rattle.json_pointers.specs.Lent.{stop_of}
use Rattle.json_pointers.specs.declared.pointers.PointerError.{PointerError}
use Rattle.json_values.specs.Pointers.{is_index, number_from, index_of, index_below, Stop, nowhere, not_a_pointer, found, item_at, step_from, and_then, follow, locate}

-- ---- indexes

pub own : IsNumeralModel (λ ds. list_all is_ascii_digit ds ≡ true) (number_from 0)
own = numerals_by_fold _ (search rules) number_from (search rules)

digits_if : (digit : ℕ) (rest : List ℕ) (b : Bool) → (digit == 48) ≡ b → (if b then length rest == 0 else list_all is_ascii_digit (digit ∷ rest)) ≡ true
    → list_all is_ascii_digit (digit ∷ rest) ≡ true
digits_if digit [] true e shown = rw (eqb-true digit 48 e) refl
digits_if digit (next ∷ rest) true e shown = absurd (omega (arith, eqb-true _ _ shown))
digits_if digit rest false e shown = shown

pub digits_from_index : (text : List ℕ) → is_index text ≡ true → list_all is_ascii_digit text ≡ true
digits_from_index [] shown = absurd (true≢false (sym shown))
digits_from_index (digit ∷ rest) shown = digits_if digit rest (digit == 48) refl shown

some_from_index : (text : List ℕ) → is_index text ≡ true → 0 < length text
some_from_index [] shown = absurd (true≢false (sym shown))
some_from_index (digit ∷ rest) shown = omega arith

below_if : (text : List ℕ) (limit : ℕ) → is_index text ≡ true → index_below limit text ≡ (if nat_lt (number_from 0 text) limit then Some (number_from 0 text) else None)
below_if text limit shown = rw shown

not_below : (n limit : ℕ) → (n < limit → ⊥) → nat_lt n limit ≡ false
not_below n limit never = grind (arith, nat_tests)

pub index_from_parse : {E : Type 0} (text : List ℕ) (r : Result ℕ E) → is_index text ≡ true → ParsesUnsigned 64 10 text r → result_ok r ≡ index_below (2 ^ 64) text
index_from_parse {E} text (Ok x) shown h =
    let gives = parse_digits own {E = E} 64 text (Ok x) h (digits_from_index text shown) in
    rw (below_if text (2 ^ 64) shown, lt-ltb _ _ gives.0.1) (ap Some gives.1)
index_from_parse {E} text (Err e) shown h =
    let never = parse_digits own {E = E} 64 text (Err e) h (digits_from_index text shown) in
    let past : nat_lt (number_from 0 text) (2 ^ 64) ≡ false = not_below _ _ (λ below. never (some_from_index text shown, below)) in
    rw (below_if text (2 ^ 64) shown, past) refl

some_if : (b c : Bool) (n limit i : ℕ) → option_and_then (λ m. if nat_lt m limit then Some m else None) (if b then Some n else None) ≡ Some i → nat_lt n limit ≡ c → (if b then Some n else None) ≡ Some i
some_if true true n limit i e is = rw is at e
some_if true false n limit i e is = absurd (cc (rw is at e))
some_if false c n limit i e is = absurd (cc e)

pub index_below-Some : (text : List ℕ) (limit i : ℕ) → index_below limit text ≡ Some i → index_of text ≡ Some i
index_below-Some text limit i e = some_if (is_index text) _ (number_from 0 text) limit i e refl

past_if : (n limit : ℕ) (c : Bool) → nat_lt n limit ≡ c → (if c then Some n else None) ≡ None → limit ≤ n
past_if n limit true is e = absurd (cc e)
past_if n limit false is e = omega (arith, ltb-false n limit is)

pub index_below-None : (text : List ℕ) (limit : ℕ) → is_index text ≡ true → index_below limit text ≡ None → (index_of text ≡ Some (number_from 0 text)) × (limit ≤ number_from 0 text)
index_below-None text limit shown e =
    (rw shown, past_if (number_from 0 text) limit _ refl (sym (below_if text limit shown) ∙ e))

-- ---- steps

pub parts_some : (bs : List ℕ) (a b : Bor (List ℕ)) → IsSplitOnceResult 47 bs (Some (a, b)) → slice_split (λ c. c == 47) bs ≡ a.now ∷ slice_split (λ c. c == 47) b.now
parts_some bs a b h =
    let f = split_once_first 47 bs (Some (a, b)) h (lit< tt) in
    slice_split_first (λ c. c == 47) bs 0 f.0 ∙ ap (λ s. s ∷ slice_split (λ c. c == 47) (after_first (λ c. c == 47) bs)) (sym f.1) ∙ ap (λ t. a.now ∷ slice_split (λ c. c == 47) t) (sym f.2)

pub parts_none : (bs : List ℕ) → IsSplitOnceResult 47 bs None → slice_split (λ c. c == 47) bs ≡ bs ∷ []
parts_none bs h =
    let f = split_parts 47 bs None h (lit< tt) in
    slice_split_none (λ c. c == 47) bs (All-from_get_or (λ c. (c == 47) ≡ false) bs 0 (λ i within. ne_eqb _ _ (f i within)))

pub follow_on : (d : Data) (bs : List ℕ) (a b : Bor (List ℕ)) → IsSplitOnceResult 47 bs (Some (a, b)) → (r : Result Data Stop) → r ≡ step_from d a.now → and_then (follow (slice_split (λ c. c == 47) b.now)) r ≡ follow (slice_split (λ c. c == 47) bs) d
unfolding follow
follow_on d bs a b h r e = rw (parts_some bs a b h, e) refl

and_then_Ok : (r : Result Data Stop) → and_then (λ d. Ok d) r ≡ r
and_then_Ok (Ok d) = refl
and_then_Ok (Err stop) = refl

pub follow_last : (d : Data) (bs : List ℕ) → IsSplitOnceResult 47 bs None → step_from d bs ≡ follow (slice_split (λ c. c == 47) bs) d
unfolding follow
follow_last d bs h = rw (parts_none bs h) (sym (and_then_Ok (step_from d bs)))

pub item_past : (token : List ℕ) (vs : List Value) → is_index token ≡ true → index_below (2 ^ 64) token ≡ None → length vs < 2 ^ 64 → Err nowhere ≡ item_at token (index_of token) (items_view vs)
item_past token vs shown none fits =
    let past = index_below-None token (2 ^ 64) shown none in
    rw past.0 (ap found (get_item_past vs (number_from 0 token) (omega (arith, past.1, fits))))

pub item_within : (token : List ℕ) (vs : List Value) (i : ℕ) (v : Value) → index_below (2 ^ 64) token ≡ Some i → i < length vs → v ≡ get_or vs i v → Ok (view v) ≡ item_at token (index_of token) (items_view vs)
item_within token vs i v some within e =
    rw (index_below-Some token (2 ^ 64) i some) (ap found (ap (λ x. Some (view x)) e ∙ get_item_within vs i v within))

pub item_beyond : (token : List ℕ) (vs : List Value) (i : ℕ) → index_below (2 ^ 64) token ≡ Some i → length vs ≤ i → Err nowhere ≡ item_at token (index_of token) (items_view vs)
item_beyond token vs i some beyond =
    rw (index_below-Some token (2 ^ 64) i some) (ap found (get_item_past vs i beyond))

-- ---- the front of a pointer

pub locate_other : (text : List ℕ) (d : Data) → 0 < length text → ((rest : List ℕ) → text ≢ 47 ∷ rest) → Err not_a_pointer ≡ locate text d
locate_other [] d some other = absurd (omega arith)
locate_other (b ∷ text) d some other = rw (ne_eqb b 47 (λ e. other text (ap (λ x. x ∷ text) e)))

pub locate_slash : (text rest : List ℕ) (d : Data) → text ≡ 47 ∷ rest → follow (slice_split (λ c. c == 47) rest) d ≡ locate text d
locate_slash text rest d e = rw e refl

-- an error that `?` passes on
pub kept_error : (r : Result (Bor Value) PointerError) (e : PointerError) → IsErrAnd r (λ x. x ≡ e) → result_map_both (λ (v : Bor Value). view v.now) stop_of r ≡ Err (stop_of e)
kept_error (Ok v) e h = absurd h
kept_error (Err x) e h = ap (λ y. Err (stop_of y)) h
