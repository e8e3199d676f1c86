-- Escaping and unescaping, a piece at a time.
use Rattle.std.proofs.Common.{◌≡◌, ◌≢◌, ℕ, suc, ◌==◌, ◌&&◌, List, [], ◌∷◌, ◌++◌, get_or, Bool, true, false, if◌then◌else◌, codes, refl, sym, ap, ◌∙◌, arith, append_assoc, append-nil, ne_eqb, eqb-true, eq-eqb, true≢false}
use Rattle.serde_json.specs.Find.{unescape}
use Rattle.serde_json.proofs.Paths.{Lacks}
use Rattle.json_values.specs.Pointers.{escape, escaped_byte, escape_slashes, replace_escape, unescape_in_turn}

lacks_tail : (c x : ℕ) (xs : List ℕ) → Lacks c (x ∷ xs) → Lacks c xs
lacks_tail c x xs h i less = h (suc i) (omega arith)

-- ---- unescaping

-- any byte but `~` stands for itself
pub unescape_other : (x : ℕ) (xs : List ℕ) → x ≢ 126 → unescape (x ∷ xs) ≡ x ∷ unescape xs
unfolding unescape
unescape_other x [] other = refl
unescape_other x (y ∷ rest) other = rw (ne_eqb x 126 other)

-- a `~` before neither `1` nor `0` stands for itself
pub unescape_tilde : (xs : List ℕ) → ((rest : List ℕ) → xs ≢ 49 ∷ rest) → ((rest : List ℕ) → xs ≢ 48 ∷ rest) → unescape (126 ∷ xs) ≡ 126 ∷ unescape xs
unfolding unescape
unescape_tilde [] no_one no_zero = refl
unescape_tilde (y ∷ rest) no_one no_zero =
    rw (ne_eqb y 49 (λ e. no_one rest (ap (λ b. b ∷ rest) e)), ne_eqb y 48 (λ e. no_zero rest (ap (λ b. b ∷ rest) e)))

pub unescape_slash : (xs : List ℕ) → unescape (126 ∷ 49 ∷ xs) ≡ 47 ∷ unescape xs
unfolding unescape
unescape_slash xs = refl

pub unescape_zero : (xs : List ℕ) → unescape (126 ∷ 48 ∷ xs) ≡ 126 ∷ unescape xs
unfolding unescape
unescape_zero xs = refl

pub unescape_past : (plain rest : List ℕ) → Lacks 126 plain → unescape (plain ++ rest) ≡ plain ++ unescape rest
unescape_past [] rest lacks = refl
unescape_past (x ∷ plain) rest lacks =
    unescape_other x (plain ++ rest) (lacks 0 (omega arith)) ∙ ap (λ l. x ∷ l) (unescape_past plain rest (lacks_tail 126 x plain lacks))

-- ---- escaping

pub escape_slashes_past : (plain rest : List ℕ) → Lacks 47 plain → escape_slashes (plain ++ rest) ≡ plain ++ escape_slashes rest
unfolding escape_slashes
escape_slashes_past [] rest lacks = refl
escape_slashes_past (x ∷ plain) rest lacks =
    rw (ne_eqb x 47 (lacks 0 (omega arith))) (ap (λ l. x ∷ l) (escape_slashes_past plain rest (lacks_tail 47 x plain lacks)))

pub escape_slashes_slash : (rest : List ℕ) → escape_slashes (47 ∷ rest) ≡ codes "~1" ++ escape_slashes rest
unfolding escape_slashes
escape_slashes_slash rest = refl

pub escape_slashes_plain : (plain : List ℕ) → Lacks 47 plain → escape_slashes plain ≡ plain
unfolding escape_slashes
escape_slashes_plain plain lacks =
    ap escape_slashes (sym (append-nil plain)) ∙ escape_slashes_past plain [] lacks ∙ append-nil plain

pub escape_past : (plain rest : List ℕ) → Lacks 126 plain → escape (plain ++ rest) ≡ escape_slashes plain ++ escape rest
unfolding escape escape_slashes
escape_past [] rest lacks = refl
escape_past (x ∷ plain) rest lacks =
    rw (ne_eqb x 126 (lacks 0 (omega arith)), append_assoc)
    (ap (λ l. (if x == 47 then codes "~1" else x ∷ []) ++ l) (escape_past plain rest (lacks_tail 126 x plain lacks)))

pub escape_tilde : (rest : List ℕ) → escape (126 ∷ rest) ≡ codes "~0" ++ escape rest
unfolding escape
escape_tilde rest = refl

pub escape_plain : (plain : List ℕ) → Lacks 126 plain → escape plain ≡ escape_slashes plain
unfolding escape
escape_plain plain lacks = ap escape (sym (append-nil plain)) ∙ escape_past plain [] lacks ∙ append-nil (escape_slashes plain)

-- ---- the two laws

unescape_byte : (b : ℕ) (rest : List ℕ) (tilde slash : Bool) → (b == 126) ≡ tilde → (b == 47) ≡ slash → unescape (escaped_byte b ++ rest) ≡ b ∷ unescape rest
unescape_byte b rest true slash e f = rw e (unescape_zero rest ∙ ap (λ x. x ∷ unescape rest) (sym (eqb-true b 126 e)))
unescape_byte b rest false true e f = rw (e, f) (unescape_slash rest ∙ ap (λ x. x ∷ unescape rest) (sym (eqb-true b 47 f)))
unescape_byte b rest false false e f = rw (e, f) (unescape_other b rest (λ h. true≢false (sym (eq-eqb b 126 h) ∙ e)))

pub unescape-escape : (text : List ℕ) → unescape (escape text) ≡ text
unfolding escape unescape
unescape-escape [] = refl
unescape-escape (b ∷ text) = unescape_byte b (escape text) (b == 126) (b == 47) refl refl ∙ ap (λ l. b ∷ l) (unescape-escape text)

-- replacing leaves any byte but `~` at the front
replace_other : (digit byte x : ℕ) (xs : List ℕ) → x ≢ 126 → replace_escape digit byte (x ∷ xs) ≡ x ∷ replace_escape digit byte xs
unfolding replace_escape
replace_other digit byte x [] other = refl
replace_other digit byte x (y ∷ rest) other = rw (ne_eqb x 126 other)

replace_tilde : (digit byte : ℕ) (xs : List ℕ) → ((rest : List ℕ) → xs ≢ digit ∷ rest) → replace_escape digit byte (126 ∷ xs) ≡ 126 ∷ replace_escape digit byte xs
unfolding replace_escape
replace_tilde digit byte [] other = refl
replace_tilde digit byte (y ∷ rest) other = rw (ne_eqb y digit (λ e. other rest (ap (λ b. b ∷ rest) e)))

first_of_two : (b : Bool) (byte y : ℕ) (xs ys : List ℕ) (other : ℕ) (zs : List ℕ) → byte ≢ other → y ≢ other → (if b then byte ∷ xs else y ∷ ys) ≢ other ∷ zs
first_of_two true byte y xs ys other zs apart differs e = apart (ap (λ l. get_or l 0 0) e)
first_of_two false byte y xs ys other zs apart differs e = differs (ap (λ l. get_or l 0 0) e)

-- what stands in front after a replacement, where it is not `~`, stood there before or is the new byte
first_kept : (digit byte other : ℕ) (y : ℕ) (rest zs : List ℕ) → byte ≢ other → y ≢ other → replace_escape digit byte (y ∷ rest) ≢ other ∷ zs
unfolding replace_escape
first_kept digit byte other y [] zs apart differs e = differs (ap (λ l. get_or l 0 0) e)
first_kept digit byte other y (z ∷ rest) zs apart differs e =
    first_of_two (y == 126 && z == digit) byte y (replace_escape digit byte rest) (replace_escape digit byte (z ∷ rest)) other zs apart differs e

replace_pair : (digit byte : ℕ) (xs : List ℕ) → replace_escape digit byte (126 ∷ digit ∷ xs) ≡ byte ∷ replace_escape digit byte xs
unfolding replace_escape
replace_pair digit byte xs = rw (eq-eqb digit digit refl)

zero_one : ◌≢◌ {A = ℕ} 48 49
zero_one h = omega arith

zero_tilde : ◌≢◌ {A = ℕ} 48 126
zero_tilde h = omega arith

in_turn_at : (x y : ℕ) (rest : List ℕ) (tilde one zero : Bool) → (x == 126) ≡ tilde → (y == 49) ≡ one → (y == 48) ≡ zero
    → unescape rest ≡ unescape_in_turn rest → unescape (y ∷ rest) ≡ unescape_in_turn (y ∷ rest)
    → unescape (x ∷ y ∷ rest) ≡ unescape_in_turn (x ∷ y ∷ rest)
in_turn_at x y rest false one zero e f g later next =
    let other : x ≢ 126 = λ h. true≢false (sym (eq-eqb x 126 h) ∙ e) in
    unescape_other x (y ∷ rest) other ∙ ap (λ l. x ∷ l) next
    ∙ sym (ap (replace_escape 48 126) (replace_other 49 47 x (y ∷ rest) other) ∙ replace_other 48 126 x (replace_escape 49 47 (y ∷ rest)) other)
in_turn_at x y rest true true zero e f g later next =
    rw (eqb-true x 126 e, eqb-true y 49 f)
    (unescape_slash rest ∙ ap (λ l. 47 ∷ l) later ∙ sym (ap (replace_escape 48 126) (replace_pair 49 47 rest) ∙ replace_other 48 126 47 (replace_escape 49 47 rest) (λ h. omega arith)))
in_turn_at x y rest true false true e f g later next =
    let no_one = λ (zs : List ℕ) (h : 48 ∷ rest ≡ 49 ∷ zs). zero_one (ap (λ l. get_or l 0 0) h) in
    rw (eqb-true x 126 e, eqb-true y 48 g)
    (unescape_zero rest ∙ ap (λ l. 126 ∷ l) later
    ∙ sym (ap (replace_escape 48 126) (replace_tilde 49 47 (48 ∷ rest) no_one ∙ ap (λ l. 126 ∷ l) (replace_other 49 47 48 rest zero_tilde))
    ∙ replace_pair 48 126 (replace_escape 49 47 rest)))
in_turn_at x y rest true false false e f g later next =
    let no_one = λ (zs : List ℕ) (h : y ∷ rest ≡ 49 ∷ zs). true≢false (sym (eq-eqb y 49 (ap (λ l. get_or l 0 0) h)) ∙ f) in
    let no_zero = λ (zs : List ℕ) (h : y ∷ rest ≡ 48 ∷ zs). true≢false (sym (eq-eqb y 48 (ap (λ l. get_or l 0 0) h)) ∙ g) in
    let not_zero : y ≢ 48 = λ h. true≢false (sym (eq-eqb y 48 h) ∙ g) in
    rw (eqb-true x 126 e)
    (unescape_tilde (y ∷ rest) no_one no_zero ∙ ap (λ l. 126 ∷ l) next
    ∙ sym (ap (replace_escape 48 126) (replace_tilde 49 47 (y ∷ rest) no_one)
    ∙ replace_tilde 48 126 (replace_escape 49 47 (y ∷ rest)) (λ zs. first_kept 49 47 48 y rest zs (λ h. omega arith) not_zero)))

-- one pass from the left is the standard's two replacements
pub unescape-in_turn : (text : List ℕ) → unescape text ≡ unescape_in_turn text
unfolding unescape replace_escape
unescape-in_turn [] = refl
unescape-in_turn (x ∷ []) = refl
unescape-in_turn (x ∷ y ∷ rest) =
    in_turn_at x y rest (x == 126) (y == 49) (y == 48) refl refl refl (unescape-in_turn rest) (unescape-in_turn (y ∷ rest))

-- ---- the steps of the loops

abbrev pub Cut : ℕ → List ℕ → List ℕ → List ℕ → Type 0
Cut c whole before after = (whole ≡ before ++ c ∷ after) × Lacks c before

pub unescape_cut : (buffer whole before after : List ℕ) → Cut 126 whole before after → (buffer ++ before) ++ unescape (126 ∷ after) ≡ buffer ++ unescape whole
unescape_cut buffer whole before after cut =
    rw (cut.0, unescape_past before (126 ∷ after) cut.1) (append_assoc buffer before (unescape (126 ∷ after)))

pub slashes_cut : (whole before after : List ℕ) → Cut 47 whole before after → escape_slashes whole ≡ before ++ (codes "~1" ++ escape_slashes after)
slashes_cut whole before after cut =
    rw cut.0 (escape_slashes_past before (47 ∷ after) cut.1 ∙ ap (λ l. before ++ l) (escape_slashes_slash after))

pub escape_cut : (whole before after : List ℕ) → Cut 126 whole before after → escape whole ≡ escape_slashes before ++ (codes "~0" ++ escape after)
escape_cut whole before after cut =
    rw cut.0 (escape_past before (126 ∷ after) cut.1 ∙ ap (λ l. escape_slashes before ++ l) (escape_tilde after))

pub onto : (buffer one two rest all : List ℕ) → all ≡ one ++ (two ++ rest) → ((buffer ++ one) ++ two) ++ rest ≡ buffer ++ all
onto buffer one two rest all e = rw e (simp append_assoc)

-- with nothing left to cut
pub onto_last : (buffer rest all : List ℕ) → all ≡ rest → buffer ++ rest ≡ buffer ++ all
onto_last buffer rest all e = ap (λ l. buffer ++ l) (sym e)
