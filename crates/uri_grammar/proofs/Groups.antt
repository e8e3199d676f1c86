-- Groups of an IPv6 address, piece by piece, and the cut at `::`.
use Rattle.std.proofs.Common.{◌≡◌, ◌≢◌, ◌==◌, ◌<◌, ◌≤◌, ◌+◌, ◌∙◌, List, [], ◌∷◌, ℕ, zero, suc, Bool, true, false, ◌&&◌, length, take, drop, length-drop, length-append, arith, ap, refl, sym, ne_eqb, Option, Some, None, if◌then◌else◌, option_map, Bor}
use Rattle.std.specs.List.{onto_first, after_first}
use Rattle.std.specs.Str.Pattern.{LacksTextAt}
use Rattle.std.proofs.lemmas.Bool.{false_from_ne_true, and_parts, or_parts, eqb-true}
use Rattle.std.proofs.lemmas.List.Splits.{slice_split_first, slice_split_none}
use Rattle.std.proofs.lemmas.List.Elements.{All-from_get_or}
use Rattle.std.proofs.lemmas.Str.Pattern.{IsSplitOnceResult, split_once_first, split_parts}
use Rattle.uri_grammar.specs.Texts.{pieces, is_empty, has}
use Rattle.uri_grammar.specs.Addresses.{is_h16, cut_at_colons, with_first}
use Rattle.uri_grammar.specs.Groups.{groups}

pub pieces_some : (c : ℕ) (bs : List ℕ) (a b : Bor (List ℕ)) → c < 128 → IsSplitOnceResult c bs (Some (a, b)) → pieces c bs ≡ a.now ∷ pieces c b.now
pieces_some c bs a b low h =
    let f = split_once_first c bs (Some (a, b)) h low in
    slice_split_first (λ x. x == c) bs 0 f.0 ∙ ap (λ s. s ∷ pieces c (after_first (λ x. x == c) bs)) (sym f.1) ∙ ap (λ t. a.now ∷ pieces c t) (sym f.2)

pub pieces_none : (c : ℕ) (bs : List ℕ) → c < 128 → IsSplitOnceResult c bs None → pieces c bs ≡ bs ∷ []
pieces_none c bs low h =
    let f = split_parts c bs None h low in
    slice_split_none (λ x. x == c) bs (All-from_get_or (λ x. (x == c) ≡ false) bs 0 (λ i within. ne_eqb _ _ (f i within)))

pub split_length : (c : ℕ) (bs : List ℕ) (a b : Bor (List ℕ)) → c < 128 → IsSplitOnceResult c bs (Some (a, b)) → length bs ≡ length a.now + 1 + length b.now
split_length c bs a b low h =
    let f = split_parts c bs (Some (a, b)) h low in
    let e = ap length f.0 in
    omega (arith, e, length-append a.now (c ∷ b.now))

pub h16_filled : (bs : List ℕ) → is_h16 bs ≡ true → 1 ≤ length bs
h16_filled [] h = absurd cc
h16_filled (x ∷ xs) h = omega arith

pub pieces_one : (c : ℕ) (bs : List ℕ) → has c bs ≡ false → pieces c bs ≡ bs ∷ []
pieces_one c [] h = refl
pieces_one c (x ∷ xs) h =
    let f = or_parts (x == c) (has c xs) h in
    ap (λ t. if t then [] ∷ pieces c xs else onto_first x (pieces c xs)) f.0 ∙ ap (onto_first x) (pieces_one c xs f.1)

onto_filled : (x : ℕ) (parts : List (List ℕ)) → is_empty (onto_first x parts) ≡ false
onto_filled x [] = refl
onto_filled x (p ∷ ps) = refl

pub pieces_filled : (c : ℕ) (bs : List ℕ) → is_empty (pieces c bs) ≡ false
pieces_filled c [] = refl
pieces_filled c (x ∷ xs) = elim (x == c) as (λ b. is_empty (if b then [] ∷ pieces c xs else onto_first x (pieces c xs)) ≡ false) [ true ↦ refl | false ↦ onto_filled x (pieces c xs) ]

pub groups_more : (ends : Bool) (p : List ℕ) (ps : List (List ℕ)) → is_empty ps ≡ false → is_h16 p ≡ true → groups ends (p ∷ ps) ≡ option_map (λ n. 1 + n) (groups ends ps)
groups_more ends p [] e h = absurd cc
groups_more ends p (q ∷ rest) e h = ap (λ t. if t then option_map (λ n. 1 + n) (groups ends (q ∷ rest)) else None) h

pub groups_stop : (ends : Bool) (p : List ℕ) (ps : List (List ℕ)) → is_empty ps ≡ false → is_h16 p ≡ false → groups ends (p ∷ ps) ≡ None
groups_stop ends p [] e h = absurd cc
groups_stop ends p (q ∷ rest) e h = ap (λ t. if t then option_map (λ n. 1 + n) (groups ends (q ∷ rest)) else None) h

pub counted : (k : ℕ) (o : Option ℕ) → option_map (λ n. k + n) (option_map (λ n. 1 + n) o) ≡ option_map (λ n. (k + 1) + n) o
counted k None = refl
counted k (Some n) = ap Some (omega arith)

not_both : (x y : ℕ) (rest : List ℕ) → ((r : List ℕ) → x ∷ y ∷ rest ≢ 58 ∷ 58 ∷ r) → (x == 58 && y == 58) ≡ false
not_both x y rest lacks = false_from_ne_true _ (λ t.
    let f = and_parts (x == 58) (y == 58) t in
    lacks rest (ap (λ z. z ∷ y ∷ rest) (eqb-true x 58 f.0) ∙ ap (λ z. 58 ∷ z ∷ rest) (eqb-true y 58 f.1)))

pub colons_found : (bs : List ℕ) (i : ℕ) (rest : List ℕ) → ((k : ℕ) → k < i → LacksTextAt (58 ∷ 58 ∷ []) bs k) → drop i bs ≡ 58 ∷ 58 ∷ rest → cut_at_colons bs ≡ (take i bs, Some rest)
colons_found [] zero rest lacks here = absurd cc
colons_found [] (suc i) rest lacks here = absurd cc
colons_found (x ∷ []) zero rest lacks here = let e = ap length here in absurd (omega (arith, e))
colons_found (x ∷ []) (suc i) rest lacks here = let nil : List ℕ = [] in let e = ap length here in absurd (omega (arith, e, length-drop i nil))
colons_found (x ∷ y ∷ more) zero rest lacks here = sym (ap cut_at_colons (sym here))
colons_found (x ∷ y ∷ more) (suc i) rest lacks here =
    ap (λ t. if t then ([], Some more) else with_first x (cut_at_colons (y ∷ more))) (not_both x y more (lacks 0 (omega arith)))
    ∙ ap (with_first x) (colons_found (y ∷ more) i rest (λ k below. lacks (suc k) (omega arith)) here)

pub colons_missing : (bs : List ℕ) → ((k : ℕ) → k ≤ length bs → LacksTextAt (58 ∷ 58 ∷ []) bs k) → cut_at_colons bs ≡ (bs, None)
colons_missing [] lacks = refl
colons_missing (x ∷ []) lacks = refl
colons_missing (x ∷ y ∷ more) lacks =
    ap (λ t. if t then ([], Some more) else with_first x (cut_at_colons (y ∷ more))) (not_both x y more (lacks 0 (omega arith)))
    ∙ ap (with_first x) (colons_missing (y ∷ more) (λ k below. lacks (suc k) (omega arith)))
