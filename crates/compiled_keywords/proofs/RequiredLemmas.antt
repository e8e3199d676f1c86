-- Names that rise, met among members that rise.
use Rattle.std.proofs.Common.{◌≡◌, ◌≤◌, ◌<◌, ◌∙◌, ℕ, List, [], ◌∷◌, Bool, true, false, ◌||◌, cond, length, map, Option, None, Some, Ordering, Less, Equal, Greater, String, Global, nat_cmp, arith, string_bytes, bytes_eq, refl, sym, ap, ap₂}
use Rattle.std.proofs.lemmas.Cmp.{nat_list_cmp_total}
use Rattle.std.proofs.lemmas.List.{length-map}
use Rattle.std.proofs.lemmas.Slice.Eq.{bytes_eq-Decides}
use Rattle.std.specs.Cmp.{first_so, second_so}
use Rattle.std.specs.Cmp.Lexicographic.{slice_cmp}
use Rattle.std.specs.List.{AllZip, filter, list_any, dedup, dedup_from}
use Rattle.std.specs.List.Sorted.{IsStrictlySortedBy}
use Rattle.std.specs.Ordering.{is_lt, ordering_reverse}
use Rattle.std.specs.String.{string_cmp, string_eq}
use Rattle.serde_json.proofs.Views.{Entry}
use Rattle.serde_json.specs.Data.{Data, Members, no_members, member}
use Rattle.serde_json.specs.Find.{get_member}
use Rattle.serde_json.specs.View.{view, members_view}
use Rattle.json_values.specs.Equality.{rises_from}
use Rattle.json_values.specs.Rising.{are_rising}
use Rattle.json_values.proofs.Names.{both, name_same, get_same, get_less, get_greater}
use Rattle.json_values.proofs.Kept.{first_rise, behind_none}
use Rattle.schema_meaning.specs.Keywords.{none_there}
use Rattle.schema_meaning.specs.Members.{is_empty, is_listed}
use Rattle.compiled_keywords.specs.Sorted.{rise_behind, names_rise}

-- whether each name is a member's
abbrev pub are_there : Members → List (List ℕ) → Bool
are_there ms ks = is_empty (filter (λ k. none_there (get_member k ms)) ks)

less_of : (o : Ordering) → is_lt o ≡ true → o ≡ Less
less_of Less h = refl
less_of Equal h = cc
less_of Greater h = cc

-- ---- names that rise

first_behind : (n k : List ℕ) (ks : List (List ℕ)) → rise_behind n (k ∷ ks) ≡ true → slice_cmp nat_cmp n k ≡ Less
first_behind n k ks h = less_of (slice_cmp nat_cmp n k) (first_so (is_lt (slice_cmp nat_cmp n k)) (rise_behind k ks) h)

rest_behind : (n k : List ℕ) (ks : List (List ℕ)) → rise_behind n (k ∷ ks) ≡ true → rise_behind k ks ≡ true
rest_behind n k ks h = second_so (is_lt (slice_cmp nat_cmp n k)) (rise_behind k ks) h

behind_before : (n k : List ℕ) (ks : List (List ℕ)) → slice_cmp nat_cmp n k ≡ Less → rise_behind k ks ≡ true → rise_behind n ks ≡ true
behind_before n k [] less h = refl
behind_before n k (l ∷ ks) less h =
    both (is_lt (slice_cmp nat_cmp n l)) (rise_behind l ks) (ap is_lt (nat_list_cmp_total.trans n k l less (first_behind k l ks h))) (rest_behind k l ks h)

rest_rise : (k : List ℕ) (ks : List (List ℕ)) → names_rise (k ∷ ks) ≡ true → names_rise ks ≡ true
rest_rise k [] h = refl
rest_rise k (l ∷ ks) h = rest_behind k l ks h

rest_rising : (n : List ℕ) (e : Data) (ms : Members) → are_rising (member n e ms) ≡ true → are_rising ms ≡ true
rest_rising n e no_members h = refl
rest_rising n e (member l d ms) h = (first_rise n l d ms h).1

-- ---- a walk past one member

there_alike : (o p : Option Data) (k : List ℕ) (ks ls : List (List ℕ)) → o ≡ p → is_empty ks ≡ is_empty ls
    → is_empty (cond (none_there o) (k ∷ ks) ks) ≡ is_empty (cond (none_there p) (k ∷ ls) ls)
there_alike None None k ks ls e same = refl
there_alike None (Some d) k ks ls e same = cc
there_alike (Some d) None k ks ls e same = cc
there_alike (Some d) (Some f) k ks ls e same = same

-- the names behind a member are not its name
passed : (n : List ℕ) (e : Data) (ms : Members) (ks : List (List ℕ)) → rise_behind n ks ≡ true → are_there (member n e ms) ks ≡ are_there ms ks
passed n e ms [] h = refl
passed n e ms (k ∷ ks) h =
    let less = first_behind n k ks h in
    let turned : slice_cmp nat_cmp k n ≡ Greater = nat_list_cmp_total.antisymm k n ∙ ap ordering_reverse less in
    there_alike (get_member k (member n e ms)) (get_member k ms) k _ _ (get_greater k n e ms turned) (passed n e ms ks (behind_before n k ks less (rest_behind n k ks h)))

first_there : (k : List ℕ) (d : Data) (ms : Members) (ks : List (List ℕ)) → get_member k ms ≡ Some d → are_there ms (k ∷ ks) ≡ are_there ms ks
first_there k d ms ks h = rw h refl

first_absent : (k : List ℕ) (ms : Members) (ks : List (List ℕ)) → get_member k ms ≡ None → are_there ms (k ∷ ks) ≡ false
first_absent k ms ks h = rw h refl

-- the next name is the member's
met : (n : List ℕ) (e : Data) (ms : Members) (k : List ℕ) (ks : List (List ℕ)) → names_rise (k ∷ ks) ≡ true → bytes_eq k n ≡ true
    → are_there (member n e ms) (k ∷ ks) ≡ are_there ms ks
met n e ms k ks rise is =
    let same : k ≡ n = (bytes_eq-Decides k n).0 is in
    first_there k e (member n e ms) ks (get_same k n e ms same) ∙ passed n e ms ks (ap (λ (l : List ℕ). rise_behind l ks) (sym same) ∙ rise)

unmet_by : (o : Ordering) (n : List ℕ) (e : Data) (ms : Members) (k : List ℕ) (ks : List (List ℕ)) → slice_cmp nat_cmp k n ≡ o → are_rising (member n e ms) ≡ true
    → names_rise (k ∷ ks) ≡ true → bytes_eq k n ≡ false → are_there (member n e ms) (k ∷ ks) ≡ are_there ms (k ∷ ks)
unmet_by Less n e ms k ks is rising rise other =
    let none : get_member k (member n e ms) ≡ None = behind_none k (member n e ms) (both (is_lt (slice_cmp nat_cmp k n)) (rises_from n ms) (ap is_lt is) rising) in
    let none_left : get_member k ms ≡ None = sym (get_less k n e ms is) ∙ none in
    first_absent k (member n e ms) ks none ∙ sym (first_absent k ms ks none_left)
unmet_by Equal n e ms k ks is rising rise other =
    let yes : bytes_eq k n ≡ true = (bytes_eq-Decides k n).1 (name_same k n is) in cc
unmet_by Greater n e ms k ks is rising rise other =
    let less : slice_cmp nat_cmp n k ≡ Less = nat_list_cmp_total.antisymm n k ∙ ap ordering_reverse is in
    passed n e ms (k ∷ ks) (both (is_lt (slice_cmp nat_cmp n k)) (rise_behind k ks) (ap is_lt less) rise)

-- it is not
unmet : (n : List ℕ) (e : Data) (ms : Members) (k : List ℕ) (ks : List (List ℕ)) → are_rising (member n e ms) ≡ true
    → names_rise (k ∷ ks) ≡ true → bytes_eq k n ≡ false → are_there (member n e ms) (k ∷ ks) ≡ are_there ms (k ∷ ks)
unmet n e ms k ks rising rise other = unmet_by (slice_cmp nat_cmp k n) n e ms k ks refl rising rise other

-- names that are all there are no more than the members
enough : (es : List Entry) (ks : List (List ℕ)) → are_rising (members_view es) ≡ true → names_rise ks ≡ true → are_there (members_view es) ks ≡ true
    → length ks ≤ length es
enough [] [] rising rise h = omega arith
enough [] (k ∷ ks) rising rise h = cc
enough (e ∷ es) [] rising rise h = omega arith
enough (e ∷ es) (k ∷ ks) rising rise h =
    let n = string_bytes e.0 in
    let ms = members_view es in
    let more = rest_rising n (view e.1) ms rising in
    enough_by (bytes_eq k n) refl
    (λ is. enough es ks more (rest_rise k ks rise) (sym (met n (view e.1) ms k ks rise is) ∙ h))
    (λ is. enough es (k ∷ ks) more rise (sym (unmet n (view e.1) ms k ks rising rise is) ∙ h))
  where
    enough_by : (b : Bool) → bytes_eq k (string_bytes e.0) ≡ b → (bytes_eq k (string_bytes e.0) ≡ true → length ks ≤ length es)
        → (bytes_eq k (string_bytes e.0) ≡ false → length (k ∷ ks) ≤ length es) → length (k ∷ ks) ≤ length (e ∷ es)
    enough_by true is f g = (let short = f is in omega arith)
    enough_by false is f g = (let short = g is in omega arith)

false_unless : (b : Bool) → (b ≡ true → ⊥) → b ≡ false
false_unless true h = absurd (h refl)
false_unless false h = refl

pub too_few : (es : List Entry) (xs : List (String Global)) → are_rising (members_view es) ≡ true → names_rise (map string_bytes xs) ≡ true → length es < length xs
    → are_there (members_view es) (map string_bytes xs) ≡ false
too_few es xs rising rise short = false_unless (are_there (members_view es) (map string_bytes xs))
    (λ h. (let most = enough es (map string_bytes xs) rising rise h in let long = length-map xs string_bytes in omega arith))

-- a step of the walk: the first entry is passed, and the first name too where it is the entry's
module _ (before : List Entry) (e : Entry) (es : List Entry) (left : List (String Global)) (x : String Global) (xs : List (String Global))
    (here : before ≡ e ∷ es) (next : left ≡ x ∷ xs) (rising : are_rising (members_view before) ≡ true) (rise : names_rise (map string_bytes left) ≡ true) where
  rising_here : are_rising (members_view (e ∷ es)) ≡ true
  rising_here = ap (λ (ys : List Entry). are_rising (members_view ys)) (sym here) ∙ rising

  rise_here : names_rise (map string_bytes (x ∷ xs)) ≡ true
  rise_here = ap (λ (ys : List (String Global)). names_rise (map string_bytes ys)) (sym next) ∙ rise

  there_here : are_there (members_view before) (map string_bytes left) ≡ are_there (members_view (e ∷ es)) (map string_bytes (x ∷ xs))
  there_here = ap₂ (λ (ys : List Entry) (zs : List (String Global)). are_there (members_view ys) (map string_bytes zs)) here next

  pub entries_left_rise : are_rising (members_view es) ≡ true
  entries_left_rise = rest_rising (string_bytes e.0) (view e.1) (members_view es) rising_here

  pub names_left_rise : names_rise (map string_bytes xs) ≡ true
  names_left_rise = rest_rise (string_bytes x) (map string_bytes xs) rise_here

  pub name_met : bytes_eq (string_bytes x) (string_bytes e.0) ≡ true → are_there (members_view before) (map string_bytes left) ≡ are_there (members_view es) (map string_bytes xs)
  name_met is = there_here ∙ met (string_bytes e.0) (view e.1) (members_view es) (string_bytes x) (map string_bytes xs) rise_here is

  pub name_unmet : bytes_eq (string_bytes x) (string_bytes e.0) ≡ false → are_there (members_view before) (map string_bytes left) ≡ are_there (members_view es) (map string_bytes left)
  name_unmet other = there_here ∙ unmet (string_bytes e.0) (view e.1) (members_view es) (string_bytes x) (map string_bytes xs) rising_here rise_here other
      ∙ ap (λ (ys : List (String Global)). are_there (members_view es) (map string_bytes ys)) (sym next)

-- ---- two lists of the same names

found_in : (test : List ℕ → Bool) (k : List ℕ) (ks : List (List ℕ)) → is_empty (filter test ks) ≡ true → is_listed k ks ≡ true → test k ≡ false
found_in test k [] h there = cc
found_in test k (l ∷ ks) h there = by (test l) (bytes_eq k l) refl refl (found_in test k ks)
  where
    by : (b c : Bool) → test l ≡ b → bytes_eq k l ≡ c → (is_empty (filter test ks) ≡ true → is_listed k ks ≡ true → test k ≡ false) → test k ≡ false
    by true c is same later = (let no : false ≡ true = sym (ap (λ x. is_empty (cond x (l ∷ filter test ks) (filter test ks))) is) ∙ h in cc)
    by false true is same later = ap test ((bytes_eq-Decides k l).0 same) ∙ is
    by false false is same later = later
        (sym (ap (λ x. is_empty (cond x (l ∷ filter test ks) (filter test ks))) is) ∙ h)
        (sym (ap (λ x. x || is_listed k ks) same) ∙ there)

none_in : (test : List ℕ → Bool) (ks : List (List ℕ)) → ((k : List ℕ) → is_listed k ks ≡ true → test k ≡ false) → is_empty (filter test ks) ≡ true
none_in test [] f = refl
none_in test (k ∷ ks) f =
    let here : test k ≡ false = f k (ap (λ x. x || is_listed k ks) ((bytes_eq-Decides k k).1 refl)) in
    ap (λ x. is_empty (cond x (k ∷ filter test ks) (filter test ks))) here ∙ none_in test ks (λ l there. f l (or_true (bytes_eq l k) (is_listed l ks) there))
  where
    or_true : (b c : Bool) → c ≡ true → (b || c) ≡ true
    or_true true c h = refl
    or_true false c h = h

alike_by : (b c : Bool) → (b ≡ true → c ≡ true) → (c ≡ true → b ≡ true) → b ≡ c
alike_by true true f g = refl
alike_by true false f g = sym (f refl)
alike_by false true f g = g refl
alike_by false false f g = refl

-- no name of the one passes a test just where none of the other does
pub alike : (test : List ℕ → Bool) (ks ls : List (List ℕ)) → ((k : List ℕ) → is_listed k ks ≡ is_listed k ls) → is_empty (filter test ks) ≡ is_empty (filter test ls)
alike test ks ls same = alike_by (is_empty (filter test ks)) (is_empty (filter test ls))
    (λ h. none_in test ls (λ k there. found_in test k ks h (same k ∙ there)))
    (λ h. none_in test ks (λ k there. found_in test k ls h (sym (same k) ∙ there)))

-- ---- names that are copied, sorted and told once

pub copied : (xs ys : List (String Global)) → AllZip (λ x y. string_bytes y ≡ string_bytes x) xs ys → map string_bytes ys ≡ map string_bytes xs
copied [] [] h = refl
copied [] (y ∷ ys) h = absurd h
copied (x ∷ xs) [] h = absurd h
copied (x ∷ xs) (y ∷ ys) h = λ i. h.0 i ∷ copied xs ys h.1 i

pub listed_by : (k : List ℕ) (xs : List (String Global)) → is_listed k (map string_bytes xs) ≡ list_any (λ x. bytes_eq k (string_bytes x)) xs
listed_by k [] = refl
listed_by k (x ∷ xs) = ap (λ b. bytes_eq k (string_bytes x) || b) (listed_by k xs)

or_same : (b c d : Bool) → b ≡ c → (b || (c || d)) ≡ (b || d)
or_same true c d h = refl
or_same false true d h = cc
or_same false false d h = refl

once_from : (k : List ℕ) (x : String Global) (xs : List (String Global))
    → list_any (λ y. bytes_eq k (string_bytes y)) (dedup_from string_eq x xs) ≡ list_any (λ y. bytes_eq k (string_bytes y)) (x ∷ xs)
once_from k x [] = refl
once_from k x (y ∷ ys) = by (string_eq y x) refl (once_from k x ys) (once_from k y ys)
  where
    by : (b : Bool) → string_eq y x ≡ b
        → list_any (λ z. bytes_eq k (string_bytes z)) (dedup_from string_eq x ys) ≡ list_any (λ z. bytes_eq k (string_bytes z)) (x ∷ ys)
        → list_any (λ z. bytes_eq k (string_bytes z)) (dedup_from string_eq y ys) ≡ list_any (λ z. bytes_eq k (string_bytes z)) (y ∷ ys)
        → list_any (λ z. bytes_eq k (string_bytes z)) (cond b (dedup_from string_eq x ys) (x ∷ dedup_from string_eq y ys)) ≡ list_any (λ z. bytes_eq k (string_bytes z)) (x ∷ y ∷ ys)
    by true is past next = past ∙ sym (or_same (bytes_eq k (string_bytes x)) (bytes_eq k (string_bytes y)) (list_any (λ z. bytes_eq k (string_bytes z)) ys)
        (ap (bytes_eq k) (sym ((bytes_eq-Decides (string_bytes y) (string_bytes x)).0 is))))
    by false is past next = ap (λ b. bytes_eq k (string_bytes x) || b) next

pub once : (k : List ℕ) (xs : List (String Global))
    → list_any (λ y. bytes_eq k (string_bytes y)) (dedup string_eq xs) ≡ list_any (λ y. bytes_eq k (string_bytes y)) xs
once k [] = refl
once k (x ∷ xs) = once_from k x xs

pub texts_rise : (xs : List (String Global)) → IsStrictlySortedBy string_cmp xs → names_rise (map string_bytes xs) ≡ true
unfolding IsStrictlySortedBy
texts_rise [] h = refl
texts_rise (x ∷ []) h = refl
texts_rise (x ∷ y ∷ xs) h = both (is_lt (slice_cmp nat_cmp (string_bytes x) (string_bytes y))) (rise_behind (string_bytes y) (map string_bytes xs)) (ap is_lt h.0.0) (texts_rise (y ∷ xs) h.1)
