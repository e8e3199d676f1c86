-- How many runs there are where no more than five matches stay unfinished.
use Rattle.std.proofs.Common.{◌≡◌, ◌≤◌, ◌<◌, ◌+◌, ◌++◌, ◌⊎◌, inl, inr, ◌∙◌, ℕ, zero, suc, List, [], ◌∷◌, map, length, Bool, true, false, ◌&&◌, Option, Some, None, bytes_eq, string_bytes, if◌then◌else◌, refl, sym, ap, subst, arith}
use Rattle.std.proofs.lemmas.List.{append-nil, append_assoc, length-append, length-map, map-append}
use Rattle.std.proofs.lemmas.Slice.Eq.{bytes_eq-Decides}
use Rattle.json_values.specs.Patterns.{or_else}
use Rattle.schema_meaning.specs.Members.{In, first, later}
use Rattle.schema_patterns.specs.declared.table.PatternTable.{PatternTable}
use Rattle.std.proofs.Math.Logic.{∥∥₁_map}
use Rattle.schema_engine.specs.Led.{AsksFor, MayMatch}
use Rattle.schema_engine.specs.Matches.{Matches, Start, completed, none_matched}
use Rattle.reading_laws.specs.Keys.{Distinct}
use Rattle.reading_laws.proofs.Counting.{distinct-behind}
use Rattle.reading_laws.proofs.Elements.{in_front}
use Rattle.graph_answers.specs.Completions.{table_finds, assumed_in, is_of, matches_with, asked_from, IsStop}
use Rattle.graph_answers.specs.Runs.{IsTurned, IsAskedFor, IsOpen, AreOpen, AreSixOpen}
use Rattle.graph_answers.proofs.RunLemmas.{without}
use Rattle.graph_answers.specs.declared.assumed.AssumedMatch.{AssumedMatch}

-- ---- how many runs are to come

-- the runs by so many assumed and whatever is assumed behind them
abbrev pub runs_from : ℕ → ℕ
runs_from zero = 63
runs_from (suc zero) = 31
runs_from (suc (suc zero)) = 15
runs_from (suc (suc (suc zero))) = 7
runs_from (suc (suc (suc (suc zero)))) = 3
runs_from (suc (suc (suc (suc (suc n))))) = 1

runs_halve : (n : ℕ) → n < 5 → runs_from n ≡ suc (runs_from (suc n) + runs_from (suc n))
runs_halve zero h = refl
runs_halve (suc zero) h = refl
runs_halve (suc (suc zero)) h = refl
runs_halve (suc (suc (suc zero))) h = refl
runs_halve (suc (suc (suc (suc zero)))) h = refl
runs_halve (suc (suc (suc (suc (suc n))))) h = absurd (omega arith)

one_run : (n : ℕ) → 1 ≤ runs_from n
one_run zero = omega arith
one_run (suc zero) = omega arith
one_run (suc (suc zero)) = omega arith
one_run (suc (suc (suc zero))) = omega arith
one_run (suc (suc (suc (suc zero)))) = omega arith
one_run (suc (suc (suc (suc (suc n))))) = omega arith

abbrev pub unless_yes : Bool → ℕ → ℕ
unless_yes true n = 0
unless_yes false n = n

-- those that begin with a yes in the place of a no, the first of these being the n-th
abbrev pub waiting : ℕ → List AssumedMatch → ℕ
waiting n [] = 0
waiting n (a ∷ more) = unless_yes a.is_match (runs_from (suc n)) + waiting (suc n) more

abbrev pub to_come : List AssumedMatch → ℕ
to_come xs = runs_from (length xs) + waiting 0 xs

waiting_append : (n : ℕ) (xs ys : List AssumedMatch) → waiting n (xs ++ ys) ≡ waiting n xs + waiting (n + length xs) ys
waiting_append n [] ys =
    let same : n + 0 ≡ n = omega arith in
    let behind = ap (λ m. waiting m ys) same in
    omega (arith, behind)
waiting_append n (x ∷ xs) ys =
    let rest = waiting_append (suc n) xs ys in
    let same : suc n + length xs ≡ n + suc (length xs) = omega arith in
    let behind = ap (λ m. waiting m ys) same in
    omega (arith, rest, behind)

waiting_behind : (xs ys : List AssumedMatch) → waiting 0 (xs ++ ys) ≡ waiting 0 xs + waiting (length xs) ys
waiting_behind xs ys =
    let append = waiting_append 0 xs ys in
    let same : 0 + length xs ≡ length xs = omega arith in
    let behind = ap (λ m. waiting m ys) same in
    omega (arith, append, behind)

waiting_yes : (n : ℕ) (xs : List AssumedMatch) → ((a : AssumedMatch) → In a xs → a.is_match ≡ true) → waiting n xs ≡ 0
waiting_yes n [] all = refl
waiting_yes n (x ∷ xs) all =
    let none = ap (λ b. unless_yes b (runs_from (suc n))) (all x first) in
    let rest = waiting_yes (suc n) xs (λ a i. all a (later i)) in
    omega (arith, none, rest)

-- a run that is stopped was one of them
after_no : (xs : List AssumedMatch) (a : AssumedMatch) → a.is_match ≡ false → length xs < 5 → suc (to_come (xs ++ a ∷ [])) ≡ to_come xs
after_no xs a is_no few =
    let longer : length (xs ++ a ∷ []) ≡ suc (length xs) = (let l = length-append xs (a ∷ []) in omega (arith, l)) in
    let from = ap runs_from longer in
    let waits = waiting_behind xs (a ∷ []) in
    let one = ap (λ b. unless_yes b (runs_from (suc (length xs)))) is_no in
    let halve = runs_halve (length xs) few in
    omega (arith, from, waits, one, halve)

-- and so was one that answered
after_yes : (before behind : List AssumedMatch) (last turned : AssumedMatch) → last.is_match ≡ false → turned.is_match ≡ true → ((a : AssumedMatch) → In a behind → a.is_match ≡ true)
    → suc (to_come (before ++ turned ∷ [])) ≤ to_come (before ++ last ∷ behind)
after_yes before behind last turned is_no is_yes all =
    let longer : length (before ++ turned ∷ []) ≡ suc (length before) = (let l = length-append before (turned ∷ []) in omega (arith, l)) in
    let from = ap runs_from longer in
    let was = waiting_behind before (last ∷ behind) in
    let is = waiting_behind before (turned ∷ []) in
    let none = waiting_yes (suc (length before)) behind all in
    let for_last = ap (λ b. unless_yes b (runs_from (suc (length before)))) is_no in
    let for_yes = ap (λ b. unless_yes b (runs_from (suc (length before)))) is_yes in
    let one = one_run (length (before ++ last ∷ behind)) in
    omega (arith, from, was, is, none, for_last, for_yes, one)

-- ---- the matches of which nothing is known

abbrev pub match_of : AssumedMatch → List ℕ × List ℕ
match_of a = (string_bytes a.pattern, string_bytes a.text)

abbrev pub match_with : List ℕ → List ℕ → List ℕ × List ℕ
match_with pattern text = (pattern, text)

abbrev pub met : List AssumedMatch → List (List ℕ × List ℕ)
met xs = map match_of xs

both_none : (a b : Option Bool) → or_else a b ≡ None → (a ≡ None) × (b ≡ None)
both_none None b e = (refl, e)
both_none (Some x) b e = absurd (cc)

in_cases : {A : Type 0} {x y : A} {ys : List A} → In x (y ∷ ys) → (x ≡ y) ⊎ In x ys
in_cases first = inl refl
in_cases (later i) = inr i

in_last : {A : Type 0} {x y : A} (xs : List A) → In x (xs ++ y ∷ []) → (x ≡ y) ⊎ In x xs
in_last [] i = in_cases i
in_last (z ∷ xs) first = inr first
in_last (z ∷ xs) (later i) = elim (in_last xs i) [ inl e ↦ inl e | inr j ↦ inr (later j) ]

is_itself : (a : AssumedMatch) (pattern text : List ℕ) → match_with pattern text ≡ match_of a → is_of a pattern text ≡ true
is_itself a pattern text e =
    let p = (bytes_eq-Decides (string_bytes a.pattern) pattern).1 (sym (ap (λ x. x.0) e)) in
    let t = (bytes_eq-Decides (string_bytes a.text) text).1 (sym (ap (λ x. x.1) e)) in
    ap (λ b. b && bytes_eq (string_bytes a.text) text) p ∙ t

-- one of which nothing is assumed is none of those that are
not_met : (xs : List AssumedMatch) (pattern text : List ℕ) → assumed_in xs pattern text ≡ None → In (match_with pattern text) (met xs) → ⊥
not_met [] pattern text none i = elim i [ ]
not_met (a ∷ more) pattern text none i = by_test (is_of a pattern text) refl none (in_cases i) (λ nothing j. not_met more pattern text nothing j)
  where
    by_test : (b : Bool) → is_of a pattern text ≡ b → (if b then Some a.is_match else assumed_in more pattern text) ≡ None
        → (match_with pattern text ≡ match_of a) ⊎ In (match_with pattern text) (met more)
        → (assumed_in more pattern text ≡ None → In (match_with pattern text) (met more) → ⊥) → ⊥
    by_test true is nothing h further = cc
    by_test false is nothing (inl e) further = (let same = is_itself a pattern text e in cc)
    by_test false is nothing (inr j) further = further nothing j

module _ (m : Matches) (s : Start) where
  distinct_front : {A : Type 0} (xs ys : List A) → Distinct (xs ++ ys) → Distinct xs
  distinct_front [] ys d = tt
  distinct_front (x ∷ xs) ys d = (λ i. d.0 (in_front x xs ys i), distinct_front xs ys d.1)

  open_front : (xs ys : List (List ℕ × List ℕ)) → AreOpen m s (xs ++ ys) → AreOpen m s xs
  open_front xs ys o = record {
    apart = distinct_front xs ys o.apart;
    each = λ pattern text i. o.each pattern text (in_front (pattern, text) xs ys i);
  }

  open_behind : (xs : List (List ℕ × List ℕ)) (pattern text : List ℕ) → AreOpen m s xs → (In (match_with pattern text) xs → ⊥) → IsOpen m s pattern text → AreOpen m s (xs ++ match_with pattern text ∷ [])
  open_behind xs pattern text o new one = record {
    apart = distinct-behind xs (pattern, text) o.apart new;
    each = λ p t i. elim (in_last xs i) [ inl e ↦ subst (λ x. IsOpen m s x.0 x.1) (sym e) one | inr j ↦ o.each p t j ];
  }

-- ---- runs, one after another

-- so many runs were made, and no more than 64 are made in all
pub record AreFew (m : Matches) (s : Start) (made : ℕ) (xs : List AssumedMatch) : Type 0 where
  pub few : length xs ≤ 5
  pub runs : made + to_come xs ≤ 64
  pub are_open : AreOpen m s (met xs)

pub record Counts (m : Matches) (s : Start) (made : ℕ) (xs : List AssumedMatch) : Type 0 where
  pub either : AreSixOpen m s ⊎ AreFew m s made xs

-- nothing is assumed at first, and not after a run whose stop is met again
pub begun : (m : Matches) (s : Start) (made : ℕ) → made ≤ 1 → Counts m s made []
begun m s made soon = record { either = inr (record { few = omega arith; runs = omega (arith, soon); are_open = record { apart = tt; each = λ pattern text i. elim i [ ] } }) }

pub at_the_end : (m : Matches) (s : Start) (made : ℕ) (xs : List AssumedMatch) → 64 ≤ made → Counts m s made xs → AreSixOpen m s
at_the_end m s made xs many c = elim c.either [
  | inl six ↦ six
  | inr few ↦ absurd (let runs = few.runs in let one = one_run (length xs) in omega (arith, runs, one))
]

below_five : (n : ℕ) → n ≤ 5 → (n < 5) ⊎ (n ≡ 5)
below_five zero h = inl (omega arith)
below_five (suc zero) h = inl (omega arith)
below_five (suc (suc zero)) h = inl (omega arith)
below_five (suc (suc (suc zero))) h = inl (omega arith)
below_five (suc (suc (suc (suc zero)))) h = inl (omega arith)
below_five (suc (suc (suc (suc (suc zero))))) h = inr refl
below_five (suc (suc (suc (suc (suc (suc n)))))) h = absurd (omega arith)

module _ {M : Type 0} (finds : M → List ℕ → Option Bool) (table : PatternTable M) (s : Start) where
  abbrev base : Matches
  base = matches_with finds table []

  -- a run by what is assumed is one of the runs by nothing
  pub asked_at_all : (xs : List AssumedMatch) (pattern text : List ℕ) → MayMatch (asked_from s (matches_with finds table xs)) pattern text → IsAskedFor base s pattern text
  unfolding completed
  asked_at_all xs pattern text asks = (
    completed (matches_with finds table xs) none_matched,
    subst (λ reads. AsksFor reads s pattern text) (without finds table xs none_matched) (asks none_matched),
  )

  open_in : (xs : List AssumedMatch) (a : AssumedMatch) → IsStop (asked_from s (matches_with finds table xs)) (string_bytes a.pattern) (string_bytes a.text)
      → AreOpen base s (met xs) → AreOpen base s (met (xs ++ a ∷ []))
  open_in xs a stop o =
      let both = both_none (table_finds finds table (string_bytes a.pattern) (string_bytes a.text)) (assumed_in xs (string_bytes a.pattern) (string_bytes a.text)) stop.unknown in
      subst (AreOpen base s) (sym (map-append match_of xs (a ∷ [])))
      (open_behind base s (met xs) (string_bytes a.pattern) (string_bytes a.text) o (not_met xs (string_bytes a.pattern) (string_bytes a.text) both.1)
      (record { unknown = ap (λ f. or_else f None) both.0; asked = ∥∥₁_map stop.asked (asked_at_all xs (string_bytes a.pattern) (string_bytes a.text)) }))

  -- a run was stopped at a match of which no is assumed now
  pub once_stopped : (made : ℕ) (xs : List AssumedMatch) (a : AssumedMatch) → a.is_match ≡ false → IsStop (asked_from s (matches_with finds table xs)) (string_bytes a.pattern) (string_bytes a.text)
      → Counts base s made xs → Counts base s (made + 1) (xs ++ a ∷ [])
  once_stopped made xs a is_no none c = elim c.either [
    | inl six ↦ record { either = inl six }
    | inr few ↦ by_length few (below_five (length xs) few.few)
  ]
    where
      longer : length (xs ++ a ∷ []) ≡ suc (length xs)
      longer = (let l = length-append xs (a ∷ []) in omega (arith, l))

      by_length : AreFew base s made xs → (length xs < 5) ⊎ (length xs ≡ 5) → Counts base s (made + 1) (xs ++ a ∷ [])
      by_length few (inl below) = record {
        either = inr (record {
          few = (let l = longer in omega (arith, l, below));
          runs = (let runs = few.runs in let after = after_no xs a is_no below in omega (arith, runs, after));
          are_open = open_in xs a none few.are_open;
        });
      }
      by_length few (inr five) = record {
        either = inl (record {
          found = met (xs ++ a ∷ []);
          six = length-map (xs ++ a ∷ []) match_of ∙ longer ∙ ap suc five;
          are_open = open_in xs a none few.are_open;
        });
      }

-- the yeses at the end are gone
pub record AreGone (old left : List AssumedMatch) : Type 0 where
  pub behind : List AssumedMatch
  pub all_yes : (a : AssumedMatch) → In a behind → a.is_match ≡ true
  pub was : old ≡ left ++ behind

pub none_gone : (xs : List AssumedMatch) → AreGone xs xs
none_gone xs = record { behind = []; all_yes = λ a i. elim i [ ]; was = sym (append-nil xs) }

pub one_gone : (old left rest : List AssumedMatch) (last : AssumedMatch) → left ≡ rest ++ last ∷ [] → last.is_match ≡ true → AreGone old left → AreGone old rest
one_gone old left rest last is so g = record {
  behind = last ∷ g.behind;
  all_yes = λ a i. elim (in_cases i) [ inl e ↦ (ap (λ x. x.is_match) e ∙ so) | inr j ↦ g.all_yes a j ];
  was = g.was ∙ ap (λ xs. xs ++ g.behind) is ∙ append_assoc rest (last ∷ []) g.behind;
}

pub turned_by : (old left rest new : List AssumedMatch) (last : AssumedMatch) → left ≡ rest ++ last ∷ [] → last.is_match ≡ false
    → new ≡ rest ++ record { pattern = last.pattern; text = last.text; is_match = true } ∷ [] → AreGone old left → IsTurned old new
turned_by old left rest new last is is_no so g = record {
  before = rest;
  last = last;
  behind = g.behind;
  was_no = is_no;
  all_yes = g.all_yes;
  was = g.was ∙ ap (λ xs. xs ++ g.behind) is ∙ append_assoc rest (last ∷ []) g.behind;
  is = so;
}

-- a run answered, and yes is assumed in the place of the last no
pub once_turned : (m : Matches) (s : Start) (made : ℕ) (old new : List AssumedMatch) → IsTurned old new → Counts m s made old → Counts m s (made + 1) new
once_turned m s made old new t c = elim c.either [
  | inl six ↦ record { either = inl six }
  | inr few ↦ record { either = inr (turned few) }
]
  where
    turned_one : AssumedMatch
    turned_one = record { pattern = t.last.pattern; text = t.last.text; is_match = true }

    of_last : List (List ℕ × List ℕ)
    of_last = match_of t.last ∷ []

    front : met old ≡ met new ++ met t.behind
    front =
        ap met t.was ∙ map-append match_of t.before (t.last ∷ t.behind)
        ∙ sym (append_assoc (met t.before) of_last (met t.behind))
        ∙ ap (λ xs. xs ++ met t.behind) (sym (map-append match_of t.before (turned_one ∷ [])) ∙ sym (ap met t.is))

    turned : AreFew m s made old → AreFew m s (made + 1) new
    turned few = record {
      few = (let was = ap length t.was in let is = ap length t.is in let l = length-append t.before (t.last ∷ t.behind) in let n = length-append t.before (turned_one ∷ []) in let h = few.few in omega (arith, was, is, l, n, h));
      runs = (let was = ap to_come t.was in let is = ap to_come t.is in let after = after_yes t.before t.behind t.last turned_one t.was_no refl t.all_yes in let runs = few.runs in omega (arith, was, is, after, runs));
      are_open = open_front m s (met new) (met t.behind) (subst (AreOpen m s) front few.are_open);
    }
