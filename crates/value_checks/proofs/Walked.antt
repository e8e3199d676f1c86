-- Lists and objects walked side by side.
use Rattle.std.proofs.Common.{◌≡◌, ℕ, suc, length, List, [], ◌∷◌, Bool, true, false, ◌&&◌, not, Greater, nat_cmp, bytes_eq, refl, sym, ap, ◌∙◌, string_bytes, arith}
use Rattle.std.proofs.lemmas.Cmp.{nat_list_cmp_total}
use Rattle.std.proofs.lemmas.Slice.Eq.{bytes_eq-Decides}
use Rattle.std.specs.Cmp.{first_so, second_so, both_ways}
use Rattle.std.specs.Cmp.Lexicographic.{slice_cmp}
use Rattle.std.specs.List.Sorted.{IsStrictlySortedBy}
use Rattle.std.specs.Map.{keys_of}
use Rattle.std.specs.Ordering.{is_lt, ordering_reverse}
use Rattle.std.specs.Prelude.{is_some}
use Rattle.std.specs.String.{string_cmp}
use Rattle.serde_json.proofs.Views.{Entry}
use Rattle.serde_json.specs.Data.{Data, Items, no_items, item, Members, no_members, member}
use Rattle.serde_json.specs.Events.{items_len, members_len}
use Rattle.serde_json.specs.Find.{get_member}
use Rattle.serde_json.specs.View.{members_view}
use Rattle.json_values.specs.Equality.{equal, equal_items, equal_members, names_in, has_name, found_and, rises_from}
use Rattle.json_values.specs.Rising.{are_rising}
use Rattle.json_values.proofs.Names.{both, get_same, get_greater}
use Rattle.json_values.proofs.Kept.{first_rise, rises_before, members_less, names_less, first_names}

-- lists of other lengths
pub other_lengths : (ds es : Items) → (items_len ds ≡ items_len es → ⊥) → equal_items ds es ≡ false
other_lengths no_items no_items h = absurd (h refl)
other_lengths no_items (item e es) h = refl
other_lengths (item d ds) no_items h = refl
other_lengths (item d ds) (item e es) h = after (equal d e) (other_lengths ds es (λ s. h (ap suc s)))
  where
    after : (b : Bool) → equal_items ds es ≡ false → (b && equal_items ds es) ≡ false
    after true e = e
    after false e = refl

-- the objects in step: each member beside one of its name and an equal value
abbrev pub in_step : Members → Members → Bool
in_step no_members no_members = true
in_step no_members (member l e ns) = false
in_step (member k d ms) no_members = false
in_step (member k d ms) (member l e ns) = bytes_eq k l && equal d e && in_step ms ns

abbrev pub are_same : Members → Members → Bool
are_same ms ns = equal_members ms ns && names_in ns ms

pub rising_rest : (k : List ℕ) (ms : Members) → rises_from k ms ≡ true → are_rising ms ≡ true
rising_rest k no_members h = refl
rising_rest k (member l e ms) h = (first_rise k l e ms h).1

members_more : (ms ns : Members) (k : List ℕ) (e : Data) → rises_from k ms ≡ true → equal_members ms ns ≡ true → equal_members ms (member k e ns) ≡ true
members_more no_members ns k e r h = refl
members_more (member m d ms) ns k e r h =
    let s = first_rise k m d ms r in
    let turned : slice_cmp nat_cmp m k ≡ Greater = nat_list_cmp_total.antisymm m k ∙ ap ordering_reverse s.0 in
    both (found_and (equal d) (get_member m (member k e ns))) (equal_members ms (member k e ns))
    (ap (found_and (equal d)) (get_greater m k e ns turned) ∙ first_so (found_and (equal d) (get_member m ns)) (equal_members ms ns) h)
    (members_more ms ns k e (rises_before k m ms s.0 s.1) (second_so (found_and (equal d) (get_member m ns)) (equal_members ms ns) h))

names_more : (ns ms : Members) (k : List ℕ) (d : Data) → rises_from k ns ≡ true → names_in ns ms ≡ true → names_in ns (member k d ms) ≡ true
names_more no_members ms k d r h = refl
names_more (member m e ns) ms k d r h =
    let s = first_rise k m e ns r in
    let turned : slice_cmp nat_cmp m k ≡ Greater = nat_list_cmp_total.antisymm m k ∙ ap ordering_reverse s.0 in
    both (has_name m (member k d ms)) (names_in ns (member k d ms))
    (ap is_some (get_greater m k d ms turned) ∙ first_so (has_name m ms) (names_in ns ms) h)
    (names_more ns ms k d (rises_before k m ns s.0 s.1) (second_so (has_name m ms) (names_in ns ms) h))

step_from : (ms ns : Members) → are_rising ms ≡ true → are_rising ns ≡ true → are_same ms ns ≡ true → in_step ms ns ≡ true
step_from no_members no_members p q h = refl
step_from no_members (member l e ns) p q h = cc
step_from (member k d ms) no_members p q h = cc
step_from (member k d ms) (member l e ns) p q h =
    let found = first_so (equal_members (member k d ms) (member l e ns)) (names_in (member l e ns) (member k d ms)) h in
    let names = second_so (equal_members (member k d ms) (member l e ns)) (names_in (member l e ns) (member k d ms)) h in
    let here : found_and (equal d) (get_member k (member l e ns)) ≡ true = first_so (found_and (equal d) (get_member k (member l e ns))) (equal_members ms (member l e ns)) found in
    let later : equal_members ms (member l e ns) ≡ true = second_so (found_and (equal d) (get_member k (member l e ns))) (equal_members ms (member l e ns)) found in
    let named : has_name l (member k d ms) ≡ true = first_so (has_name l (member k d ms)) (names_in ns (member k d ms)) names in
    let named_later : names_in ns (member k d ms) ≡ true = second_so (has_name l (member k d ms)) (names_in ns (member k d ms)) names in
    let name : k ≡ l = first_names (slice_cmp nat_cmp k l) k l d e ms ns refl p q here named in
    let value : equal d e ≡ true = ap (found_and (equal d)) (sym (get_same k l e ns name)) ∙ here in
    let rises : rises_from l ms ≡ true = ap (λ (n : List ℕ). rises_from n ms) (sym name) ∙ p in
    let rises_other : rises_from k ns ≡ true = ap (λ (n : List ℕ). rises_from n ns) name ∙ q in
    both (bytes_eq k l && equal d e) (in_step ms ns)
    (both (bytes_eq k l) (equal d e) ((bytes_eq-Decides k l).1 name) value)
    (step_from ms ns (rising_rest k ms p) (rising_rest l ns q)
    (both (equal_members ms ns) (names_in ns ms) (members_less ms ns l e rises later) (names_less ns ms k d rises_other named_later)))

same_from : (ms ns : Members) → are_rising ms ≡ true → are_rising ns ≡ true → in_step ms ns ≡ true → are_same ms ns ≡ true
same_from no_members no_members p q h = refl
same_from no_members (member l e ns) p q h = cc
same_from (member k d ms) no_members p q h = cc
same_from (member k d ms) (member l e ns) p q h =
    let ab = first_so (bytes_eq k l && equal d e) (in_step ms ns) h in
    let name : k ≡ l = (bytes_eq-Decides k l).0 (first_so (bytes_eq k l) (equal d e) ab) in
    let value : equal d e ≡ true = second_so (bytes_eq k l) (equal d e) ab in
    let rest = same_from ms ns (rising_rest k ms p) (rising_rest l ns q) (second_so (bytes_eq k l && equal d e) (in_step ms ns) h) in
    let rises : rises_from l ms ≡ true = ap (λ (n : List ℕ). rises_from n ms) (sym name) ∙ p in
    let rises_other : rises_from k ns ≡ true = ap (λ (n : List ℕ). rises_from n ns) name ∙ q in
    both (equal_members (member k d ms) (member l e ns)) (names_in (member l e ns) (member k d ms))
    (both (found_and (equal d) (get_member k (member l e ns))) (equal_members ms (member l e ns))
    (ap (found_and (equal d)) (get_same k l e ns name) ∙ value)
    (members_more ms ns l e rises (first_so (equal_members ms ns) (names_in ns ms) rest)))
    (both (has_name l (member k d ms)) (names_in ns (member k d ms))
    (ap is_some (get_same l k d ms (sym name)))
    (names_more ns ms k d rises_other (second_so (equal_members ms ns) (names_in ns ms) rest)))

-- objects whose names rise are equal just where they are in step
pub same_in_step : (ms ns : Members) → are_rising ms ≡ true → are_rising ns ≡ true → are_same ms ns ≡ in_step ms ns
same_in_step ms ns p q = both_ways (are_same ms ns) (in_step ms ns) (step_from ms ns p q) (same_from ms ns p q)

pub other_counts : (ms ns : Members) → (members_len ms ≡ members_len ns → ⊥) → in_step ms ns ≡ false
other_counts no_members no_members h = absurd (h refl)
other_counts no_members (member l e ns) h = refl
other_counts (member k d ms) no_members h = refl
other_counts (member k d ms) (member l e ns) h = after (bytes_eq k l && equal d e) (other_counts ms ns (λ s. h (ap suc s)))
  where
    after : (b : Bool) → in_step ms ns ≡ false → (b && in_step ms ns) ≡ false
    after true e = e
    after false e = refl

pub names_differ : (k l : List ℕ) (d e : Data) (ms ns : Members) → bytes_eq k l ≡ false → in_step (member k d ms) (member l e ns) ≡ false
names_differ k l d e ms ns h = rw h refl

pub values_differ : (k l : List ℕ) (d e : Data) (ms ns : Members) → equal d e ≡ false → in_step (member k d ms) (member l e ns) ≡ false
values_differ k l d e ms ns h = by (bytes_eq k l)
  where
    by : (b : Bool) → (b && equal d e && in_step ms ns) ≡ false
    by true = rw h refl
    by false = refl

pub flipped : (b c : Bool) → c ≡ not b → c ≡ true → b ≡ false
flipped true c h g = cc
flipped false c h g = refl

pub nothing_left : {X : Type 0} (xs : List X) → 0 ≡ length xs → xs ≡ []
nothing_left [] h = refl
nothing_left (x ∷ xs) h = absurd (omega arith)
