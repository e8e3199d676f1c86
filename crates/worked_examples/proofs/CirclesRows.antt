-- Chains of references that come back, and what the cut reading tells.
use Rattle.std.proofs.Common.{◌≡◌, ℕ, zero, suc, List, [], ◌∷◌, Option, codes, None, true, refl, sym, subst}
use Rattle.std.specs.List.{AllByRecursion}
use Rattle.json_values.specs.Patterns.{reads_as}
use Rattle.json_values.specs.Pointers.{replace_escape}
use Rattle.schema_meaning.specs.Members.{In, first, later}
use Rattle.json_values.specs.Parts.{Part, index}
use Rattle.schema_meaning.specs.Places.{Spot, stay, whole, Key}
use Rattle.schema_meaning.specs.Questions.{Question, at, question, at_index, asked_at}
use Rattle.schema_meaning.specs.Rules.{asks}
use Rattle.schema_meaning.specs.Keywords.{static, reference, all_of, any_of, rule}
use Rattle.schema_meaning.specs.Readings.{Reading, told, through, Asks}
use Rattle.schema_meaning.specs.Circular.{Leads, starts, inside, follows, key_at}
use Rattle.schema_meaning.specs.Cut.{cut, cut_within}
use Rattle.worked_examples.specs.Forms.{reading_of}
use Rattle.worked_examples.specs.Circles.{Circles, IsDecided, KeysOfItself, key, itself, to_any_of, to_each_other, to_all_of, circles_examples, recursive_examples}

pub recursive_hold : AllByRecursion IsDecided recursive_examples
unfolding told through cut cut_within replace_escape
recursive_hold = ((refl, (refl, refl)), ((refl, (refl, refl)), tt))

-- the question of `$ref`, and that of a branch
abbrev follow : ℕ → Question ℕ
follow n = record { site = n; step = stay; added = at (codes "$ref"); follows = true }

abbrev branch : List ℕ → ℕ → ℕ → Question ℕ
branch k i n = question n stay (at_index k i)

-- ---- {"$ref":"#"}

abbrev one : Reading ℕ
one = reading_of itself.sites []

asks_itself : (w : Spot) → Asks one 0 w (follow 0)
asks_itself w = record { keyword = rule (reads_as []) w.value (reference static 0); stands = first; asked = first }

itself_circles : Circles itself
unfolding told through cut cut_within replace_escape
itself_circles = (
  (refl, refl),
  record {
    key = key 0 "" None;
    keys = key 0 "" None ∷ [];
    site = 0;
    spot = asked_at (asked_at (whole itself.value) (follow 0)) (follow 0);
    chain = follows (follows starts (follow 0) (asks_itself _) refl) (follow 0) (asks_itself _) refl;
    again = first;
  },
  (refl, refl),
)

-- ---- {"anyOf":[{"$ref":"#"},true]}

abbrev two : Reading ℕ
two = reading_of to_any_of.sites []

asks_any_of : (w : Spot) → Asks two 0 w (branch (codes "anyOf") 0 1)
asks_any_of w = record { keyword = rule (reads_as []) w.value (any_of (1 ∷ 2 ∷ [])); stands = first; asked = first }

asks_of_any_of : (w : Spot) → Asks two 1 w (follow 0)
asks_of_any_of w = record { keyword = rule (reads_as []) w.value (reference static 0); stands = first; asked = first }

any_of_circles : Circles to_any_of
unfolding told through cut cut_within replace_escape
any_of_circles = (
  (refl, refl),
  record {
    key = key 0 "" None;
    keys = key 0 "" None ∷ [];
    site = 0;
    spot = _;
    chain = follows (inside (follows (inside starts (branch (codes "anyOf") 0 1) (asks_any_of _) refl) (follow 0) (asks_of_any_of _) refl)
        (branch (codes "anyOf") 0 1) (asks_any_of _) refl) (follow 0) (asks_of_any_of _) refl;
    again = first;
  },
  (refl, refl),
)

-- ---- two schemas that refer to each other

abbrev three : Reading ℕ
three = reading_of to_each_other.sites []

asks_a : (w : Spot) → Asks three 0 w (follow 1)
asks_a w = record { keyword = rule (reads_as []) w.value (reference static 1); stands = first; asked = first }

a_asks_b : (w : Spot) → Asks three 1 w (follow 2)
a_asks_b w = record { keyword = rule (reads_as []) w.value (reference static 2); stands = first; asked = first }

b_asks_a : (w : Spot) → Asks three 2 w (follow 1)
b_asks_a w = record { keyword = rule (reads_as []) w.value (reference static 1); stands = first; asked = first }

each_other_circles : Circles to_each_other
unfolding told through cut cut_within replace_escape
each_other_circles = (
  (refl, refl),
  record {
    key = key 1 "" None;
    keys = key 2 "" None ∷ key 1 "" None ∷ [];
    site = 1;
    spot = _;
    chain = follows (follows (follows starts (follow 1) (asks_a _) refl) (follow 2) (a_asks_b _) refl) (follow 1) (b_asks_a _) refl;
    again = later first;
  },
  (refl, refl),
)

-- ---- {"allOf":[{"$ref":"#"},{"type":"string"}]}

abbrev four : Reading ℕ
four = reading_of to_all_of.sites []

asks_all_of : (w : Spot) → Asks four 0 w (branch (codes "allOf") 0 1)
asks_all_of w = record { keyword = rule (reads_as []) w.value (all_of (1 ∷ 2 ∷ [])); stands = first; asked = first }

asks_of_all_of : (w : Spot) → Asks four 1 w (follow 0)
asks_of_all_of w = record { keyword = rule (reads_as []) w.value (reference static 0); stands = first; asked = first }

all_of_circles : Circles to_all_of
unfolding told through cut cut_within replace_escape
all_of_circles = (
  (refl, refl),
  record {
    key = key 0 "" None;
    keys = key 0 "" None ∷ [];
    site = 0;
    spot = _;
    chain = follows (inside (follows (inside starts (branch (codes "allOf") 0 1) (asks_all_of _) refl) (follow 0) (asks_of_all_of _) refl)
        (branch (codes "allOf") 0 1) (asks_all_of _) refl) (follow 0) (asks_of_all_of _) refl;
    again = first;
  },
  (refl, refl),
)

pub circles_hold : AllByRecursion Circles circles_examples
circles_hold = (itself_circles, (any_of_circles, (each_other_circles, (all_of_circles, tt))))

-- ---- the keys of {"$ref":"#"}

none_in : {A : Type 0} {x : A} {B : Type 0} → In x [] → B
none_in h = elim h [ ]

only_in : {A : Type 0} (x y : A) → In x (y ∷ []) → x ≡ y
only_in x y first = refl
only_in x y (later h) = none_in h

-- the one question
is_follow : (s : ℕ) (w : Spot) (q : Question ℕ) → Asks one s w q → q ≡ follow 0
is_follow zero w q a =
    let k : a.keyword ≡ rule (reads_as []) w.value (reference static 0) = only_in _ _ a.stands in
    only_in q (follow 0) (subst (λ k. In q (asks k)) k a.asked)
is_follow (suc s) w q a = none_in a.stands

record Stays (w : Spot) : Type 0 where
  path : w.path ≡ []
  called : w.called ≡ None

stays : {keys : _} {s : ℕ} {w : Spot} → Leads one 0 (whole itself.value) keys s w → Stays w
stays starts = record { path = refl; called = refl }
stays (inside {s = s} {w = w} l q a stands) = let h = stays l in subst (λ p. Stays (asked_at w p)) (sym (is_follow s w q a)) (record { path = h.path; called = h.called })
stays (follows {s = s} {w = w} l q a follows_on) = let h = stays l in subst (λ p. Stays (asked_at w p)) (sym (is_follow s w q a)) (record { path = h.path; called = h.called })

abbrev keyed : List Part → Option (List ℕ) → Key
keyed p c = record { target = record { document = []; path = index 0 ∷ [] }; path = p; called = c }

first_key : (w : Spot) → Stays w → In (key_at one w (follow 0)) (key 0 "" None ∷ [])
first_key w h =
    subst (λ p. In (keyed p w.called) (key 0 "" None ∷ [])) (sym h.path) (subst (λ c. In (keyed [] c) (key 0 "" None ∷ [])) (sym h.called) first)

pub keys_of_itself : KeysOfItself
keys_of_itself = record {
  key = λ keys s w l q a yes. subst (λ p. In (key_at one w p) (key 0 "" None ∷ [])) (sym (is_follow s w q a)) (first_key w (stays l));
}
