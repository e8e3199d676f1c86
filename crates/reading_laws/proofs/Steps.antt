-- Where steps lead: from a place of an instance to places of it.
use Rattle.std.proofs.Common.{◌≡◌, ◌+◌, ℕ, zero, suc, List, [], ◌∷◌, Option, Some, None, inl, inr, sym, subst, arith}
use Rattle.std.specs.List.{AllByRecursion}
use Rattle.serde_json.specs.Data.{Data, null, boolean, number, string, array, object, Items, no_items, item, Members, no_members, member}
use Rattle.serde_json.specs.Find.{get, get_member}
use Rattle.json_values.specs.Parts.{Part, name, index}
use Rattle.json_values.proofs.Names.{found_at}
use Rattle.schema_meaning.specs.Members.{In, first, later}
use Rattle.schema_meaning.specs.Places.{Step, stay, to_item, to_member, to_name, value_after, path_after, called_after}
use Rattle.schema_meaning.specs.Questions.{items_of, items_from, listed_members, members_of}
use Rattle.schema_definitions.specs.AllKeys.{spots_in, spots_of_items, spots_of_members}
use Rattle.schema_patterns.specs.Texts.{texts_in, texts_of_items, texts_of_members}
use Rattle.reading_laws.proofs.Elements.{in_front, in_rest}

abbrev pub Seen : Type 0
Seen = List Part × Option (List ℕ)

-- every place of the one is a place of the other
abbrev pub Inside : List Seen → List Seen → Type 0
Inside xs ys = (x : Seen) → In x xs → In x ys

pub first_spot : (path : List Part) (d : Data) → In (path, None) (spots_in path d)
first_spot path null = first
first_spot path (boolean b) = first
first_spot path (number n) = first
first_spot path (string s) = first
first_spot path (array ds) = first
first_spot path (object ms) = first

-- each of these texts is a text of the value
abbrev pub TextsOf : Data → List (List ℕ) → Type 0
TextsOf d ts = (t : List ℕ) → In t ts → In t (texts_in d)

-- the step leads from the value at any path to places there, and to texts of it; where it stays, it stays what is called
pub record Keeps (d : Data) (step : Step) : Type 0 where
  pub inside : (path : List Part) → Inside (spots_in (path_after path step) (value_after d step)) (spots_in path d)
  pub here : (all : List Seen) (path : List Part) (called : Option (List ℕ)) → Inside (spots_in path d) all → In (path, called) all
      → In (path_after path step, called_after called step) all
  pub texts : TextsOf d (texts_in (value_after d step))

pub stay_keeps : (d : Data) → Keeps d stay
stay_keeps d = record { inside = λ path x i. i; here = λ all path called h i. i; texts = λ t i. i }

pub item_keeps : (d e : Data) (i : ℕ) → ((path : List Part) → Inside (spots_in (index i ∷ path) e) (spots_in path d)) → TextsOf d (texts_in e) → Keeps d (to_item i e)
item_keeps d e i h texts = record { inside = h; here = λ all path called g j. g (index i ∷ path, None) (h path (index i ∷ path, None) (first_spot (index i ∷ path) e)); texts = texts }

pub member_keeps : (d e : Data) (k : List ℕ) → ((path : List Part) → Inside (spots_in (name k ∷ path) e) (spots_in path d)) → TextsOf d (texts_in e) → Keeps d (to_member k e)
member_keeps d e k h texts = record { inside = h; here = λ all path called g j. g (name k ∷ path, None) (h path (name k ∷ path, None) (first_spot (name k ∷ path) e)); texts = texts }

one_spot : (d : Data) (path : List Part) (x : Seen) → In x ((path, None) ∷ []) → In x (spots_in path d)
one_spot d path x first = first_spot path d
one_spot d path x (later i) = elim i [ ]

one_text : (d : Data) (k t : List ℕ) → In k (texts_in d) → In t (k ∷ []) → In t (texts_in d)
one_text d k _ h first = h
one_text d k t h (later i) = elim i [ ]

pub name_keeps : (d : Data) (k : List ℕ) → ((path : List Part) → In (path, Some k) (spots_in path d)) → In k (texts_in d) → Keeps d (to_name k)
name_keeps d k h text = record { inside = λ path. one_spot d path; here = λ all path called g j. g (path, Some k) (h path); texts = λ t i. one_text d k t text i }

-- ---- items

-- the places of these items, the first of which has index i, are places of the value, and their texts are texts of it
pub record ItemsLie (d : Data) (i : ℕ) (ds : Items) : Type 0 where
  pub inside : (path : List Part) → Inside (spots_of_items path i ds) (spots_in path d)
  pub texts : TextsOf d (texts_of_items ds)

pub first_item : (d e : Data) (i : ℕ) (ds : Items) → ItemsLie d i (item e ds) → Keeps d (to_item i e)
first_item d e i ds h = item_keeps d e i (λ path x j. h.inside path x (in_front x (spots_in (index i ∷ path) e) (spots_of_items path (suc i) ds) j))
    (λ t j. h.texts t (in_front t (texts_in e) (texts_of_items ds) j))

pub next_items : (d e : Data) (i : ℕ) (ds : Items) → ItemsLie d i (item e ds) → ItemsLie d (suc i) ds
next_items d e i ds h = record {
  inside = λ path x j. h.inside path x (in_rest x (spots_in (index i ∷ path) e) (spots_of_items path (suc i) ds) j);
  texts = λ t j. h.texts t (in_rest t (texts_in e) (texts_of_items ds) j);
}

nothing_lies : (d : Data) (i : ℕ) → ItemsLie d i no_items
nothing_lies d i = record { inside = λ path x j. elim j [ ]; texts = λ t j. elim j [ ] }

pub all_items : (d : Data) → ItemsLie d 0 (items_of d)
all_items null = nothing_lies null 0
all_items (boolean b) = nothing_lies (boolean b) 0
all_items (number n) = nothing_lies (number n) 0
all_items (string s) = nothing_lies (string s) 0
all_items (array ds) = record { inside = λ path x j. later j; texts = λ t j. j }
all_items (object ms) = nothing_lies (object ms) 0

items_behind : (d : Data) (start i j : ℕ) (ds : Items) → j ≡ i + start → ItemsLie d i ds → ItemsLie d j (items_from start ds)
items_behind d start i j no_items e h = nothing_lies d j
items_behind d zero i j (item x ds) e h = let same : i ≡ j = omega arith in subst (λ (m : ℕ). ItemsLie d m (item x ds)) same h
items_behind d (suc start) i j (item x ds) e h = items_behind d start (suc i) j ds (omega arith) (next_items d x i ds h)

pub items_lie : (d : Data) (start : ℕ) → ItemsLie d start (items_from start (items_of d))
items_lie d start = items_behind d start 0 start (items_of d) (omega arith) (all_items d)

-- ---- members

-- the member's places, and its name's, are places of the value
pub record MemberLies (d : Data) (m : List ℕ × Data) : Type 0 where
  pub value : Keeps d (to_member m.0 m.1)
  pub called : Keeps d (to_name m.0)

listed_lie : (d : Data) (ms : Members) → ((path : List Part) → Inside (spots_of_members path ms) (spots_in path d)) → TextsOf d (texts_of_members ms) → AllByRecursion (MemberLies d) (listed_members ms)
listed_lie d no_members h texts = tt
listed_lie d (member k e ms) h texts = (
  record {
    value = member_keeps d e k (λ path x i. h path x (later (in_front x (spots_in (name k ∷ path) e) (spots_of_members path ms) i)))
        (λ t i. texts t (later (in_front t (texts_in e) (texts_of_members ms) i)));
    called = name_keeps d k (λ path. h path (path, Some k) first) (texts k first);
  },
  listed_lie d ms (λ path x i. h path x (later (in_rest x (spots_in (name k ∷ path) e) (spots_of_members path ms) i)))
      (λ t i. texts t (later (in_rest t (texts_in e) (texts_of_members ms) i))),
)

pub members_lie : (d : Data) → AllByRecursion (MemberLies d) (members_of d)
members_lie null = tt
members_lie (boolean b) = tt
members_lie (number n) = tt
members_lie (string s) = tt
members_lie (array ds) = tt
members_lie (object ms) = listed_lie (object ms) ms (λ path x i. later i) (λ t i. i)

found_among : (k : List ℕ) (ms : Members) (e : Data) → get_member k ms ≡ Some e → (path : List Part) → Inside (spots_in (name k ∷ path) e) (spots_of_members path ms)
found_among k no_members e h path x i = cc
found_among k (member l d ms) e h path x i =
    elim (found_at k l d ms e h) [
      | inl same ↦ later (in_front x (spots_in (name l ∷ path) d) (spots_of_members path ms)
          (subst (λ (y : Data). In x (spots_in (name l ∷ path) y)) (sym same.1) (subst (λ (n : List ℕ). In x (spots_in (name n ∷ path) e)) same.0 i)))
      | inr rest ↦ later (in_rest x (spots_in (name l ∷ path) d) (spots_of_members path ms) (found_among k ms e rest path x i))
    ]

text_among : (k : List ℕ) (ms : Members) (e : Data) → get_member k ms ≡ Some e → (t : List ℕ) → In t (texts_in e) → In t (texts_of_members ms)
text_among k no_members e h t i = cc
text_among k (member l d ms) e h t i =
    elim (found_at k l d ms e h) [
      | inl same ↦ later (in_front t (texts_in d) (texts_of_members ms) (subst (λ (y : Data). In t (texts_in y)) (sym same.1) i))
      | inr rest ↦ later (in_rest t (texts_in d) (texts_of_members ms) (text_among k ms e rest t i))
    ]

pub found_keeps : (k : List ℕ) (d e : Data) → get k d ≡ Some e → Keeps d (to_member k e)
found_keeps k null e h = cc
found_keeps k (boolean b) e h = cc
found_keeps k (number n) e h = cc
found_keeps k (string s) e h = cc
found_keeps k (array ds) e h = cc
found_keeps k (object ms) e h = member_keeps (object ms) e k (λ path x i. later (found_among k ms e h path x i)) (λ t i. text_among k ms e h t i)
