-- The matches that a value asks for.
use Rattle.std.proofs.Common.{◌≡◌, ℕ, List, [], ◌∷◌, ◌++◌, ◌||◌, Bool, true, false, map, Option, Some, None, bytes_eq, refl, sym, ap, subst}
use Rattle.std.specs.List.{flat_map}
use Rattle.std.proofs.lemmas.Slice.Eq.{bytes_eq-Decides}
use Rattle.serde_json.specs.Data.{Data, null, boolean, number, string, array, object, Members, no_members, member}
use Rattle.json_values.specs.Patterns.{matched, known}
use Rattle.schema_meaning.specs.Members.{In, first, later, is_listed}
use Rattle.schema_meaning.specs.Places.{whole}
use Rattle.schema_meaning.specs.Questions.{listed_members, names_of}
use Rattle.schema_meaning.specs.Keywords.{Assertion, types, constant, enumeration, multiple_of, maximum, exclusive_maximum, minimum, exclusive_minimum, maximum_of_draft_4, minimum_of_draft_4, max_length, min_length, pattern, max_items, min_items, unique_items, max_properties, min_properties, required, dependent_required, Form, each_from, by_index, by_name, by_pattern, of_others, of_members, of_names, of_triggered, of_dependencies, of_branches, of_value, of_condition, Shape, never, asserts, asks_every, asks_together, asks_names, asks_some, asks_one, asks_no, contains, condition, reference}
use Rattle.schema_meaning.specs.Matches.{of_text, with_names, asserted_matches, form_matches, match_sites}
use Rattle.reading_laws.proofs.Elements.{in_rest}
use Rattle.schema_patterns.specs.Texts.{texts_in, texts_of_members}
use Rattle.schema_patterns.specs.Read.{reads, leaves, IsRead}
use Rattle.reading_laws.specs.Asked.{pattern_in, patterns_in, patterns_of, IsAsked}
use Rattle.reading_laws.specs.AskedLaws.{AskedMatchesAreKnown, MatchesAreRead}
use Rattle.reading_laws.proofs.Reached.{led_is_reached, led_texts}

-- ---- a pattern of the keyword, and a text of the value

record Pair (ps : List (List ℕ)) (d : Data) (p t : List ℕ) : Type 0 where
  pattern : In p ps
  text : In t (texts_in d)

of_none : (ps : List (List ℕ)) (d : Data) (p t : List ℕ) → In {A = List ℕ × List ℕ} (p, t) [] → Pair ps d p t
of_none ps d p t i = elim i [ ]

text_pair : (q : List ℕ) (d : Data) (p t : List ℕ) → In (p, t) (of_text q d) → Pair (q ∷ []) d p t
text_pair q null p t i = elim i [ ]
text_pair q (boolean b) p t i = elim i [ ]
text_pair q (number n) p t i = elim i [ ]
text_pair _ (string _) p t first = record { pattern = first; text = first }
text_pair q (string s) p t (later i) = elim i [ ]
text_pair q (array ds) p t i = elim i [ ]
text_pair q (object ms) p t i = elim i [ ]

name_text : (ms : Members) (t : List ℕ) → In t (map (λ m. m.0) (listed_members ms)) → In t (texts_of_members ms)
name_text no_members t i = elim i [ ]
name_text (member _ d ms) t first = first
name_text (member k d ms) t (later i) = later (in_rest t (texts_in d) (texts_of_members ms) (name_text ms t i))

-- a name of the value
named_text : (d : Data) (t : List ℕ) → In t (names_of d) → In t (texts_in d)
named_text null t i = elim i [ ]
named_text (boolean b) t i = elim i [ ]
named_text (number n) t i = elim i [ ]
named_text (string s) t i = elim i [ ]
named_text (array ds) t i = elim i [ ]
named_text (object ms) t i = name_text ms t i

record OfOne (q : List ℕ) (names : List (List ℕ)) (p t : List ℕ) : Type 0 where
  pattern : p ≡ q
  name : In t names

of_one : (q : List ℕ) (names : List (List ℕ)) (p t : List ℕ) → In {A = List ℕ × List ℕ} (p, t) (map (λ k. (q, k)) names) → OfOne q names p t
of_one q [] p t i = elim i [ ]
of_one _ (_ ∷ names) p t first = record { pattern = refl; name = first }
of_one q (k ∷ names) p t (later i) = let o = of_one q names p t i in record { pattern = o.pattern; name = later o.name }

split : {A : Type 0} (x : A) (xs ys : List A) (P : Type 0) → (In x xs → P) → (In x ys → P) → In x (xs ++ ys) → P
split x [] ys P f g i = g i
split _ (x ∷ xs) ys P f g first = f first
split x (z ∷ xs) ys P f g (later i) = split x xs ys P (λ j. f (later j)) g i

of_patterns : {A : Type 0} (pattern_of : A → List ℕ) (d : Data) (xs : List A) (p t : List ℕ) → In (p, t) (flat_map (λ a. with_names d (pattern_of a)) xs) → Pair (map pattern_of xs) d p t
of_patterns pattern_of d [] p t i = elim i [ ]
of_patterns pattern_of d (a ∷ xs) p t i =
    split (p, t) (with_names d (pattern_of a)) (flat_map (λ a. with_names d (pattern_of a)) xs) (Pair (map pattern_of (a ∷ xs)) d p t)
    (λ j. let o = of_one (pattern_of a) (names_of d) p t j in
    record { pattern = subst (λ q. In q (map pattern_of (a ∷ xs))) (sym o.pattern) first; text = named_text d t o.name })
    (λ j. let r = of_patterns pattern_of d xs p t j in record { pattern = later r.pattern; text = r.text }) i

map_same : (ps : List (List ℕ)) → map (λ p. p) ps ≡ ps
map_same [] = refl
map_same (p ∷ ps) = ap (λ qs. p ∷ qs) (map_same ps)

declared_pair : (d : Data) (ps : List (List ℕ)) (p t : List ℕ) → In (p, t) (flat_map (with_names d) ps) → Pair ps d p t
declared_pair d ps p t i = subst (λ qs. Pair qs d p t) (map_same ps) (of_patterns (λ q. q) d ps p t i)

asserted_pair : (a : Assertion) (d : Data) (p t : List ℕ) → In (p, t) (asserted_matches a d) → Pair (pattern_in a) d p t
asserted_pair (types ts) d p t i = of_none _ d p t i
asserted_pair (constant e) d p t i = of_none _ d p t i
asserted_pair (enumeration ds) d p t i = of_none _ d p t i
asserted_pair (multiple_of n) d p t i = of_none _ d p t i
asserted_pair (maximum z) d p t i = of_none _ d p t i
asserted_pair (exclusive_maximum z) d p t i = of_none _ d p t i
asserted_pair (minimum z) d p t i = of_none _ d p t i
asserted_pair (exclusive_minimum z) d p t i = of_none _ d p t i
asserted_pair (maximum_of_draft_4 z b) d p t i = of_none _ d p t i
asserted_pair (minimum_of_draft_4 z b) d p t i = of_none _ d p t i
asserted_pair (max_length n) d p t i = of_none _ d p t i
asserted_pair (min_length n) d p t i = of_none _ d p t i
asserted_pair (pattern q) d p t i = text_pair q d p t i
asserted_pair (max_items n) d p t i = of_none _ d p t i
asserted_pair (min_items n) d p t i = of_none _ d p t i
asserted_pair unique_items d p t i = of_none _ d p t i
asserted_pair (max_properties n) d p t i = of_none _ d p t i
asserted_pair (min_properties n) d p t i = of_none _ d p t i
asserted_pair (required names) d p t i = of_none _ d p t i
asserted_pair (dependent_required ps) d p t i = of_none _ d p t i

form_pair : {S : Type 0} (d : Data) (form : Form S) (p t : List ℕ) → In (p, t) (form_matches d form) → Pair (patterns_in form) d p t
form_pair d (each_from start s) p t i = of_none _ d p t i
form_pair d (by_index ss) p t i = of_none _ d p t i
form_pair d (by_name ps) p t i = of_none _ d p t i
form_pair d (by_pattern ps) p t i = of_patterns (λ q. q.0) d ps p t i
form_pair d (of_others declared s) p t i = declared_pair d declared.patterns p t i
form_pair d (of_members s) p t i = of_none _ d p t i
form_pair d (of_names s) p t i = of_none _ d p t i
form_pair d (of_triggered ps) p t i = of_none _ d p t i
form_pair d (of_dependencies ps) p t i = of_none _ d p t i
form_pair d (of_branches ss) p t i = of_none _ d p t i
form_pair d (of_value schema s) p t i = of_none _ d p t i
form_pair d (of_condition s h e) p t i = of_none _ d p t i

pair : {S : Type 0} (d : Data) (k : Shape S) (p t : List ℕ) → In (p, t) (match_sites d k) → Pair (patterns_of k) d p t
pair d never p t i = of_none _ d p t i
pair d (asserts a) p t i = asserted_pair a d p t i
pair d (asks_every k form) p t i = form_pair d form p t i
pair d (asks_together k form) p t i = form_pair d form p t i
pair d (asks_names k s) p t i = of_none _ d p t i
pair d (asks_some k form) p t i = form_pair d form p t i
pair d (asks_one k form) p t i = form_pair d form p t i
pair d (asks_no k schema s) p t i = of_none _ d p t i
pair d (contains s least most) p t i = of_none _ d p t i
pair d (condition s h e) p t i = of_none _ d p t i
pair d (reference r s) p t i = of_none _ d p t i

pub asked_matches_are_known : AskedMatchesAreKnown
asked_matches_are_known docs makes root matches d p t a =
    let of = pair a.spot.value a.keyword p t a.asked in
    record {
      reached = led_is_reached docs makes matches root (whole d) a.keys a.site a.spot a.chain;
      pattern = of.pattern;
      text = led_texts docs makes matches root d a.keys a.site a.spot a.chain t of.text;
    }

-- ---- what was read

eq_self : (t : List ℕ) → bytes_eq t t ≡ true
eq_self t = (bytes_eq-Decides t t).1 refl

listed : (t : List ℕ) (ts : List (List ℕ)) → In t ts → is_listed t ts ≡ true
listed t [] i = elim i [ ]
listed t (_ ∷ ts) first = ap (λ b. b || is_listed t ts) (eq_self t)
listed t (s ∷ ts) (later i) = by (bytes_eq t s) (listed t ts i)
  where
    by : (b : Bool) → is_listed t ts ≡ true → (b || is_listed t ts) ≡ true
    by true e = refl
    by false e = e

read_so : (o : Option Bool) (answer read left : Bool) → IsRead o read left → o ≡ Some answer → answer ≡ read
read_so None answer read left r e = cc
read_so (Some b) answer read left r e = cc

pub matches_are_read : MatchesAreRead
matches_are_read docs makes root finished patterns m d among read matches done keys s w chain = record {
  each = λ k i. record {
    same = λ p t j.
        let a : IsAsked docs makes root matches d p t = record { keys = keys; site = s; spot = w; chain = chain; keyword = k; stands = i; asked = j } in
        let of = asked_matches_are_known docs makes root matches d p t a in
        read_so (known finished p t) (matched matches p t) (matched (reads m) p t) (leaves m p t)
        (read.each p t (among.each s of.reached k i p of.pattern) (listed t (texts_in d) of.text)) (done.each p t a);
  };
}
