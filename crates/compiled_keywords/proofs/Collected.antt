-- Texts that are gathered in a set.
use Rattle.std.proofs.Common.{◌≡◌, ◌||◌, ℕ, List, [], ◌∷◌, Bool, true, false, Some, None, Ordering, Less, Equal, Greater, String, Global, nat_cmp, is_eq, refl, ap, string_bytes}
use Rattle.std.proofs.lemmas.Map.Text.{is_eq-slice_cmp}
use Rattle.std.specs.BTreeSet.{insert_key}
use Rattle.std.specs.Cmp.Lexicographic.{slice_cmp}
use Rattle.std.specs.List.{list_any}
use Rattle.std.specs.String.{string_cmp}
use Rattle.serde_json.specs.Data.{Data, null, boolean, number, string, array, object}
use Rattle.serde_json.specs.Find.{as_str}
use Rattle.json_values.proofs.Names.{name_same}
use Rattle.json_values.specs.Equality.{equal}
use Rattle.compiled_keywords.specs.Options.{beside}

abbrev pub Text : Type 0
Text = String Global

pub absorbed : (b r : Bool) → (b || r) ≡ (b || (b || r))
absorbed true r = refl
absorbed false r = refl

pub swapped : (b c r : Bool) → (b || (c || r)) ≡ (c || (b || r))
swapped true true r = refl
swapped true false r = refl
swapped false c r = refl

pub moved_on : (a c r : Bool) → ((a || c) || r) ≡ (c || (a || r))
moved_on true true r = refl
moved_on true false r = refl
moved_on false c r = refl

-- a text is found in a set with one more where it is that one, or was found before
pub found_with : (text : List ℕ) (ks : List Text) (k : Text) → list_any (λ x. is_eq (beside text x)) (insert_key string_cmp ks k) ≡ (is_eq (beside text k) || list_any (λ x. is_eq (beside text x)) ks)
found_with text [] k = refl
found_with text (x ∷ xs) k = by (found_with text xs k) (string_cmp k x) refl
  where
    rest : Bool
    rest = list_any (λ y. is_eq (beside text y)) xs

    by : list_any (λ y. is_eq (beside text y)) (insert_key string_cmp xs k) ≡ (is_eq (beside text k) || list_any (λ y. is_eq (beside text y)) xs)
        → (o : Ordering) → string_cmp k x ≡ o
        → list_any (λ y. is_eq (beside text y)) (insert_key string_cmp (x ∷ xs) k) ≡ (is_eq (beside text k) || list_any (λ y. is_eq (beside text y)) (x ∷ xs))
    by before Less e = rw e refl
    by before Equal e = rw (e, ap (λ n. is_eq (slice_cmp nat_cmp text n)) (name_same (string_bytes k) (string_bytes x) e)) (absorbed (is_eq (beside text x)) rest)
    by before Greater e = rw (e, before) (swapped (is_eq (beside text x)) (is_eq (beside text k)) rest)

-- a text beside one that is kept
pub told_beside : (text : List ℕ) (k : Text) → is_eq (beside text k) ≡ equal (string text) (string (string_bytes k))
told_beside text k = is_eq-slice_cmp text (string_bytes k)

-- a value that has this text, and one that has none
pub is_text : (d : Data) (text : List ℕ) → Some text ≡ as_str d → string text ≡ d
is_text null text h = cc
is_text (boolean b) text h = cc
is_text (number n) text h = cc
is_text (string s) text h = cc
is_text (array ds) text h = cc
is_text (object ms) text h = cc

pub is_other : (text : List ℕ) (d : Data) → None ≡ as_str d → equal (string text) d ≡ false
is_other text null h = refl
is_other text (boolean b) h = refl
is_other text (number n) h = refl
is_other text (string s) h = cc
is_other text (array ds) h = refl
is_other text (object ms) h = refl
