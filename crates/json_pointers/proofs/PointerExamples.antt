-- The examples of RFC 6901, section 5, and the rules at their edges, computed.
use Rattle.std.proofs.Common.{◌≡◌, ℕ, List, [], ◌∷◌, ◌^◌, Some, None, Ok, Err, codes, refl}
use Rattle.std.specs.Fmt.{digits}
use Rattle.serde_json.specs.Data.{Data, unsigned, number, string, array, object, no_items, item, no_members, member}
use Rattle.serde_json.specs.Find.{unescape}
use Rattle.serde_json.proofs.OnLiterals.{serde_json_on_literals}
use Rattle.json_values.specs.Parts.{name, index}
use Rattle.json_values.specs.Pointers.{escape, replace_escape, unescape_in_turn, pointer_text, value_at, index_of, index_below, Stop, not_a_pointer, nowhere, not_an_index, follow, locate}

-- ---- section 5

abbrev whole_number : ℕ → Data
whole_number n = number (unsigned n)

abbrev bar_baz : Data
bar_baz = array (item (string (codes "bar")) (item (string (codes "baz")) no_items))

-- the document, its members in the order of their names
abbrev document : Data
document =
    object (member (codes "") (whole_number 0) (member (codes " ") (whole_number 7) (member (codes "a/b") (whole_number 1)
    (member (codes "c%d") (whole_number 2) (member (codes "e^f") (whole_number 3) (member (codes "foo") bar_baz
    (member (codes "g|h") (whole_number 4) (member (105 ∷ 92 ∷ 106 ∷ []) (whole_number 5) (member (107 ∷ 34 ∷ 108 ∷ []) (whole_number 6)
    (member (codes "m~n") (whole_number 8) no_members))))))))))

abbrev Leads : List ℕ → Data → Type 0
Leads text d = locate text document ≡ Ok d

abbrev Stops : List ℕ → Stop → Type 0
Stops text stop = locate text document ≡ Err stop

table : Leads (codes "") document × Leads (codes "/foo") bar_baz × Leads (codes "/foo/0") (string (codes "bar"))
    × Leads (codes "/") (whole_number 0) × Leads (codes "/a~1b") (whole_number 1) × Leads (codes "/c%d") (whole_number 2)
    × Leads (codes "/e^f") (whole_number 3) × Leads (codes "/g|h") (whole_number 4) × Leads (47 ∷ 105 ∷ 92 ∷ 106 ∷ []) (whole_number 5)
    × Leads (47 ∷ 107 ∷ 34 ∷ 108 ∷ []) (whole_number 6) × Leads (codes "/ ") (whole_number 7) × Leads (codes "/m~0n") (whole_number 8)
unfolding serde_json_on_literals follow unescape
table = (refl, refl, refl, refl, refl, refl, refl, refl, refl, refl, refl, refl)

-- ---- texts that lead nowhere, with the cause

refused : Stops (codes "foo") not_a_pointer × Stops (codes "/bar") nowhere × Stops (codes "/foo/2") nowhere × Stops (codes "/foo/0/x") nowhere × Stops (codes "//") nowhere
    × Stops (codes "/foo/01") (not_an_index (codes "01")) × Stops (codes "/foo/-") (not_an_index (codes "-")) × Stops (codes "/foo/") (not_an_index (codes ""))
    × Stops (codes "/foo/+1") (not_an_index (codes "+1")) × Stops (codes "/foo/1e0") (not_an_index (codes "1e0")) × Stops (codes "/foo/~00") (not_an_index (codes "~00"))
    × Stops (codes "/foo/18446744073709551616") nowhere × Stops (codes "/m~n/0") nowhere × Stops (codes "/a/b") nowhere
unfolding serde_json_on_literals follow unescape
refused = (refl, refl, refl, refl, refl, refl, refl, refl, refl, refl, refl, refl, refl, refl)

-- ---- indexes

indexes : (index_of (codes "0") ≡ Some 0) × (index_of (codes "1") ≡ Some 1) × (index_of (codes "10") ≡ Some 10) × (index_of (codes "01") ≡ None) × (index_of (codes "00") ≡ None)
    × (index_of (codes "-") ≡ None) × (index_of (codes "") ≡ None) × (index_of (codes "+1") ≡ None) × (index_of (codes "1a") ≡ None)
    × (index_below (2 ^ 64) (codes "18446744073709551615") ≡ Some 18446744073709551615) × (index_below (2 ^ 64) (codes "18446744073709551616") ≡ None)
indexes = (refl, refl, refl, refl, refl, refl, refl, refl, refl, refl, refl)

-- ---- escapes

-- `~01` is `~1` and not `/`; what begins no escape stands for itself
escapes : (unescape (codes "~01") ≡ codes "~1") × (unescape_in_turn (codes "~01") ≡ codes "~1") × (unescape (codes "~10") ≡ codes "/0") × (unescape (codes "~~1") ≡ codes "~/")
    × (unescape_in_turn (codes "~~1") ≡ codes "~/") × (unescape (codes "~2") ≡ codes "~2") × (unescape (codes "a~") ≡ codes "a~") × (unescape (codes "~0~1~") ≡ codes "~/~")
    × (escape (codes "~1") ≡ codes "~01") × (escape (codes "a/b~c") ≡ codes "a~1b~0c") × (escape (codes "") ≡ codes "")
unfolding unescape escape replace_escape
escapes = (refl, refl, refl, refl, refl, refl, refl, refl, refl, refl, refl)

-- ---- paths

-- a name of digits has the text of an index, and leads to an item where the path has none
paths : (pointer_text [] ≡ codes "") × (pointer_text (name (codes "foo") ∷ index 1 ∷ []) ≡ codes "/foo/1") × (pointer_text (name (codes "a/b") ∷ name (codes "m~n") ∷ name [] ∷ []) ≡ codes "/a~1b/m~0n/")
    × (pointer_text (index 120 ∷ []) ≡ codes "/120") × (value_at (name (codes "foo") ∷ index 1 ∷ []) document ≡ Some (string (codes "baz"))) × (value_at (name (codes "foo") ∷ name (codes "1") ∷ []) document ≡ None)
unfolding serde_json_on_literals escape digits
paths = (refl, refl, refl, refl, refl, refl)
