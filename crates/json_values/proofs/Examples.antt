-- Examples that compute.
use Rattle.std.proofs.Common.{◌≡◌, ℕ, pos, negsuc, List, [], ◌∷◌, ◌++◌, Bool, true, false, Option, Some, None, codes, refl}
use Rattle.std.specs.Str.{chars}
use Rattle.serde_json.specs.Data.{Data, null, boolean, number, string, array, object, no_items, item, no_members, member, unsigned, negative}
use Rattle.json_values.specs.Kinds.{null_type, array_type, number_type, string_type, integer_type, type_name, has_type, has_some_type}
use Rattle.json_values.specs.Equality.{equal, is_among, all_distinct, is_tree, is_kept}
use Rattle.json_values.specs.Numbers.{whole, is_whole_64, at_least, at_most, above, below, is_multiple, number_is}
use Rattle.json_values.specs.Texts.{code_points, has_no_space, count_items, count_members}
use Rattle.json_values.specs.Patterns.{prefix, exact, one_of, no_white_space, means, unescaped, literal_of, pattern_of, matched, known, reads_as}

-- ---- types

integer_is_number : has_some_type (string_type ∷ integer_type ∷ []) (number (unsigned 3)) ≡ true
integer_is_number = refl

text_is_no_number : has_type number_type (string (codes "3")) ≡ false
text_is_no_number = refl

no_types : has_some_type [] null ≡ false
no_types = refl

-- ---- equality: {"a":1,"b":2} and {"b":2,"a":1}

abbrev pair : List ℕ → ℕ → List ℕ → ℕ → Data
pair k m l n = object (member k (number (unsigned m)) (member l (number (unsigned n)) no_members))

any_order : equal (pair (codes "a") 1 (codes "b") 2) (pair (codes "b") 2 (codes "a") 1) ≡ true
any_order = refl

other_values : equal (pair (codes "a") 1 (codes "b") 2) (pair (codes "a") 2 (codes "b") 1) ≡ false
other_values = refl

fewer_members : equal (object (member (codes "a") null no_members)) (object (member (codes "a") null (member (codes "b") null no_members))) ≡ false
fewer_members = refl

more_members : equal (object (member (codes "a") null (member (codes "b") null no_members))) (object (member (codes "a") null no_members)) ≡ false
more_members = refl

list_order : equal (array (item null (item (boolean true) no_items))) (array (item (boolean true) (item null no_items))) ≡ false
list_order = refl

one_is_not_true : equal (number (unsigned 1)) (boolean true) ≡ false
one_is_not_true = refl

bytes_count : equal (string (codes "a")) (string (codes "A")) ≡ false
bytes_count = refl

zero_is_zero : equal (number (unsigned 0)) (number (negative (pos 0))) ≡ true
zero_is_zero = refl

not_unique : all_distinct (item (pair (codes "a") 1 (codes "b") 2) (item null (item (pair (codes "b") 2 (codes "a") 1) no_items))) ≡ false
not_unique = refl

unique : all_distinct (item (number (unsigned 1)) (item (boolean true) (item (string (codes "1")) no_items))) ≡ true
unique = refl

twice_named : is_tree (pair (codes "a") 1 (codes "a") 1) ≡ false
twice_named = refl

-- ---- numbers

multiple : is_multiple 3 (negsuc 8) ≡ true
multiple = refl

no_multiple : is_multiple 3 (pos 4) ≡ false
no_multiple = refl

nothing_multiple : is_multiple 7 (pos 0) ≡ true
nothing_multiple = refl

greatest_above : above (pos 18446744073709551614) (pos 18446744073709551615) ≡ true
greatest_above = refl

not_above_itself : above (pos 18446744073709551615) (pos 18446744073709551615) ≡ false
not_above_itself = refl

at_least_itself : at_least (negsuc 9223372036854775807) (negsuc 9223372036854775807) ≡ true
at_least_itself = refl

past_the_range : is_whole_64 (pos 18446744073709551616) ≡ false
past_the_range = refl

text_passes : number_is (at_least (pos 5)) (string (codes "1")) ≡ true
text_passes = refl

four_fails : number_is (at_least (pos 5)) (number (unsigned 4)) ≡ false
four_fails = refl

-- ---- texts

one_code_point : code_points (0xc3 ∷ 0xa9 ∷ []) ≡ 1
unfolding chars
one_code_point = refl

-- U+1F600
wide_code_point : code_points (0xf0 ∷ 0x9f ∷ 0x98 ∷ 0x80 ∷ []) ≡ 1
unfolding chars
wide_code_point = refl

-- a, U+FEFF, b
mark_is_space : has_no_space (97 ∷ 0xef ∷ 0xbb ∷ 0xbf ∷ 98 ∷ []) ≡ false
unfolding chars
mark_is_space = refl

-- a, U+0085, b
next_line_is_none : has_no_space (97 ∷ 0xc2 ∷ 0x85 ∷ 98 ∷ []) ≡ true
unfolding chars
next_line_is_none = refl

-- ---- patterns

-- ^\$ref$
escaped_dollar : literal_of (94 ∷ 92 ∷ codes "$ref$") ≡ Some (exact (codes "$ref"))
unfolding unescaped
escaped_dollar = refl

prefix_x : literal_of (codes "^x-") ≡ Some (prefix (codes "x-"))
unfolding unescaped
prefix_x = refl

-- ^foo\$
ends_escaped : literal_of (codes "^foo" ++ 92 ∷ 36 ∷ []) ≡ Some (prefix (codes "foo$"))
unfolding unescaped
ends_escaped = refl

choice : literal_of (codes "^(a|b)$") ≡ Some (one_of (codes "a" ∷ codes "b" ∷ []))
unfolding unescaped
choice = refl

lone_choice : literal_of (codes "^(a)$") ≡ None
unfolding unescaped
lone_choice = refl

empty_choice : literal_of (codes "^()$") ≡ None
unfolding unescaped
empty_choice = refl

start_alone : literal_of (codes "^") ≡ None
unfolding unescaped
start_alone = refl

ends_alone : literal_of (codes "^$") ≡ None
unfolding unescaped
ends_alone = refl

loose_choice : literal_of (codes "^foo|bar") ≡ None
unfolding unescaped
loose_choice = refl

any_character : literal_of (codes "^a.b$") ≡ None
unfolding unescaped
any_character = refl

not_anchored : literal_of (codes "foo") ≡ None
unfolding unescaped
not_anchored = refl

-- ^\S*$
spaceless : literal_of (94 ∷ 92 ∷ 83 ∷ 42 ∷ 36 ∷ []) ≡ Some no_white_space
unfolding unescaped
spaceless = refl

prefix_matches : means (prefix (codes "x-")) (codes "x-id") ≡ true
prefix_matches = refl

prefix_refuses : means (prefix (codes "x-")) (codes "ax-") ≡ false
prefix_refuses = refl

choice_refuses : means (one_of (codes "a" ∷ codes "b" ∷ [])) (codes "ab") ≡ false
choice_refuses = refl

name_of_null : type_name null_type ≡ codes "null"
name_of_null = refl

object_is_no_list : has_type array_type (object no_members) ≡ false
object_is_no_list = refl

-- ---- enum, and trees as they are kept

one_of_them : is_among (pair (codes "a") 1 (codes "b") 2) (item null (item (pair (codes "b") 2 (codes "a") 1) no_items)) ≡ true
one_of_them = refl

none_of_them : is_among (boolean false) (item (number (unsigned 0)) (item null no_items)) ≡ false
none_of_them = refl

empty_enum : is_among null no_items ≡ false
empty_enum = refl

once_named : is_tree (pair (codes "a") 1 (codes "b") 1) ≡ true
once_named = refl

in_order : is_kept (pair (codes "B") 1 (codes "a") 2) ≡ true
in_order = refl

out_of_order : is_kept (pair (codes "b") 1 (codes "a") 2) ≡ false
out_of_order = refl

-- ---- more numbers

value_below_zero : whole (number (negative (negsuc 8))) ≡ Some (negsuc 8)
value_below_zero = refl

value_of_a_text : whole (string (codes "9")) ≡ None
value_of_a_text = refl

least_of_all : is_whole_64 (negsuc 9223372036854775807) ≡ true
least_of_all = refl

below_the_least : is_whole_64 (negsuc 9223372036854775808) ≡ false
below_the_least = refl

at_most_itself : at_most (pos 3) (pos 3) ≡ true
at_most_itself = refl

not_below_itself : below (pos 3) (pos 3) ≡ false
not_below_itself = refl

below_zero_first : below (pos 0) (negsuc 0) ≡ true
below_zero_first = refl

-- ---- counts

two_items : count_items (item null (item null no_items)) ≡ 2
two_items = refl

one_member : count_members (member (codes "a") null no_members) ≡ 1
one_member = refl

-- ---- own patterns, and matches

own_pattern : pattern_of (exact (codes "$ref")) ≡ 94 ∷ 92 ∷ codes "$ref$"
own_pattern = refl

no_reading : List ℕ → List ℕ → Option Bool
no_reading pattern text = None

-- a literal form is not asked of the completion
literal_matched : matched (reads_as []) (codes "^x-") (codes "x-id") ≡ true
unfolding unescaped
literal_matched = refl

read_as_yes : matched (reads_as ((codes "a+", codes "aa") ∷ [])) (codes "a+") (codes "aa") ≡ true
unfolding unescaped
read_as_yes = refl

read_as_no : matched (reads_as ((codes "a+", codes "aa") ∷ [])) (codes "a+") (codes "ab") ≡ false
unfolding unescaped
read_as_no = refl

unfinished : known no_reading (codes "a+") (codes "aa") ≡ None
unfolding unescaped no_reading
unfinished = refl

known_by_form : known no_reading (codes "^a$") (codes "aa") ≡ Some false
unfolding unescaped
known_by_form = refl
