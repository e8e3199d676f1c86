-- Equality, whole numbers, code points, white space and the literal forms of patterns, apart from keywords.
use Rattle.std.specs.Prelude.{◌≡◌, ◌==◌, ◌++◌, ℕ, pos, negsuc, List, [], ◌∷◌, Bool, true, false, Option, Some, None, codes}
use Rattle.std.specs.List.{list_all, list_any}
use Rattle.serde_json.specs.Data.{null, boolean, number, string, negative}
use Rattle.json_values.specs.Equality.{equal, all_distinct}
use Rattle.json_values.specs.Numbers.{is_whole_64}
use Rattle.json_values.specs.Texts.{code_points, is_ecma_space, has_no_space}
use Rattle.json_values.specs.Patterns.{Literal, prefix, exact, one_of, no_white_space, literal_of}
use Rattle.worked_examples.specs.Forms.{natural, list_of, object_of, items_in}

-- what is computed, and what is expected
abbrev pub IsSo : Bool × Bool → Type 0
IsSo p = p.0 ≡ p.1

abbrev pub value_examples : List (Bool × Bool)
value_examples =
    -- equality (Core 4.2.2): numbers by value, texts by their code points, arrays in order, objects without
    (equal (natural 0) (number (negative (pos 0))), true)
    ∷ (equal (natural 1) (boolean true), false)
    ∷ (equal (natural 1) (string (codes "1")), false)
    ∷ (equal (string (codes "a")) (string (codes "A")), false)
    ∷ (equal (list_of []) (object_of []), false)
    ∷ (equal (list_of (natural 1 ∷ null ∷ [])) (list_of (null ∷ natural 1 ∷ [])), false)
    ∷ (equal (list_of (natural 1 ∷ [])) (list_of (natural 1 ∷ natural 1 ∷ [])), false)
    ∷ (equal (object_of (("a", natural 1) ∷ ("b", null) ∷ [])) (object_of (("b", null) ∷ ("a", natural 1) ∷ [])), true)
    ∷ (equal (object_of (("a", natural 1) ∷ [])) (object_of (("a", natural 1) ∷ ("b", null) ∷ [])), false)
    ∷ (equal (object_of (("a", natural 1) ∷ ("b", null) ∷ [])) (object_of (("a", natural 1) ∷ [])), false)
    ∷ (all_distinct (items_in (list_of (natural 1 ∷ []) ∷ null ∷ list_of (natural 1 ∷ []) ∷ [])), false)
    -- the range: -2^63 to 2^64-1
    ∷ (is_whole_64 (pos 18446744073709551615), true)
    ∷ (is_whole_64 (pos 18446744073709551616), false)
    ∷ (is_whole_64 (negsuc 9223372036854775807), true)
    ∷ (is_whole_64 (negsuc 9223372036854775808), false)
    ∷ []

abbrev pub code_point_examples : List (Bool × Bool)
code_point_examples =
    -- code points (Validation 6.3.1): U+00E9, U+20AC and U+1F600, of two, three and four bytes
    (code_points [] == 0, true)
    ∷ (code_points (codes "abc") == 3, true)
    ∷ (code_points (0xc3 ∷ 0xa9 ∷ []) == 1, true)
    ∷ (code_points (0xe2 ∷ 0x82 ∷ 0xac ∷ []) == 1, true)
    ∷ (code_points (0xf0 ∷ 0x9f ∷ 0x98 ∷ 0x80 ∷ []) == 1, true)
    -- white space (ECMA-262, 12.2 and 12.3), and its neighbours
    ∷ (list_all is_ecma_space (0x0009 ∷ 0x000a ∷ 0x000b ∷ 0x000c ∷ 0x000d ∷ 0x0020 ∷ 0x00a0 ∷ 0x1680 ∷ []), true)
    ∷ (list_all is_ecma_space (0x2000 ∷ 0x2001 ∷ 0x2002 ∷ 0x2003 ∷ 0x2004 ∷ 0x2005 ∷ 0x2006 ∷ 0x2007 ∷ 0x2008 ∷ 0x2009 ∷ 0x200a ∷ []), true)
    ∷ (list_all is_ecma_space (0x2028 ∷ 0x2029 ∷ 0x202f ∷ 0x205f ∷ 0x3000 ∷ 0xfeff ∷ []), true)
    ∷ (list_any is_ecma_space (0x0008 ∷ 0x000e ∷ 0x001f ∷ 0x0021 ∷ 0x0085 ∷ 0x009f ∷ 0x00a1 ∷ 0x167f ∷ 0x1681 ∷ 0x180e ∷ 0x1fff ∷ []), false)
    ∷ (list_any is_ecma_space (0x200b ∷ 0x2027 ∷ 0x202a ∷ 0x202e ∷ 0x2030 ∷ 0x205e ∷ 0x2060 ∷ 0x2fff ∷ 0x3001 ∷ 0xfefe ∷ 0xff00 ∷ []), false)
    -- "a", U+00A0, "b"
    ∷ (has_no_space (97 ∷ 0xc2 ∷ 0xa0 ∷ 98 ∷ []), false)
    ∷ (has_no_space (codes "a_b"), true)
    ∷ []

-- a pattern, and the literal form that it is
abbrev pub IsRead : List ℕ × Option Literal → Type 0
IsRead p = literal_of p.0 ≡ p.1

-- the backslash is 92
abbrev pub literal_examples : List (List ℕ × Option Literal)
literal_examples =
    -- ^x-
    (codes "^x-", Some (prefix (codes "x-")))
    -- ^foo\$
    ∷ (codes "^foo" ++ 92 ∷ codes "$", Some (prefix (codes "foo$")))
    -- ^a_B-9/$
    ∷ (codes "^a_B-9/$", Some (exact (codes "a_B-9/")))
    -- ^\$ref$
    ∷ (94 ∷ 92 ∷ codes "$ref$", Some (exact (codes "$ref")))
    -- ^a\.b\-c\/d$
    ∷ (codes "^a" ++ 92 ∷ codes ".b" ++ 92 ∷ codes "-c" ++ 92 ∷ codes "/d$", Some (exact (codes "a.b-c/d")))
    -- ^(a|b)$
    ∷ (codes "^(a|b)$", Some (one_of (codes "a" ∷ codes "b" ∷ [])))
    -- ^(a\.b|c|d)$
    ∷ (codes "^(a" ++ 92 ∷ codes ".b|c|d)$", Some (one_of (codes "a.b" ∷ codes "c" ∷ codes "d" ∷ [])))
    -- ^\S*$
    ∷ (94 ∷ 92 ∷ codes "S*$", Some no_white_space)
    -- none of the four: ^\S+$, ^foo|bar, ^(a)$, ^(a|)$, ^$, ^, foo, ^a.b$, x^a$
    ∷ (94 ∷ 92 ∷ codes "S+$", None)
    ∷ (codes "^foo|bar", None)
    ∷ (codes "^(a)$", None)
    ∷ (codes "^(a|)$", None)
    ∷ (codes "^$", None)
    ∷ (codes "^", None)
    ∷ (codes "foo", None)
    ∷ (codes "^a.b$", None)
    ∷ (codes "x^a$", None)
    ∷ []
