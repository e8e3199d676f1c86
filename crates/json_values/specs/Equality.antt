-- When two values are equal (Core 4.2.2).
use Rattle.std.specs.Prelude.{ℕ, ◌&&◌, ◌||◌, ℤ, pos, int_lt, List, Bool, true, false, not, bytes_eq, Option, Some, None, is_some}
use Rattle.std.specs.Ordering.{int_eq, nat_cmp, is_lt}
use Rattle.std.specs.Cmp.Lexicographic.{slice_cmp}
use Rattle.serde_json.specs.Data.{Num, unsigned, negative, float, Data, null, boolean, number, string, array, object, Items, no_items, item, Members, no_members, member}
use Rattle.serde_json.specs.Find.{get_member, as_integer}

abbrev pub same_bool : Bool → Bool → Bool
same_bool true b = b
same_bool false b = not b

-- both are whole numbers, and the same
abbrev pub same_whole : Option ℤ → Option ℤ → Bool
same_whole (Some y) (Some z) = int_eq y z
same_whole (Some y) None = false
same_whole None z = false

-- whether a name is a member of an object
abbrev pub has_name : List ℕ → Members → Bool
has_name k ms = is_some (get_member k ms)

-- each name of the first object is a name of the second
abbrev pub names_in : Members → Members → Bool
names_in no_members ns = true
names_in (member k d ms) ns = has_name k ns && names_in ms ns

abbrev pub found_and : (Data → Bool) → Option Data → Bool
found_and p None = false
found_and p (Some d) = p d

-- instance equality (Core 4.2.2): of one type, and numbers with one value, texts with the same bytes, lists with equal items in order,
-- objects with the same names and equal values under each, in any order. A number that is not whole equals none
abbrev mutual
  pub equal : Data → Data → Bool
  equal null null = true
  equal (boolean b) (boolean c) = same_bool b c
  equal (number m) (number n) = same_whole (as_integer m) (as_integer n)
  equal (string s) (string t) = bytes_eq s t
  equal (array ds) (array es) = equal_items ds es
  equal (object ms) (object ns) = equal_members ms ns && names_in ns ms
  equal d e = false

  pub equal_items : Items → Items → Bool
  equal_items no_items no_items = true
  equal_items (item d ds) (item e es) = equal d e && equal_items ds es
  equal_items ds es = false

  -- each member of the first object has an equal one of its name in the second
  pub equal_members : Members → Members → Bool
  equal_members no_members ns = true
  equal_members (member k d ms) ns = found_and (equal d) (get_member k ns) && equal_members ms ns

-- a value equals an item of a list (`enum`, Validation 6.1.2)
abbrev pub is_among : Data → Items → Bool
is_among d no_items = false
is_among d (item e es) = equal d e || is_among d es

-- no two places of a list hold equal values (`uniqueItems`, Validation 6.4.3)
abbrev pub all_distinct : Items → Bool
all_distinct no_items = true
all_distinct (item d ds) = not (is_among d ds) && all_distinct ds

-- a tree of values: every number is whole, and each object names a member once (Core 4.2.1)
abbrev mutual
  pub is_tree : Data → Bool
  is_tree null = true
  is_tree (boolean b) = true
  is_tree (number n) = is_some (as_integer n)
  is_tree (string s) = true
  is_tree (array ds) = are_trees ds
  is_tree (object ms) = are_member_trees ms

  pub are_trees : Items → Bool
  are_trees no_items = true
  are_trees (item d ds) = is_tree d && are_trees ds

  pub are_member_trees : Members → Bool
  are_member_trees no_members = true
  are_member_trees (member k d ms) = is_tree d && not (has_name k ms) && are_member_trees ms

-- a number in the one form that it is kept in: negative numbers alone have a sign
abbrev pub is_kept_number : Num → Bool
is_kept_number (unsigned n) = true
is_kept_number (negative z) = int_lt z (pos 0)
is_kept_number (float x) = false

-- the names stand behind k, in the order of their bytes
abbrev pub rises_from : List ℕ → Members → Bool
rises_from k no_members = true
rises_from k (member l d ms) = is_lt (slice_cmp nat_cmp k l) && rises_from l ms

-- a tree as it is kept: numbers in their one form, members in the order of their names' bytes
abbrev mutual
  pub is_kept : Data → Bool
  is_kept null = true
  is_kept (boolean b) = true
  is_kept (number n) = is_kept_number n
  is_kept (string s) = true
  is_kept (array ds) = are_kept ds
  is_kept (object ms) = are_kept_members ms

  pub are_kept : Items → Bool
  are_kept no_items = true
  are_kept (item d ds) = is_kept d && are_kept ds

  pub are_kept_members : Members → Bool
  are_kept_members no_members = true
  are_kept_members (member k d ms) = is_kept d && rises_from k ms && are_kept_members ms
