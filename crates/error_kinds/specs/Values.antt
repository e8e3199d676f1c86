-- When two values are one tree.
use Rattle.std.specs.Prelude.{◌==◌, ◌&&◌, Bool, true, false, bytes_eq}
use Rattle.std.specs.Ordering.{int_eq}
use Rattle.serde_json.specs.Data.{Num, unsigned, negative, Data, null, boolean, number, string, array, object, Items, no_items, item, Members, no_members, member}
use Rattle.json_values.specs.Equality.{same_bool}

-- whole numbers by value; a number that is not whole is the same as none
abbrev pub same_number : Num → Num → Bool
same_number (unsigned m) (unsigned n) = m == n
same_number (negative y) (negative z) = int_eq y z
same_number m n = false

abbrev mutual
  pub same_data : Data → Data → Bool
  same_data null null = true
  same_data (boolean b) (boolean c) = same_bool b c
  same_data (number m) (number n) = same_number m n
  same_data (string s) (string t) = bytes_eq s t
  same_data (array ds) (array es) = same_items ds es
  same_data (object ms) (object ns) = same_members ms ns
  same_data d e = false

  pub same_items : Items → Items → Bool
  same_items no_items no_items = true
  same_items (item d ds) (item e es) = same_data d e && same_items ds es
  same_items ds es = false

  -- in order
  pub same_members : Members → Members → Bool
  same_members no_members no_members = true
  same_members (member k d ms) (member l e ns) = bytes_eq k l && same_data d e && same_members ms ns
  same_members ms ns = false
