-- A total order of values. Values that JSON Schema calls equal tie in it (Core 4.2.2); which of two others comes first is this
-- project's choice.
use Rattle.std.specs.Prelude.{ℕ, ℤ, Option, Some, None}
use Rattle.std.specs.Ordering.{nat_cmp, int_cmp, bool_cmp, ordering_then}
use Rattle.std.specs.declared.cmp.Ordering.{Ordering}
use Rattle.std.specs.declared.cmp.Ordering.TheVariants.{Less, Equal, Greater}
use Rattle.std.specs.Cmp.Lexicographic.{slice_cmp}
use Rattle.serde_json.specs.Data.{Data, null, boolean, number, string, array, object, Items, no_items, item, Members, no_members, member}
use Rattle.serde_json.specs.Find.{as_integer}

-- the types, in order
abbrev pub rank : Data → ℕ
rank null = 0
rank (boolean b) = 1
rank (number n) = 2
rank (string s) = 3
rank (array ds) = 4
rank (object ms) = 5

-- whole numbers by their values, behind those that are not whole
abbrev pub whole_order : Option ℤ → Option ℤ → Ordering
whole_order None None = Equal
whole_order None (Some z) = Less
whole_order (Some y) None = Greater
whole_order (Some y) (Some z) = int_cmp y z

-- by type; texts by their bytes; lists by their items in turn; objects by name and value of their members in turn
abbrev mutual
  pub order : Data → Data → Ordering
  order null null = Equal
  order (boolean b) (boolean c) = bool_cmp b c
  order (number m) (number n) = whole_order (as_integer m) (as_integer n)
  order (string s) (string t) = slice_cmp nat_cmp s t
  order (array ds) (array es) = items_order ds es
  order (object ms) (object ns) = members_order ms ns
  order d e = nat_cmp (rank d) (rank e)

  pub items_order : Items → Items → Ordering
  items_order no_items no_items = Equal
  items_order no_items (item e es) = Less
  items_order (item d ds) no_items = Greater
  items_order (item d ds) (item e es) = ordering_then (order d e) (items_order ds es)

  pub members_order : Members → Members → Ordering
  members_order no_members no_members = Equal
  members_order no_members (member l e ns) = Less
  members_order (member k d ms) no_members = Greater
  members_order (member k d ms) (member l e ns) = ordering_then (slice_cmp nat_cmp k l) (ordering_then (order d e) (members_order ms ns))
