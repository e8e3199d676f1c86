-- Values as they are kept: in each object the names rise.
use Rattle.std.specs.Prelude.{Bool, true, ◌&&◌}
use Rattle.serde_json.specs.Data.{Data, null, boolean, number, string, array, object, Items, no_items, item, Members, no_members, member}
use Rattle.json_values.specs.Equality.{rises_from}

-- the names of these members rise
abbrev pub are_rising : Members → Bool
are_rising no_members = true
are_rising (member k d ms) = rises_from k ms

-- the names rise in a value, and in every object inside
abbrev mutual
  pub rises : Data → Bool
  rises null = true
  rises (boolean b) = true
  rises (number n) = true
  rises (string s) = true
  rises (array ds) = items_rise ds
  rises (object ms) = are_rising ms && members_rise ms

  pub items_rise : Items → Bool
  items_rise no_items = true
  items_rise (item d ds) = rises d && items_rise ds

  pub members_rise : Members → Bool
  members_rise no_members = true
  members_rise (member k d ms) = rises d && members_rise ms
