-- How a buffer changes under appends of which one may fail.
use Rattle.std.specs.Prelude.{◌≡◌, ◌≤◌, length, take, String, string_bytes}
use Rattle.std.specs.String.{string_capacity}
use Rattle.std.specs.declared.alloc.Global.{Global}

-- what stood in the buffer stands at its front, and its room did not shrink
pub record Grows (old new : String Global) : Type 0 where
  pub front : take (length (string_bytes old)) (string_bytes new) ≡ string_bytes old
  pub within : length (string_bytes old) ≤ length (string_bytes new)
  pub capacity : string_capacity old ≤ string_capacity new
