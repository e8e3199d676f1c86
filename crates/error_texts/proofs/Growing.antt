-- Texts that are appended to, step by step.
use Rattle.std.proofs.Common.{◌≡◌, ◌≤◌, ℕ, List, ◌++◌, length, take_all, String, Global, string_bytes, arith}
use Rattle.std.specs.String.{string_capacity}
use Rattle.json_pointers.specs.Buffers.{Grows}
use Rattle.json_pointers.proofs.GrowLemmas.{grows_by, grows_on}

itself : (text : String Global) → Grows text text
itself text = record {
  front = take_all (length (string_bytes text)) (string_bytes text) (omega arith);
  within = omega arith;
  capacity = omega arith;
}

-- a mark, and what grows behind it
pub grows_behind : (first old marked new : String Global) (mark : List ℕ) → Grows first old → string_bytes marked ≡ string_bytes old ++ mark → string_capacity old ≤ string_capacity marked → Grows marked new → Grows first new
grows_behind first old marked new mark grown e room further = grows_on first marked new (grows_by first old marked mark grown e room) further

pub grows_first : (old marked new : String Global) (mark : List ℕ) → string_bytes marked ≡ string_bytes old ++ mark → string_capacity old ≤ string_capacity marked → Grows marked new → Grows old new
grows_first old marked new mark = grows_behind old old marked new mark (itself old)
