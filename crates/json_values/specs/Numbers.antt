-- Whole numbers from -2^63 to 2^64-1, and what the keywords for numbers ask of them (Validation 6.2).
use Rattle.std.specs.Prelude.{ℕ, ◌-◌, ◌^◌, ◌%◌, ◌==◌, ◌&&◌, ℤ, pos, negsuc, int_le, int_lt, unsigned_abs, Bool, true, Option, Some, None, option_and_then}
use Rattle.serde_json.specs.Data.{Data}
use Rattle.serde_json.specs.Find.{as_number, as_integer}

-- the value of a whole number (Core 4.2.1)
abbrev pub whole : Data → Option ℤ
whole d = option_and_then as_integer (as_number d)

-- whether a number is one of those that are read: -2^63 to 2^64-1 (RFC 8259 section 6 leaves the range open)
abbrev pub is_whole_64 : ℤ → Bool
is_whole_64 z = int_le (negsuc (2 ^ 63 - 1)) z && int_le z (pos (2 ^ 64 - 1))

-- `minimum` (Validation 6.2.4)
abbrev pub at_least : ℤ → ℤ → Bool
at_least limit z = int_le limit z

-- `maximum` (Validation 6.2.2)
abbrev pub at_most : ℤ → ℤ → Bool
at_most limit z = int_le z limit

-- `exclusiveMinimum` (Validation 6.2.5)
abbrev pub above : ℤ → ℤ → Bool
above limit z = int_lt limit z

-- `exclusiveMaximum` (Validation 6.2.3)
abbrev pub below : ℤ → ℤ → Bool
below limit z = int_lt z limit

-- `multipleOf`: division by n leaves nothing (Validation 6.2.1)
abbrev pub is_multiple : ℕ → ℤ → Bool
is_multiple n z = unsigned_abs z % n == 0

abbrev pub if_whole : (ℤ → Bool) → Option ℤ → Bool
if_whole p None = true
if_whole p (Some z) = p z

-- a number passes the test; a value that is no whole number is accepted (Validation 6.2, Core 7.6.1)
abbrev pub number_is : (ℤ → Bool) → Data → Bool
number_is p d = if_whole p (whole d)
