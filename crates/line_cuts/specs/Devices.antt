-- How a count of failures rises.
use Rattle.std.specs.Prelude.{◌≡◌, ℕ, suc, ◌-◌, ◌^◌, min}

-- where a count stays
abbrev pub most : ℕ
most = 2 ^ 64 - 1

-- one more; at the most it counts as risen
abbrev pub IsRisen : ℕ → ℕ → Type 0
IsRisen old new = new ≡ min (suc old) most
