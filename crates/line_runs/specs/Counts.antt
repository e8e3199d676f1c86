-- How many lines were answered.
use Rattle.std.specs.Prelude.{◌≡◌, ℕ, suc, ◌+◌, min, List, [], ◌∷◌, String, string_bytes, decimal}
use Rattle.std.specs.Borrow.{Bor}
use Rattle.std.specs.declared.alloc.Global.{Global}
use Rattle.line_cuts.specs.Devices.{most}
use Rattle.line_runs.specs.declared.counts.LineCounts.{LineCounts}

-- those that were valid, those that were not, and those that have no value
abbrev pub lines_in : LineCounts → ℕ
lines_in c = min (c.valid + c.refused + c.unread) most

-- what people call the next line: its name where it has one, and else its number, from 1 on
abbrev pub IsLabel : List (Bor (List ℕ)) → LineCounts → String Global → Type 0
IsLabel [] counts text = string_bytes text ≡ decimal (min (suc (lines_in counts)) most)
IsLabel (name ∷ names) counts text = string_bytes text ≡ name.now
