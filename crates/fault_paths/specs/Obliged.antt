-- Whether the questions of an applicator oblige: whether a no to one of them is the keyword's no.
use Rattle.std.specs.Prelude.{◌==◌, ℕ, Bool, true, false}
use Rattle.applicators.specs.Combined.{combining_of}
use Rattle.applicators.specs.Applied.{Applicator}
use Rattle.applicators.specs.declared.combining.Combining.{Combining}
use Rattle.applicators.specs.declared.combining.Combining.TheVariants as code

-- where so many are asked, whose answers are combined so; where an answer chooses it is not by their number
abbrev pub obliges_by : Combining → ℕ → Bool
obliges_by code.Every n = true
obliges_by code.Together n = true
obliges_by code.EachNamed n = true
obliges_by code.SomeBranch n = n == 1
obliges_by code.OneBranch n = n == 1
obliges_by code.Refusal n = false
obliges_by (code.Counted least most) n = false
obliges_by code.Conditional n = false

abbrev pub obliges : Applicator → ℕ → Bool
obliges a n = obliges_by (combining_of a) n
