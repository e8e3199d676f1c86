-- What is said of a value itself.
use Rattle.std.specs.Prelude.{ℕ, [], Bool, true, false}
use Rattle.schema_meaning.specs.Rules.{Rule}
use Rattle.schema_engine.specs.declared.itself.Itself.{Itself}
use Rattle.schema_engine.specs.declared.itself.Itself.TheVariants as itself
use Rattle.schema_engine.specs.Asking.{AsksEach}

-- nothing is wrong with it
abbrev pub is_fine : Itself → Bool
is_fine itself.Wrong = false
is_fine itself.Asks = true
is_fine itself.Settled = true

-- and nothing is asked
abbrev pub is_settled : Itself → Bool
is_settled itself.Wrong = false
is_settled itself.Asks = false
is_settled itself.Settled = true

-- where it settles the verdict, the rule asks nothing
abbrev pub SettlesSo : Itself → Rule ℕ → Type 0
SettlesSo itself.Wrong k = Unit {0}
SettlesSo itself.Asks k = Unit {0}
SettlesSo itself.Settled k = AsksEach k []
