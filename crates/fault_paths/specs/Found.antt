-- The indexes of items.
use Rattle.std.specs.Prelude.{◌≡◌, ◌<◌, ◌^◌, ℕ, Some}
use Rattle.serde_json.specs.Data.{Data}
use Rattle.serde_json.specs.Find.{at}

-- the indexes of items fit in memory
pub record IsIndexed (d : Data) : Type 0 where
  pub fits : (n : ℕ) (e : Data) → at n d ≡ Some e → n < 2 ^ 64
