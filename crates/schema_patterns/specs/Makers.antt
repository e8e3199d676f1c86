-- What a maker of patterns makes.
use Rattle.std.specs.Prelude.{ℕ, List, Bool, Option}

-- which texts are patterns, and what their matchers find in texts, none where they give up
pub record Patterns : Type 0 where
  pub makes : List ℕ → Bool
  pub finished : List ℕ → List ℕ → Option Bool
