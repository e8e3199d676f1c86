-- Patterns that have to be made where a keyword is read.
use Rattle.std.specs.Prelude.{◌≡◌, ℕ, List, Bool, true, ◌||◌, is_some}
use Rattle.json_values.specs.Patterns.{literal_of}
use Rattle.schema_meaning.specs.Members.{In}
use Rattle.applicators.specs.Asks.{patterns_among}
use Rattle.applicators.specs.Applied.{asks_of}
use Rattle.applicators.specs.Applied.{Applicator}

-- a literal form needs no maker
abbrev pub is_made_by : (List ℕ → Bool) → List ℕ → Bool
is_made_by makes p = is_some (literal_of p) || makes p

pub record AreMade (makes : List ℕ → Bool) (ps : List (List ℕ)) : Type 0 where
  pub each : (p : List ℕ) → In p ps → is_made_by makes p ≡ true

-- those of a keyword's own value: what `additionalProperties` looks at is made where the `patternProperties` beside is read
abbrev pub patterns_in : Applicator → List (List ℕ)
patterns_in a = patterns_among (asks_of a)
