use Rattle.std.proofs.Common.{ℕ, List, Bool, Option, take}
use Rattle.serde_json.specs.View.{view}
use Rattle.schema_patterns.specs.Tables.{AreMadeBy, texts_of_table}
use Rattle.schema_patterns.specs.Texts.{texts_in}
use Rattle.schema_patterns.specs.Read.{IsReadBy}
use Rattle.schema_patterns.proofs.matches.Matches.read.Given as goal

abbrev pub invariant-loop-number : goal.invariant-loop-number
invariant-loop-number g l = (finished : List ℕ → List ℕ → Option Bool) → AreMadeBy g.M.PatternMatcher.finds finished l.table
    → IsReadBy finished (take l.number (texts_of_table l.table)) (texts_in (view l.value)) (record { by_pattern = l.by_pattern })
