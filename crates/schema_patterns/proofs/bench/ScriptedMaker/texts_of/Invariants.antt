use Rattle.std.proofs.Common.{◌≡◌, ℕ, List, map, bytes_eq, string_bytes, take}
use Rattle.std.specs.List.{list_any}
use Rattle.json_values.specs.Patterns.{reads_as}
use Rattle.schema_patterns.proofs.bench.ScriptedMaker.texts_of.Given as goal

abbrev pub invariant-loop-matched : goal.invariant-loop-matched
invariant-loop-matched l = (text : List ℕ) →
    list_any (λ t. bytes_eq (string_bytes t) text) l.texts.items ≡ reads_as (map (λ p. (string_bytes p.0, string_bytes p.1)) (take l.matched-index l.self.matches.items)) l.pattern text
