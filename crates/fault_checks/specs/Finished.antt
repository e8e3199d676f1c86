-- Matches none of which stayed unfinished.
use Rattle.std.specs.Prelude.{ℕ, List, Bool, not}
use Rattle.std.specs.List.{list_all}
use Rattle.schema_patterns.specs.Read.{leaves}
use Rattle.schema_patterns.specs.declared.matches.Matches.{Matches}

-- of a pattern with these texts
abbrev pub leaves_none : Matches → List ℕ → List (List ℕ) → Bool
leaves_none m pattern texts = list_all (λ text. not (leaves m pattern text)) texts

-- and of each of these patterns
abbrev pub leave_none : Matches → List (List ℕ) → List (List ℕ) → Bool
leave_none m patterns texts = list_all (λ pattern. leaves_none m pattern texts) patterns
