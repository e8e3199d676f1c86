use Rattle.std.proofs.Common.{◌≡◌, ◌||◌, ℕ, List, drop}
use Rattle.schema_meaning.specs.Members.{is_listed}
use Rattle.compiled_keywords.specs.Named.{names_asked, is_kept}
use Rattle.compiled_keywords.proofs.beside.names_from.Given as goal

abbrev pub invariant-loop-index : goal.invariant-loop-index
invariant-loop-index l = (name : List ℕ) → (is_kept name l.names || is_listed name (names_asked (drop l.index l.questions))) ≡ is_listed name (names_asked (drop l.start l.questions))
