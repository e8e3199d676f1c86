use Rattle.std.proofs.Common.{ℕ, List, ap₂}
use Rattle.schema_meaning.specs.Questions.{Declared}
use Rattle.schema_patterns.specs.Tables.{texts_of_table}
use Rattle.applicators.specs.Sites.{names_declared}
use Rattle.keyword_compilers.proofs.Numbering.{texts_seen}
use Rattle.keyword_compilers.proofs.patterns.declared.Goals as goal

pub returns-clause-declared : goal.returns-clause-declared
returns-clause-declared g c =
    let make : List (List ℕ) → List (List ℕ) → Declared = λ names patterns. record { names = names; patterns = patterns } in
    ap₂ make c.in_ok-names.ensures (texts_seen (texts_of_table c.args.table.now) c.in_ok-patterns.patterns.items (names_declared c.args.beside.patterns) c.in_ok-patterns.ensures)
