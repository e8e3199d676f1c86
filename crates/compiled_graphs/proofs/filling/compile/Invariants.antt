use Rattle.std.proofs.Common.{drop}
use Rattle.schema_patterns.specs.Tables.{texts_of_table}
use Rattle.compiled_graphs.proofs.Compiling.{IsLeft}
use Rattle.compiled_graphs.proofs.filling.compile.Given as goal

abbrev pub invariant-loop-asking : goal.invariant-loop-asking
invariant-loop-asking g l = IsLeft (texts_of_table l.table) l.askings l.numbers (drop l.asking-index l.askings) l.rest l.keywords.items
