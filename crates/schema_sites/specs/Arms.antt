-- The row of a keyword that is read by itself, at its own name.
use Rattle.std.specs.Prelude.{codes}
use Rattle.serde_json.specs.Data.{Data}
use Rattle.serde_json.specs.Find.{as_str}
use Rattle.schema_definitions.specs.Rows.{Row, Context, pattern_row}

abbrev pub one_pattern_row : Context → Data → Row
one_pattern_row x d = pattern_row x (codes "pattern") (as_str d)
