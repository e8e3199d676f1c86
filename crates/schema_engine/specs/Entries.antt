-- The parts that a keyword's entries add to a road.
use Rattle.std.specs.Prelude.{List}
use Rattle.json_values.specs.Parts.{Part}
use Rattle.schema_meaning.specs.Questions.{at, at_name, at_index}
use Rattle.schema_engine.specs.declared.entry.Entry.{Entry}
use Rattle.schema_engine.specs.declared.entry.Entry.TheVariants as entry

abbrev pub parts_of : Entry → List Part
parts_of (entry.Whole k) = at k.now
parts_of (entry.Name k n) = at_name k.now n.now
parts_of (entry.Index k i) = at_index k.now i
