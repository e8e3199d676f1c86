-- What a compiled keyword that applies subschemas is: its name, what it asks of a value, and the rule that it follows.
use Rattle.std.specs.Prelude.{ℕ, List}
use Rattle.applicators.specs.declared.combining.Combining.{Combining}
use Rattle.compiled_keywords.specs.declared.applicator.Applicator.{Applicator}
use Rattle.compiled_keywords.specs.declared.asks.Asks.{Asks}

abbrev pub name_of : Applicator → List ℕ
name_of a = a.keyword.now

abbrev pub combining_of : Applicator → Combining
combining_of a = a.combining

abbrev pub asks_of : Applicator → Asks
asks_of a = a.asks
