-- What is lent by a schema that is read.
use Rattle.std.specs.Prelude.{List, String}
use Rattle.std.specs.Global.{Global}
use Rattle.std.specs.BTreeMap.{BTreeMap}
use Rattle.std.specs.Borrow.{Bor}
use Rattle.serde_json.specs.declared.value.Value.{Value}
use Rattle.applicators.specs.declared.declared.DeclaredOf.{DeclaredOf}
use Rattle.applicators.specs.declared.asks.AsksOf.{AsksOf}

abbrev pub Schemas : Type 0
Schemas = BTreeMap (String Global) Value

abbrev pub Declared : Type 0
Declared = DeclaredOf (Bor Schemas) (Bor Schemas)

abbrev pub Asks : Type 0
Asks = AsksOf (Bor Value) (Bor (List Value)) (Bor Schemas) (Bor Schemas) (Bor Schemas) (Bor Value)
