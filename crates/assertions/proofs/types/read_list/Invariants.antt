use Rattle.std.proofs.Common.{◌≡◌, ◌++◌, drop, map, option_map, List}
use Rattle.json_values.specs.Kinds.{Primitive}
use Rattle.schema_definitions.specs.Values.{types_in}
use Rattle.value_checks.specs.Code.{primitive_of}
use Rattle.serde_json.specs.View.{items_view}
use Rattle.assertions.proofs.types.read_list.Given as goal

abbrev pub invariant-loop-value : goal.invariant-loop-value
invariant-loop-value l = types_in (items_view l.values) ≡ option_map (λ (rest : List Primitive). map primitive_of l.types.items ++ rest) (types_in (items_view (drop l.value-index l.values)))
