use Rattle.std.proofs.Common.{◌≡◌, ◌++◌, map, drop}
use Rattle.serde_json.specs.View.{view}
use Rattle.assertions.specs.Named.{names_in}
use Rattle.value_checks.specs.Code.{primitive_of}
use Rattle.error_texts.specs.Fields.{type_data}
use Rattle.error_texts.proofs.fields.types.Given as goal

abbrev pub invariant-loop-json_type : goal.invariant-loop-json_type
invariant-loop-json_type l = map view l.values.items ++ map type_data (map primitive_of (drop l.json_type-index l.listed)) ≡ map type_data (names_in l.names)
