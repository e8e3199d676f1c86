-- What the types of the code stand for.
use Rattle.json_values.specs.Kinds.{Primitive, null_type, boolean_type, object_type, array_type, number_type, string_type, integer_type}
use Rattle.value_checks.specs.declared.json_types.JsonType.{JsonType}
use Rattle.value_checks.specs.declared.json_types.JsonType.TheVariants.{Null, Boolean, Object, Array, Number, String, Integer}

abbrev pub primitive_of : JsonType → Primitive
primitive_of Null = null_type
primitive_of Boolean = boolean_type
primitive_of Object = object_type
primitive_of Array = array_type
primitive_of Number = number_type
primitive_of String = string_type
primitive_of Integer = integer_type
