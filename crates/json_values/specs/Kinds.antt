-- The types of JSON values, by the names of the keyword `type` (Validation 6.1.1).
use Rattle.std.specs.Prelude.{ℕ, List, Bool, codes, is_some}
use Rattle.std.specs.List.{list_any}
use Rattle.serde_json.specs.Data.{Data}
use Rattle.serde_json.specs.Find.{as_null, as_bool, as_number, as_str, as_array, as_object}

pub data Primitive : Type 0 where
  null_type : Primitive
  boolean_type : Primitive
  object_type : Primitive
  array_type : Primitive
  number_type : Primitive
  string_type : Primitive
  integer_type : Primitive

-- the name of a type (Validation 6.1.1)
abbrev pub type_name : Primitive → List ℕ
type_name null_type = codes "null"
type_name boolean_type = codes "boolean"
type_name object_type = codes "object"
type_name array_type = codes "array"
type_name number_type = codes "number"
type_name string_type = codes "string"
type_name integer_type = codes "integer"

-- whether a value is of a type; numbers are whole numbers, so `integer` and `number` are every number (Validation 6.1.1, Core 4.2.1)
abbrev pub has_type : Primitive → Data → Bool
has_type null_type d = is_some (as_null d)
has_type boolean_type d = is_some (as_bool d)
has_type object_type d = is_some (as_object d)
has_type array_type d = is_some (as_array d)
has_type number_type d = is_some (as_number d)
has_type string_type d = is_some (as_str d)
has_type integer_type d = is_some (as_number d)

-- whether a value is of one of the types that the keyword `type` lists (Validation 6.1.1)
abbrev pub has_some_type : List Primitive → Data → Bool
has_some_type types d = list_any (λ t. has_type t d) types
