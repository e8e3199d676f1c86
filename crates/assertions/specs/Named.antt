-- What the names of types of the code stand for.
use Rattle.std.specs.Prelude.{List, [], ◌∷◌, map}
use Rattle.json_values.specs.Kinds.{Primitive}
use Rattle.value_checks.specs.Code.{primitive_of}
use Rattle.assertions.specs.declared.types.TypeNames.{TypeNames}
use Rattle.assertions.specs.declared.types.TypeNames.TheVariants.{One, Several}

abbrev pub names_in : TypeNames → List Primitive
names_in (One t) = primitive_of t ∷ []
names_in (Several ts) = map primitive_of ts.items
