-- Types of the code, compared.
use Rattle.std.proofs.Common.{◌≡◌, ◌&&◌, List, [], ◌∷◌, map, refl, ap₂}
use Rattle.std.specs.Cmp.Lexicographic.{pointwise}
use Rattle.value_checks.specs.Code.{primitive_of}
use Rattle.value_checks.specs.contracts.json_types.JsonTypePartialEq.TheImpl.{eq-value}
use Rattle.value_checks.specs.declared.json_types.JsonType.{JsonType}
use Rattle.value_checks.specs.declared.json_types.JsonType.TheVariants as json
use Rattle.error_kinds.specs.Faults.{same_type}

type_is : (t u : JsonType) → eq-value.it t u ≡ same_type (primitive_of t) (primitive_of u)
type_is json.Null json.Null = refl
type_is json.Boolean json.Boolean = refl
type_is json.Object json.Object = refl
type_is json.Array json.Array = refl
type_is json.Number json.Number = refl
type_is json.String json.String = refl
type_is json.Integer json.Integer = refl
type_is t u = refl

pub types_are : (ts us : List JsonType) → pointwise eq-value.it ts us ≡ pointwise same_type (map primitive_of ts) (map primitive_of us)
types_are [] [] = refl
types_are [] (u ∷ us) = refl
types_are (t ∷ ts) [] = refl
types_are (t ∷ ts) (u ∷ us) = ap₂ (λ b c. b && c) (type_is t u) (types_are ts us)
