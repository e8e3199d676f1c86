-- Why a value with other numbers than whole ones of 64 bits is not answered.
use Rattle.serde_json.specs.Data.{Data}
use Rattle.schema_registries.specs.Whole.{IsOtherNumber}
use Rattle.schema_validators.specs.declared.error.NumberError.{NumberError}
use Rattle.schema_validators.specs.declared.error.NumberError.TheVariants.{Other, Memory}

-- it names the place of such a number
abbrev pub NamesOther : Data → NumberError → Type 0
NamesOther d (Other path) = IsOtherNumber d path
NamesOther d Memory = Unit {0}
