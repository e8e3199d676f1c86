-- What is told of meta-schemas.
use Rattle.std.specs.Prelude.{◌≡◌, ℕ, List, Option}
use Rattle.schema_definitions.specs.Places.{Dialect}
use Rattle.schema_dialects.specs.Dialects.{dialects_in}
use Rattle.schema_dialects.specs.declared.meta_schemas.MetaSchemas.{MetaSchemas}

-- those known are those of which something is told, and their dialects are told
abbrev pub Tells : MetaSchemas → (List ℕ → Option Dialect) → Type 0
Tells known told = (uri : List ℕ) → dialects_in known uri ≡ told uri
