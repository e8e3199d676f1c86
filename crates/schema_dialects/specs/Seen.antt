-- What the code's records of places stand for.
use Rattle.std.specs.Prelude.{List}
use Rattle.serde_json.specs.Data.{Data}
use Rattle.json_values.specs.Parts.{Part}
use Rattle.schema_dialects.specs.Passed.{Named, settled, awaited, SchemaPlace}
use Rattle.schema_dialects.specs.Dialects.{dialect_of}
use Rattle.schema_dialects.specs.declared.bases.Named as code
use Rattle.schema_dialects.specs.declared.bases.Named.TheVariants as variants
use Rattle.schema_dialects.specs.declared.bases.Settled.{Settled}

abbrev pub named_of : code.Named → Named
named_of (variants.Known dialect) = settled (dialect_of dialect)
named_of (variants.Awaited uri) = awaited uri

-- the place at a path of contents that were settled
abbrev pub place_at : List Part → Data → Settled → SchemaPlace
place_at path d s = record { path = path; contents = d; base = s.base.value; dialect = dialect_of s.dialect; awaits = s.awaits }
