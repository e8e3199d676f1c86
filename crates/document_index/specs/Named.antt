-- Which error comes when.
use Rattle.std.specs.Prelude.{◌⊎◌, List}
use Rattle.schema_meaning.specs.Members.{In}
use Rattle.schema_definitions.specs.DocumentCauses.{DocumentCause}
use Rattle.document_sources.specs.Causes.{IsMemory, NamesDocument}
use Rattle.document_sources.specs.declared.error.Error.{Error}

-- an error is want of memory, or names the cause
abbrev pub NamesCause : DocumentCause → Error → Type 0
NamesCause cause e = IsMemory e ⊎ NamesDocument cause e

-- an error is want of memory, or names one of the causes
abbrev pub NamesOne : List DocumentCause → Error → Type 0
NamesOne causes e = IsMemory e ⊎ ((cause : DocumentCause) × In cause causes × NamesDocument cause e)
