-- Schema places that were found, each with its document's position.
use Rattle.std.specs.Prelude.{◌≡◌, List, map}
use Rattle.schema_definitions.specs.Bearers.{Documents, meta}
use Rattle.schema_dialects.specs.Dialects.{dialects_in}
use Rattle.schema_dialects.specs.declared.meta_schemas.MetaSchemas.{MetaSchemas}
use Rattle.document_index.specs.Located.{located_standings}
use Rattle.document_index.specs.Seen.{located_of}
use Rattle.document_index.specs.declared.standing.Standing as places

-- they are those of documents under what is known of meta-schemas
abbrev pub AreUnder : MetaSchemas → Documents → List places.Standing → Type 0
AreUnder known docs found = map located_of found ≡ located_standings (dialects_in known) docs

-- they are those of documents under all that these tell
abbrev pub AreTold : Documents → List places.Standing → Type 0
AreTold docs found = map located_of found ≡ located_standings (meta docs) docs
