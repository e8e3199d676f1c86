-- What the code's documents and schema places stand for.
use Rattle.std.specs.Prelude.{ℕ, List, ◌∷◌}
use Rattle.schema_definitions.specs.Bearers.{Document, Standing}
use Rattle.schema_places.specs.Seen.{place_of}
use Rattle.document_index.specs.Located.{Located}
pub use Rattle.document_sources.specs.Seen.{contents_view}
use Rattle.schema_dialects.specs.Dialects.{dialect_of}
use Rattle.document_index.specs.declared.document.DocumentName as names
use Rattle.document_index.specs.declared.document.Document as code
use Rattle.document_index.specs.declared.standing.Standing as places

abbrev pub name_of : names.DocumentName → List ℕ
name_of n = n.layer ∷ n.uri.value

abbrev pub document_of : code.Document → Document
document_of d = record { layer = d.name.layer; uri = d.name.uri.value; contents = contents_view d.contents; default = dialect_of d.default }

abbrev pub standing_of : places.Standing → Standing
standing_of s = record { document = name_of s.name; place = place_of s.place }

abbrev pub located_of : places.Standing → Located
located_of s = record { document = s.document; standing = standing_of s }
