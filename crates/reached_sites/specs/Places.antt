-- What the code's places stand for.
use Rattle.std.specs.Prelude.{ℕ, List, ◌++◌, codes, reverse}
use Rattle.json_values.specs.Pointers.{pointer_text}
use Rattle.schema_definitions.specs.Bearers.{uri_in}
use Rattle.schema_definitions.specs.Rows.{Place}
use Rattle.document_index.specs.Seen.{name_of}
use Rattle.reached_sites.specs.declared.place.SchemaPlace.{SchemaPlace}

abbrev pub place_in : SchemaPlace → Place
place_in p = record { document = name_of p.document; path = p.path }

-- how a place is printed: the document's URI, `#` and the path as a pointer
abbrev pub shown : Place → List ℕ
shown p = uri_in p.document ++ codes "#" ++ pointer_text (reverse p.path)
