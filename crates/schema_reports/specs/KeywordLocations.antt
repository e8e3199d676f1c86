-- Where the keywords of errors stand in their documents (Core, section 8.2.1; RFC 6901, section 6).
use Rattle.std.specs.Prelude.{◌≡◌, ◌++◌, ℕ, List, [], ◌∷◌, if◌then◌else◌, codes, reverse}
use Rattle.json_values.specs.Parts.{Part}
use Rattle.json_values.specs.Pointers.{pointer_text}
use Rattle.json_pointers.specs.Fragments.{fragment_text}
use Rattle.schema_reports.specs.declared.keyword_location.SchemaLocation.{SchemaLocation}
use Rattle.schema_reports.specs.declared.keyword_location.KeywordLocation.{KeywordLocation}

-- the same document and the same path
pub record AreOneLocation (l copy : SchemaLocation) : Type 0 where
  pub document : copy.document.value ≡ l.document.value
  pub path : copy.path ≡ l.path

-- a path with the last part of another behind it
abbrev pub with_last : List Part → List Part → List Part
with_last [] path = path
with_last (part ∷ before) path = part ∷ path

-- the keyword's path in its document, by the schema path of the error; the schema's own where no keyword is named
abbrev pub keyword_path : List Part → KeywordLocation → List Part
keyword_path schema_path l = if l.is_keyword then with_last schema_path l.schema.path else l.schema.path

-- the document's URI, `#` and the path as a pointer in a fragment
abbrev pub absolute_text : List Part → KeywordLocation → List ℕ
absolute_text schema_path l = l.schema.document.value ++ codes "#" ++ fragment_text (pointer_text (reverse (keyword_path schema_path l)))
