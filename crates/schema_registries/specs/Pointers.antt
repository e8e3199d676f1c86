-- The schema places of a document as JSON Pointers, and the references that lead to them.
use Rattle.std.specs.Prelude.{ℕ, ◌≡◌, List, ◌++◌, map, reverse, codes, bytes_eq, Option, Some}
use Rattle.json_values.specs.Pointers.{pointer_text}
use Rattle.json_pointers.specs.Fragments.{fragment_text}
use Rattle.schema_definitions.specs.Words.{last_that}
use Rattle.schema_definitions.specs.Places.{Dialect, SchemaPlace, places}
use Rattle.schema_definitions.specs.Bearers.{Document, meta}

-- the pointer of a place, from the document's root on
abbrev pub pointer_of : SchemaPlace → List ℕ
pointer_of p = pointer_text (reverse p.path)

-- those of a document's schema places, by what is told of meta-schemas
abbrev pub pointers_under : (List ℕ → Option Dialect) → Document → List (List ℕ)
pointers_under told d = map pointer_of (places told d.uri d.default d.contents)

-- by what the documents themselves tell
abbrev pub pointers_of : List Document → Document → List (List ℕ)
pointers_of documents d = pointers_under (meta documents) d

-- the last document of a URI, so an own one before a parent's
abbrev pub document_at : List Document → List ℕ → Option Document
document_at documents uri = last_that (λ d. bytes_eq d.uri uri) documents

abbrev pub IsDocumentAt : List Document → List ℕ → Document → Type 0
IsDocumentAt documents uri d = document_at documents uri ≡ Some d

-- the reference to a place of the document at the base
abbrev pub reference_to : List ℕ → List ℕ
reference_to pointer = codes "#" ++ fragment_text pointer
