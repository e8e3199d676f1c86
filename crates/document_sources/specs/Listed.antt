-- What the code's lists of documents stand for.
use Rattle.std.specs.Prelude.{List, map}
use Rattle.document_sources.specs.Given.{Given}
use Rattle.document_sources.specs.Seen.{given_of}
use Rattle.document_sources.specs.declared.list.DocumentList.{DocumentList}

abbrev pub givens_of : DocumentList → List Given
givens_of l = map given_of l.documents.items
