-- What the code's documents stand for.
use Rattle.serde_json.specs.Data.{Data}
use Rattle.serde_json.specs.View.{view}
use Rattle.schema_definitions.specs.Bearers.{Layer}
use Rattle.document_sources.specs.Given.{Given}
use Rattle.document_sources.specs.declared.document.Contents.{Contents}
use Rattle.document_sources.specs.declared.document.Contents.TheVariants.{Lent, Owned, Shared}
use Rattle.document_sources.specs.declared.document.Document.{Document}
use Rattle.document_sources.specs.declared.layer.Layer as code

abbrev pub contents_view : Contents → Data
contents_view (Lent value) = view value.now
contents_view (Owned value) = view value
contents_view (Shared value) = view value.value

abbrev pub layer_of : code.Layer → Layer
layer_of l = record { number = l.number; draft = l.draft; siblings = l.siblings }

abbrev pub given_of : Document → Given
given_of d = record { uri = d.uri.value; contents = contents_view d.contents; draft = d.draft }
