-- What a registry keeps of its documents.
use Rattle.std.specs.Prelude.{◌≡◌, ℕ, List, Bool, true}
use Rattle.std.specs.List.{list_all}
use Rattle.schema_meaning.specs.Members.{is_empty}
use Rattle.schema_definitions.specs.Bearers.{Document, meta}
use Rattle.schema_definitions.specs.DocumentCauses.{document_causes}
use Rattle.schema_dialects.specs.Dialects.{dialects_in}
use Rattle.schema_dialects.specs.declared.meta_schemas.MetaSchemas.{MetaSchemas}
use Rattle.document_index.specs.Located.{located_standings}
use Rattle.document_index.specs.Indexes.{Indexes}
use Rattle.document_index.specs.declared.index.Index.{Index}
use Rattle.json_values.specs.Rising.{rises}

abbrev pub contents_rise : Document → Bool
contents_rise d = rises d.contents

-- the meta-schemas that are known are those of which the documents tell, and the index is of the documents under these; the objects of the
-- documents have their names in order, each once; and they have no cause to be refused
pub record Stands (known : MetaSchemas) (index : Index) (documents : List Document) : Type 0 where
  pub told : (uri : List ℕ) → dialects_in known uri ≡ meta documents uri
  pub indexed : Indexes index (located_standings (dialects_in known) documents)
  pub rising : list_all contents_rise documents ≡ true
  pub accepted : is_empty (document_causes documents) ≡ true
