-- What a survey says of documents, and what is kept of those that have no cause.
use Rattle.std.specs.Prelude.{◌≡◌, ℕ, List, [], option_map, slice_get}
use Rattle.schema_definitions.specs.Bearers.{Documents, meta}
use Rattle.schema_definitions.specs.DocumentCauses.{circular_metaschema, told_anew, document_causes}
use Rattle.schema_dialects.specs.Dialects.{dialects_in}
use Rattle.document_index.specs.Located.{located_standings}
use Rattle.document_index.specs.Indexes.{Indexes}
use Rattle.document_index.specs.Told.{Tells}
use Rattle.document_index.specs.Standings.{AreTold}
use Rattle.document_index.specs.declared.survey.Survey.{Survey}
use Rattle.document_index.specs.declared.prepared.Prepared.{Prepared}

-- all that documents tell, the first that is told anew, their places under all of that, and the index of these
pub record Surveys (s : Survey) (docs : Documents) : Type 0 where
  pub tells : Tells s.told.meta_schemas (meta docs)
  pub anew : option_map circular_metaschema s.told.anew ≡ slice_get (told_anew docs) 0
  pub stand : AreTold docs s.places.items
  pub indexes : Indexes s.index (located_standings (meta docs) docs)

-- all that documents tell, the index of their places under that, and no cause
pub record Prepares (p : Prepared) (docs : Documents) : Type 0 where
  pub told : (uri : List ℕ) → dialects_in p.known uri ≡ meta docs uri
  pub indexed : Indexes p.index (located_standings (dialects_in p.known) docs)
  pub accepted : document_causes docs ≡ []
