-- What the code keeps of what is wanted and known.
use Rattle.std.specs.Prelude.{ℕ, List, Bool, ◌||◌, is_some}
use Rattle.std.specs.BTreeMap.{get_by_text}
use Rattle.schema_definitions.specs.DocumentCauses.{DocumentCause, unretrieved, unknown_specification}
use Rattle.document_index.specs.Indexes.{bearer_in}
use Rattle.document_index.specs.declared.index.Index.{Index}
use Rattle.schema_definitions.specs.Rounds as rounds
use Rattle.document_retrieval.specs.declared.names.Names.{Names}
use Rattle.document_retrieval.specs.declared.wants.Purpose.{Purpose}
use Rattle.document_retrieval.specs.declared.wants.Purpose.TheVariants.{Reference, MetaSchema}
use Rattle.document_retrieval.specs.declared.wants.Want.{Want}

abbrev pub cause_by : Purpose → List ℕ → DocumentCause
cause_by Reference uri = unretrieved uri
cause_by MetaSchema uri = unknown_specification uri

abbrev pub want_of : Want → rounds.Want
want_of w = record { uri = w.uri.value; cause = cause_by w.purpose w.uri.value }

-- a text is there
abbrev pub has_name : Names → List ℕ → Bool
has_name names text = is_some (get_by_text names.texts text)

-- somebody bears a URI, or it is there
abbrev pub is_known_by : Index → Names → List ℕ → Bool
is_known_by index names uri = is_some (bearer_in index uri) || has_name names uri
