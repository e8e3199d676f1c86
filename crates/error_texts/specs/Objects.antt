-- JSON objects that tell of errors. Their members stand in the order of their names.
use Rattle.std.specs.Prelude.{◌≡◌, ℕ, List, Option, Some, None, codes, false}
use Rattle.std.specs.List.{AllZip}
use Rattle.serde_json.specs.Data.{Data, null, boolean, string, array, object, Items, Members, no_members, member}
use Rattle.serde_json.specs.View.{items_of}
use Rattle.json_values.specs.Parts.{Part}
use Rattle.schema_meaning.specs.Faults.{instance_path, schema_path, evaluation_path}
use Rattle.schema_reports.specs.Described.{message_of}
use Rattle.schema_reports.specs.KeywordLocations.{absolute_text}
use Rattle.schema_reports.specs.Kinds.{kind_of, is_proper}
use Rattle.schema_reports.specs.Phrases.{AreSpelled, IsJsonText}
use Rattle.schema_reports.specs.Sentences.{description_of}
use Rattle.schema_reports.specs.Told.{fault_of, fault_kind, error_is_proper}
use Rattle.schema_reports.specs.declared.error.ValidationError.{ValidationError}
use Rattle.schema_reports.specs.declared.keyword_location.KeywordLocation.{KeywordLocation}
use Rattle.schema_reports.specs.declared.kind.ValidationErrorKind.{ValidationErrorKind}
use Rattle.error_texts.specs.Fields.{fields, path_data, with_fields}

-- where the keyword of an error stands
abbrev pub location_in : List Part → Option KeywordLocation → Data
location_in schema_path None = null
location_in schema_path (Some l) = string (absolute_text schema_path l)

abbrev pub location_data : ValidationError → Data
location_data e = location_in e.schema_path e.standing

-- an error's description, the name of its kind, where its keyword stands, and its paths
abbrev pub own_members : ValidationError → List ℕ → Members
own_members e description =
    member (codes "description") (string description)
    (member (codes "evaluation_path") (path_data (evaluation_path (fault_of e)))
    (member (codes "instance_path") (path_data (instance_path (fault_of e)))
    (member (codes "keyword_location") (location_data e)
    (member (codes "kind") (string (message_of e))
    (member (codes "schema_path") (path_data (schema_path (fault_of e))) no_members)))))

-- with what its kind carries
abbrev pub error_data : ValidationError → ValidationErrorKind → List ℕ → Data
error_data e kind description = object (with_fields (fields kind) (own_members e description))

-- the object of an error: the kind is the error's, value for value
pub record IsObject (e : ValidationError) (d : Data) : Type 0 where
  pub kind : ValidationErrorKind
  pub stands_for : kind_of kind ≡ fault_kind (fault_of e)
  pub proper : is_proper kind ≡ error_is_proper e
  pub description : List ℕ
  pub says : AreSpelled (description_of e) description
  pub object : d ≡ error_data e kind description

-- what is said of a value that is accepted
abbrev pub accepted_text : List ℕ
accepted_text = codes "{\"errors\":[],\"valid\":true}"

-- of one that is refused
abbrev pub refused_data : Items → Data
refused_data errors = object (member (codes "errors") (array errors) (member (codes "valid") (boolean false) no_members))

-- a text of it with the objects of these errors, in order
pub record HasObjects (es : List ValidationError) (text : List ℕ) : Type 0 where
  pub objects : List Data
  pub zipped : AllZip IsObject es objects
  pub is_text : IsJsonText (refused_data (items_of objects)) text
