-- Certificates over documents, as two path texts (RFC 6901).
use Rattle.std.specs.Prelude.{◌≡◌, ℕ, List, reverse, Bool}
use Rattle.serde_json.specs.Data.{Data}
use Rattle.json_values.specs.Parts.{Part}
use Rattle.json_values.specs.Pointers.{pointer_text}
use Rattle.schema_meaning.specs.Places.{whole}
use Rattle.schema_meaning.specs.Certificates.{Certificate}
use Rattle.schema_definitions.specs.Bearers.{Documents}
use Rattle.schema_definitions.specs.Lookup.{Target}
use Rattle.schema_definitions.specs.Sites.{root_site}
use Rattle.schema_definitions.specs.Plain.{plain}

-- the text of a path that has its last part first
abbrev pub path_text : List Part → List ℕ
path_text path = pointer_text (reverse path)

-- an instance path and an evaluation path that some chain of obliged steps spells, from a root at a value on, to a keyword that refuses
pub record AreCertificate (docs : Documents) (makes : List ℕ → Bool) (matches : List ℕ → List ℕ → Bool) (root : Target) (value : Data) (instance evaluation : List ℕ) : Type 0 where
  pub instance_path : List Part
  pub evaluation_path : List Part
  pub chain : Certificate (plain docs makes matches) (root_site root) (whole value) instance_path evaluation_path
  pub instance_text : instance ≡ path_text instance_path
  pub evaluation_text : evaluation ≡ path_text evaluation_path
