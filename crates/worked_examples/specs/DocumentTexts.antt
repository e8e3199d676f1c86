-- Documents written as JSON texts, and what a root among them tells of an instance.
use Rattle.std.specs.Prelude.{ℕ, List, [], ◌∷◌, ◌++◌, map, Bool, true, false, Option, None, codes, Result, Ok, Err, option_map}
use Rattle.serde_json.specs.Data.{Data, null}
use Rattle.serde_json.specs.Read.{read}
use Rattle.json_values.specs.Parts.{Part}
use Rattle.json_values.specs.Pointers.{part_text}
use Rattle.schema_drafts.specs.declared.draft.Draft.{Draft}
use Rattle.schema_definitions.specs.Words.{or}
use Rattle.schema_definitions.specs.Places.{Dialect, standard}
use Rattle.schema_definitions.specs.Bearers.{Document, Documents}
use Rattle.schema_definitions.specs.Lookup.{LookupCause, Target, lookup}
use Rattle.schema_meaning.specs.Places.{whole}
use Rattle.schema_meaning.specs.Faults.{fault, Faults, none, also}
use Rattle.schema_meaning.specs.Readings.{bags, told}
use Rattle.schema_definitions.specs.Sites.{root_site}
use Rattle.schema_definitions.specs.Plain.{plain}

-- the value that a text is
abbrev pub json : List ℕ → Data
json text = or null (read text)

-- a URI and a text, in a layer
abbrev pub document : ℕ → Dialect → List ℕ × List ℕ → Document
document layer default d = record { layer = layer; uri = d.0; contents = json d.1; default = default }

-- documents without parents; what stands beside `$ref` is ignored where the draft says so
abbrev pub documents : Draft → List (List ℕ × List ℕ) → Documents
documents draft ds = map (document 0 (standard false draft)) ds

-- the text of a path that has its last part first
abbrev pub spelled : List Part → List ℕ
spelled [] = []
spelled (p ∷ ps) = spelled ps ++ 47 ∷ part_text p

abbrev pub paths_of : Faults → List (List ℕ × List ℕ)
paths_of none = []
paths_of (also (fault k d i s e) fs) = (spelled i, spelled e) ∷ paths_of fs

abbrev pub from : Documents → (List ℕ → List ℕ → Bool) → ℕ → Data → Result Target LookupCause → Option (List (List ℕ × List ℕ))
from docs matches n instance (Ok t) = option_map paths_of (told bags (plain docs (λ p. true) matches) n (root_site t) (whole instance))
from docs matches n instance (Err e) = None

-- the paths of the faults of an instance under a root, with n unfoldings
abbrev pub line : Documents → ℕ → List ℕ → List ℕ → Option (List (List ℕ × List ℕ))
line docs n root instance = from docs (λ p t. false) n (json instance) (lookup docs (codes "json-schema:///") root)
