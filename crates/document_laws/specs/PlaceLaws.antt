-- Laws on schema places.
use Rattle.std.specs.Prelude.{ℕ, ◌≡◌, List, reverse, Option, Some, None}
use Rattle.std.specs.List.{All}
use Rattle.serde_json.specs.Data.{Data}
use Rattle.json_values.specs.Pointers.{value_at}
use Rattle.schema_definitions.specs.Places.{Dialect, SchemaPlace, places}
use Rattle.schema_definitions.specs.Bearers.{Document, Documents, standings, bearer_under, anchored_under}
use Rattle.schema_definitions.specs.Lookup.{lookup_under}
use Rattle.schema_dialects.specs.Unknown.{no_meta}

-- what a place holds lies in the document where its path says
abbrev pub Leads : Data → SchemaPlace → Type 0
Leads d p = value_at (reverse p.path) d ≡ Some p.contents

-- each place does, whatever is told of meta-schemas
abbrev pub PlacesLead : Data → Type 0
PlacesLead d = (meta : List ℕ → Option Dialect) (uri : List ℕ) (default : Dialect) → All (Leads d) (places meta uri default d)

-- no schema place of the documents awaits its meta-schema
abbrev pub NothingAwaits : List Document → Type 0
NothingAwaits docs = All (λ s. s.place.awaits ≡ None) (standings no_meta docs)

-- these documents have the same places, and the same bearers of URIs and anchors, whatever is told of meta-schemas
pub record AloneTell (docs : Documents) (meta : List ℕ → Option Dialect) : Type 0 where
  pub places : standings meta docs ≡ standings no_meta docs
  pub bearers : (uri : List ℕ) → bearer_under meta docs uri ≡ bearer_under no_meta docs uri
  pub anchored : (base k : List ℕ) → anchored_under meta docs base k ≡ anchored_under no_meta docs base k

abbrev pub DocumentsAloneTell : Type 0
DocumentsAloneTell = (docs : Documents) → NothingAwaits docs → (meta : List ℕ → Option Dialect) → AloneTell docs meta

-- and references lead to the same targets, with the same causes where they lead nowhere
abbrev pub LookupsAloneTell : Type 0
LookupsAloneTell = (docs : Documents) → NothingAwaits docs → (meta : List ℕ → Option Dialect) (base reference : List ℕ)
    → lookup_under meta docs base reference ≡ lookup_under no_meta docs base reference
