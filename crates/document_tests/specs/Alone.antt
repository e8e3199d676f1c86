-- The documents of a registry that has one alone.
use Rattle.std.specs.Prelude.{ℕ, List, [], ◌∷◌, false, Option}
use Rattle.serde_json.specs.Data.{Data}
use Rattle.schema_drafts.specs.Drafts.{newest}
use Rattle.schema_drafts.specs.declared.draft.Draft.{Draft}
use Rattle.schema_definitions.specs.Bearers.{Document}
use Rattle.document_sources.specs.Given.{documents_by}
use Rattle.referencing.specs.Built.{given_by, first_layer}

-- what is added with a text, read by the newest draft where it names none
abbrev pub alone_by : {R : Type 0} → (R → Data) → (R → Option Draft) → List ℕ → R → List Document
alone_by contents draft text resource = documents_by (first_layer newest false) (given_by contents draft text resource ∷ [])
