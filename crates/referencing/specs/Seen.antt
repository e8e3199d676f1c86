-- What the code's registries stand for.
use Rattle.std.specs.Prelude.{ℕ, List, map, Option}
use Rattle.schema_definitions.specs.Places.{Dialect}
use Rattle.schema_definitions.specs.Bearers.{Document, meta}
use Rattle.document_index.specs.Seen.{document_of}
use Rattle.referencing.specs.declared.registry.Registry.{Registry}

-- a registry's documents in their order
abbrev pub documents_of : Registry → List Document
documents_of r = map document_of r.documents.items

-- the URIs of those that were retrieved
abbrev pub retrieved_by : Registry → List (List ℕ)
retrieved_by r = map (λ u. u.value) r.retrieved.items

-- what they tell of meta-schemas
abbrev pub told_by : Registry → List ℕ → Option Dialect
told_by r = meta (documents_of r)
