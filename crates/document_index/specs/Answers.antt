-- What an answer of an index says of the documents.
use Rattle.std.specs.Prelude.{◌≡◌, ℕ, List, Option, Some, None, IsSomeAnd, slice_get, Contains, ⊤}
use Rattle.schema_definitions.specs.Identifiers.{dynamic_anchors}
use Rattle.schema_definitions.specs.Places.{Dialect}
use Rattle.schema_definitions.specs.Bearers.{Document, Documents, Standing, standing_in, bears_anchor, last_standing}
use Rattle.document_index.specs.Located.{Kept}

-- what was kept is of this schema place, which is one of the document at the position, and awaits nothing
pub record IsKeptOf (meta : List ℕ → Option Dialect) (documents : List Document) (kept : Kept) (s : Standing) : Type 0 where
  pub path : kept.path ≡ s.place.path
  pub base : kept.base ≡ s.place.base
  pub dialect : kept.dialect ≡ s.place.dialect
  pub awaits : s.place.awaits ≡ None
  pub stands : IsSomeAnd (slice_get documents kept.document) (λ d. Contains (standing_in meta d) s)

-- an answer is there where the documents have one, and is of that
abbrev pub IsAnswer : (List ℕ → Option Dialect) → List Document → Option Kept → Option Standing → Type 0
IsAnswer meta documents None None = ⊤
IsAnswer meta documents None (Some s) = ⊥
IsAnswer meta documents (Some kept) None = ⊥
IsAnswer meta documents (Some kept) (Some s) = IsKeptOf meta documents kept s

-- the last schema place with a dynamic anchor of a name under a base, under what is told of meta-schemas
abbrev pub dynamically_anchored_under : (List ℕ → Option Dialect) → Documents → List ℕ → List ℕ → Option Standing
dynamically_anchored_under meta docs base k = last_standing (bears_anchor dynamic_anchors base k) meta docs
