-- The schemas inside a schema are those of its children among the places.
use Rattle.std.specs.Prelude.{ℕ, List, Option, map, ◌≡◌}
use Rattle.serde_json.specs.Data.{Data}
use Rattle.schema_drafts.specs.Children.{subschemas}
use Rattle.schema_definitions.specs.Places.{Dialect, SchemaPlace, children_in}

abbrev pub contents_of : List SchemaPlace → List Data
contents_of ps = map (λ p. p.contents) ps

-- whatever is told of meta-schemas
abbrev pub ChildrenAreSubschemas : Type 0
ChildrenAreSubschemas = (meta : List ℕ → Option Dialect) (p : SchemaPlace) (d : Data) → contents_of (children_in meta p d) ≡ subschemas p.dialect d
