-- The context in which the members of a schema are read.
use Rattle.std.specs.Prelude.{ℕ, List, Bool}
use Rattle.serde_json.specs.Data.{Members}
use Rattle.schema_definitions.specs.Bearers.{Document}
use Rattle.schema_definitions.specs.Sites.{Site}
use Rattle.schema_definitions.specs.Rows.{Context}

abbrev pub context_in : List Document → (List ℕ → Bool) → Site → Members → Context
context_in own makes s all = record { documents = own; makes = makes; site = s; members = all }
