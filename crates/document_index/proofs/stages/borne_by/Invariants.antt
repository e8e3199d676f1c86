use Rattle.std.proofs.Common.{◌≡◌, ℕ, List, map, take, option_map}
use Rattle.schema_definitions.specs.Words.{last_that}
use Rattle.schema_definitions.specs.Bearers.{bears, dialect_by}
use Rattle.schema_dialects.specs.Dialects.{dialects_in}
use Rattle.document_index.specs.Seen.{standing_of}
use Rattle.document_index.proofs.stages.borne_by.Given as goal

abbrev pub invariant-loop-standing : goal.invariant-loop-standing
invariant-loop-standing l = (q : List ℕ) → dialects_in l.borne q ≡ option_map dialect_by (last_that (bears q) (map standing_of (take l.standing-index l.standings)))
