-- The rows compute.
use Rattle.std.proofs.Common.{refl}
use Rattle.std.specs.List.{AllByRecursion}
use Rattle.std.specs.Str.{is_utf8, chars}
use Rattle.std.specs.Fmt.{digits}
use Rattle.serde_json.proofs.OnLiterals.{serde_json_on_literals}
use Rattle.uri_references.specs.Passed.{is_reference, split}
use Rattle.uri_references.specs.Resolution.{resolve}
use Rattle.uri_references.specs.NormalForm.{normal}
use Rattle.uri_references.specs.Dots.{remove_dots}
use Rattle.schema_definitions.specs.Identifiers.{resolved}
use Rattle.schema_definitions.specs.Places.{places}
use Rattle.schema_definitions.specs.Bearers.{standings, dialects}
use Rattle.schema_definitions.specs.Rounds.{wants_under}
use Rattle.schema_definitions.specs.RoundExamples.{Wants, rows}

pub wants_hold : AllByRecursion Wants rows
unfolding digits serde_json_on_literals lib.Utf8.encode is_utf8 chars split is_reference resolve normal remove_dots resolved places standings dialects wants_under
wants_hold = (refl, (refl, (refl, (refl, (refl, (refl, tt))))))
