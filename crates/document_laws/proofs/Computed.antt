use Rattle.std.proofs.Common.{refl}
use Rattle.std.specs.Str.{is_utf8, chars}
use Rattle.std.specs.Fmt.{digits}
use Rattle.serde_json.proofs.OnLiterals.{serde_json_on_literals}
use Rattle.percent_encoding.specs.Percent.{percent_decode}
use Rattle.uri_grammar.specs.Parts.{split}
use Rattle.uri_grammar.specs.Grammar.{is_reference}
use Rattle.uri_references.specs.Resolution.{resolve}
use Rattle.uri_references.specs.NormalForm.{normal}
use Rattle.uri_references.specs.Dots.{remove_dots}
use Rattle.schema_definitions.specs.Identifiers.{resolved}
use Rattle.schema_definitions.specs.Places.{places}
use Rattle.schema_definitions.specs.Bearers.{standings, dialects}
use Rattle.schema_definitions.specs.Lookup.{lookup_under}
use Rattle.document_laws.specs.Alternating.{Alternates}
use Rattle.document_laws.specs.Awaiting.{LeadsBelow}

pub stages_alternate : Alternates
unfolding digits serde_json_on_literals lib.Utf8.encode is_utf8 chars percent_decode split is_reference resolve normal remove_dots resolved places standings dialects
stages_alternate = record { counted = refl; first = refl; second = refl; third = refl; fourth = refl; anew = refl; cause = refl }

pub walk_leads_below : LeadsBelow
unfolding digits serde_json_on_literals lib.Utf8.encode is_utf8 chars percent_decode split is_reference resolve normal remove_dots resolved places standings dialects lookup_under
walk_leads_below = record { place = refl; listed = refl; cause = refl }
