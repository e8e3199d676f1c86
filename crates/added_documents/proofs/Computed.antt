use Rattle.std.proofs.Common.{refl, ◌∷◌}
use Rattle.std.specs.Str.{is_utf8, chars}
use Rattle.std.specs.Fmt.{digits}
use Rattle.serde_json.proofs.OnLiterals.{serde_json_on_literals}
use Rattle.percent_encoding.specs.Percent.{percent_decode}
use Rattle.uri_grammar.specs.Parts.{split}
use Rattle.uri_grammar.specs.Grammar.{is_reference}
use Rattle.uri_references.specs.Resolution.{resolve}
use Rattle.uri_references.specs.NormalForm.{normal}
use Rattle.uri_references.specs.Dots.{remove_dots}
use Rattle.schema_meaning.specs.Readings.{told, through}
use Rattle.schema_definitions.specs.Identifiers.{resolved}
use Rattle.schema_definitions.specs.Places.{places}
use Rattle.schema_definitions.specs.Bearers.{standings, dialects}
use Rattle.schema_definitions.specs.Lookup.{lookup_under}
use Rattle.schema_definitions.specs.Rows.{rows_at}
use Rattle.added_documents.specs.Needed.{reading, dialect, entering, resource, PremisesAreNeeded, referring, referred, not_there, IsMended}
use Rattle.added_documents.proofs.Levelled.{built_by_levels, wrong_by_levels}

pub premises_are_needed : PremisesAreNeeded
unfolding digits serde_json_on_literals lib.Utf8.encode is_utf8 chars percent_decode split is_reference resolve normal remove_dots resolved places standings dialects lookup_under rows_at told through
premises_are_needed = record {
  by_dialect = record {
    right = record { accepted = refl; builds = built_by_levels reading 4 refl };
    right_still = record { accepted = refl; builds = built_by_levels (dialect ∷ reading) 4 refl };
    apart = refl;
    refused = refl;
    accepted = refl;
  };
  by_base = record {
    right = record { accepted = refl; builds = built_by_levels entering 5 refl };
    right_still = record { accepted = refl; builds = built_by_levels (resource ∷ entering) 5 refl };
    apart = refl;
    refused = refl;
    accepted = refl;
  };
}

pub root_is_mended : IsMended
unfolding digits serde_json_on_literals lib.Utf8.encode is_utf8 chars percent_decode split is_reference resolve normal remove_dots resolved places standings dialects lookup_under rows_at
root_is_mended = record {
  accepted = refl;
  wrong = wrong_by_levels referring 4 not_there refl;
  apart = refl;
  right = record { accepted = refl; builds = built_by_levels (referred ∷ referring) 5 refl };
}
