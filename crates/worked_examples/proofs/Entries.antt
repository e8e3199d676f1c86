-- The rows compute.
use Rattle.std.proofs.Common.{refl}
use Rattle.std.specs.List.{AllByRecursion}
use Rattle.std.specs.Str.{is_utf8, chars}
use Rattle.std.specs.Fmt.{digits}
use Rattle.serde_json.proofs.OnLiterals.{serde_json_on_literals}
use Rattle.percent_encoding.specs.Percent.{percent_decode, percent_encode_byte}
use Rattle.uri_grammar.specs.Parts.{split}
use Rattle.uri_grammar.specs.Grammar.{is_reference}
use Rattle.uri_references.specs.Resolution.{resolve}
use Rattle.uri_references.specs.NormalForm.{normal}
use Rattle.uri_references.specs.Dots.{remove_dots}
use Rattle.json_values.specs.Pointers.{escape}
use Rattle.json_values.specs.Patterns.{unescaped}
use Rattle.schema_definitions.specs.Identifiers.{resolved}
use Rattle.schema_definitions.specs.Places.{places}
use Rattle.schema_definitions.specs.Bearers.{standings, dialects}
use Rattle.schema_definitions.specs.Lookup.{lookup_under}
use Rattle.schema_meaning.specs.Readings.{told, through}
use Rattle.schema_definitions.specs.Rows.{rows_at}
use Rattle.json_pointers.specs.Fragments.{fragment_text}
use Rattle.worked_examples.specs.Entries.{IsEntry, entries}

pub entries_hold : AllByRecursion IsEntry entries
unfolding digits serde_json_on_literals is_utf8 chars percent_decode percent_encode_byte split is_reference resolve normal remove_dots escape unescaped resolved places standings dialects lookup_under told through rows_at fragment_text
entries_hold = ((refl, refl), ((refl, refl), ((refl, refl), ((refl, refl), ((refl, refl), tt)))))
