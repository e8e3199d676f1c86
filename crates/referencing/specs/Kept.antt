-- The schema place that an index keeps something of.
use Rattle.std.specs.Prelude.{reverse, Option, None, option_map}
use Rattle.serde_json.specs.Data.{Data}
use Rattle.json_values.specs.Pointers.{value_at}
use Rattle.schema_definitions.specs.Bearers.{Document, document_name, Standing}
use Rattle.document_index.specs.Located.{Kept}

-- what lies in a document at a path that was kept
abbrev pub kept_at : Document → Kept → Data → Standing
kept_at d k contents = record { document = document_name d; place = record { path = k.path; contents = contents; base = k.base; dialect = k.dialect; awaits = None } }

abbrev pub kept_standing : Document → Kept → Option Standing
kept_standing d k = option_map (kept_at d k) (value_at (reverse k.path) d.contents)
