-- What a pointer reaches, as the program has it.
use Rattle.std.specs.Prelude.{ℕ, List, Option, Result}
use Rattle.percent_encoding.specs.Percent.{percent_decode}
use Rattle.serde_json.specs.View.{view}
use Rattle.schema_definitions.specs.Places.{Dialect}
use Rattle.schema_definitions.specs.Lookup.{Target, LookupCause, by_pointer}
use Rattle.schema_dialects.specs.Dialects.{dialect_of}
use Rattle.schema_places.specs.declared.place.Place.{Place}
use Rattle.schema_places.specs.Seen.{place_of}
use Rattle.schema_places.specs.declared.reached.Reached.{Reached}

-- the target in a document
abbrev pub target_of : List ℕ → Reached → Target
target_of document r = record { document = document; path = r.path; contents = view r.contents.now; base = r.base.value; dialect = dialect_of r.dialect; is_place = r.is_place }

-- what a fragment that begins with `/` leads to from a schema place of a document, under what is told of meta-schemas (RFC 6901, section 6)
abbrev pub pointed : (List ℕ → Option Dialect) → List ℕ → Place → List ℕ → Result Target LookupCause
pointed meta document from fragment = by_pointer meta (record { document = document; place = place_of from }) fragment (percent_decode fragment)
