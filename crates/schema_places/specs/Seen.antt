-- The schema place that the code's place is.
use Rattle.serde_json.specs.View.{view}
use Rattle.schema_definitions.specs.Places.{SchemaPlace}
use Rattle.schema_dialects.specs.Dialects.{dialect_of}
use Rattle.schema_places.specs.declared.place.Place.{Place}

abbrev pub place_of : Place → SchemaPlace
place_of p = record { path = p.path; contents = view p.contents.now; base = p.base.value; dialect = dialect_of p.dialect; awaits = p.awaits }
