-- What places and questions stand for.
use Rattle.std.specs.Prelude.{List, ℕ, Option, Some, None}
use Rattle.serde_json.specs.Data.{Data, string}
use Rattle.serde_json.specs.View.{view}
use Rattle.schema_meaning.specs.Places.{Step, stay, to_item, to_member, to_name}
use Rattle.schema_engine.specs.declared.place.Place.{Place}
use Rattle.schema_engine.specs.declared.place.Place.TheVariants as place
use Rattle.schema_engine.specs.declared.place.Asked.{Asked}
use Rattle.schema_engine.specs.declared.place.Asked.TheVariants as asked

abbrev pub value_at : Place → Data
value_at (place.Value v) = view v.now
value_at (place.Name s) = string s.now

-- the name where the place is one
abbrev pub called_at : Place → Option (List ℕ)
called_at (place.Value v) = None
called_at (place.Name s) = Some s.now

abbrev pub step_of : Asked → Step
step_of asked.Here = stay
step_of (asked.Item i v) = to_item i (view v.now)
step_of (asked.Member k v) = to_member k.now (view v.now)
step_of (asked.Name k) = to_name k.now
