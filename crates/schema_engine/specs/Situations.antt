-- What is told of a value where a keyword stands.
use Rattle.std.specs.Prelude.{ℕ, List, None}
use Rattle.serde_json.specs.Data.{Data}
use Rattle.serde_json.specs.View.{view}
use Rattle.json_values.specs.Parts.{Part}
use Rattle.schema_meaning.specs.Places.{Spot}
use Rattle.schema_meaning.specs.Faults.{Kind, none, also}
use Rattle.schema_meaning.specs.Rules.{Rule, own_fault}
use Rattle.schema_reports.specs.Kinds.{StandsFor}
use Rattle.location_texts.specs.Locations.{location_of}
use Rattle.schema_reports.specs.declared.kind.ValidationErrorKind.{ValidationErrorKind}
use Rattle.schema_reports.specs.declared.observer.Observer.{Observer}
use Rattle.schema_engine.specs.declared.situation.Situation.{Situation}
use Rattle.schema_engine.specs.Hearing.{HearsMore}
use Rattle.schema_engine.specs.Refusals.{own_notes}

-- the spot of the value
abbrev pub spot_in : Situation → Spot
spot_in s = record { value = view s.value.now; path = location_of s.instance.now; called = None; road = location_of s.evaluation.now }

-- the observer heard of one fault, under these parts: of this kind, and of this value
pub record TellsOf (s : Situation) (parts : List Part) (kind : ValidationErrorKind) (value : Data) (old new : Observer) : Type 0 where
  pub told : (said : Kind) → StandsFor kind said → HearsMore (also (own_fault (spot_in s) s.schema.now parts (record { kind = said; value = value })) none) old new

-- it heard of what a rule notes of the value itself
abbrev pub TellsNotes : Situation → Rule ℕ → Observer → Observer → Type 0
TellsNotes s k old new = HearsMore (own_notes k (spot_in s) s.schema.now) old new
