-- What an observer is told of a value where a keyword stands.
use Rattle.std.specs.Prelude.{ℕ, List, [], ◌∷◌, Bool, true, false}
use Rattle.serde_json.specs.Data.{Data}
use Rattle.serde_json.specs.Find.{get}
use Rattle.json_values.specs.Parts.{Part}
use Rattle.schema_meaning.specs.Questions.{at}
use Rattle.schema_meaning.specs.Faults.{Required}
use Rattle.schema_meaning.specs.Keywords.{none_there}
use Rattle.schema_meaning.specs.Rules.{Note, own_faults}
use Rattle.schema_reports.specs.declared.observer.Observer.{Observer}
use Rattle.schema_engine.specs.Hearing.{HearsMore}
use Rattle.schema_engine.specs.Situations.{spot_in}
use Rattle.schema_engine.specs.declared.situation.Situation.{Situation}

-- what is noted, each under these parts
abbrev pub TellsUnder : Situation → List Part → List Note → Observer → Observer → Type 0
TellsUnder s parts notes old new = HearsMore (own_faults (spot_in s) s.schema.now parts notes) old new

-- each under a keyword's name
abbrev pub TellsEach : Situation → List ℕ → List Note → Observer → Observer → Type 0
TellsEach s k notes old new = TellsUnder s (at k) notes old new

-- a note where there is no member of that name
abbrev pub noted_if : Bool → Note → List Note
noted_if true note = note ∷ []
noted_if false note = []

abbrev pub lacking : Data → List ℕ → List Note
lacking d k = noted_if (none_there (get k d)) (record { kind = Required k; value = d })
