-- What the engine tells from where a node's keywords stand.
use Rattle.std.specs.Prelude.{◌≡◌, ◌++◌, ℕ, List, [], Bool}
use Rattle.std.specs.Borrow.{Bor}
use Rattle.serde_json.specs.View.{view}
use Rattle.json_values.specs.Parts.{Part}
use Rattle.schema_meaning.specs.Faults.{Faults}
use Rattle.schema_meaning.specs.Members.{In}
use Rattle.schema_meaning.specs.Places.{Step}
use Rattle.schema_meaning.specs.Readings.{Reading}
use Rattle.location_texts.specs.Locations.{location_of}
use Rattle.schema_reports.specs.declared.observer.Observer.{Observer}
use Rattle.schema_engine.specs.declared.node.Node.{Node}
use Rattle.schema_engine.specs.declared.place.Place.TheVariants as place
use Rattle.schema_engine.specs.declared.situation.Situation.{Situation}
use Rattle.schema_engine.specs.declared.validate.Validate.{Ghosts}
use Rattle.schema_engine.specs.Places.{value_at}
use Rattle.schema_engine.specs.Progress.{numbers_in}
use Rattle.schema_engine.specs.Graphs.{path_at, rank_at}
use Rattle.schema_engine.specs.Verdicts.{Setting, size}
use Rattle.schema_engine.specs.Standing.{nodes_of, size_of}
use Rattle.engine_faults.specs.declared.there.There.{There}
use Rattle.engine_faults.specs.Faults.{Stand, Hearing, asked_faults}

-- each of these is one of those
abbrev pub AreIn : {K : Type 0} → List K → List K → Type 0
AreIn ks all = (k : _) → In k ks → In k all

module _ {K : Type 0} {G : Ghosts K} where
  abbrev pub stand_of : There K G → Stand
  stand_of t = record {
    place = t.here.place;
    progress = numbers_in t.here.progress.now;
    path = location_of t.situation.instance.now;
    road = location_of t.situation.evaluation.now;
  }

  -- the value is the place's, and the schema's path the node's
  pub record IsThere (t : There K G) : Type 0 where
    pub value : view t.situation.value.now ≡ value_at t.here.place
    pub path : t.situation.schema.now ≡ path_at (nodes_of t.here) t.here.node

  -- the observer hears what is told there
  abbrev pub HearsAt : There K G → (Setting → Faults) → Observer → Observer → Type 0
  HearsAt t told old new = Hearing (stand_of t) (size_of t.here) told old new

  -- of a question whose keyword's parts lead on by this road
  pub record HearsOf (r : Reading ℕ) (t : There K G) (road : List Part) (node : ℕ) (step : Step) (follows : Bool) (old new : Observer) : Type 0 where
    pub hears : (added : List Part) → road ≡ added ++ location_of t.situation.evaluation.now
        → HearsAt t (λ x. asked_faults r x (record { site = node; step = step; added = added; follows = follows })) old new

-- a value in its situation, where no reference is in progress
abbrev pub stand_in : Situation → Stand
stand_in s = record { place = place.Value s.value; progress = []; path = location_of s.instance.now; road = location_of s.evaluation.now }

-- a name, in the situation of its object
abbrev pub stand_of_name : Bor (List ℕ) → Situation → Stand
stand_of_name k s = record { place = place.Name k; progress = []; path = location_of s.instance.now; road = location_of s.evaluation.now }

abbrev pub size_at : {K : Type 0} → List (Node K) → Stand → ℕ → ℕ
size_at nodes s n = size nodes (value_at s.place) s.progress (rank_at nodes n)
