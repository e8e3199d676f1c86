-- What the engine tells of a whole value.
use Rattle.std.specs.Prelude.{◌≡◌, ℕ, List, [], Bool, Some}
use Rattle.serde_json.specs.Data.{Data}
use Rattle.schema_meaning.specs.Places.{Key, whole}
use Rattle.schema_meaning.specs.Faults.{Faults}
use Rattle.schema_meaning.specs.Keywords.{Shape}
use Rattle.schema_meaning.specs.Readings.{Reading, bags, unfolded}
use Rattle.schema_meaning.specs.Cut.{cut, AreAll}
use Rattle.schema_reports.specs.declared.observer.Observer.{Observer}
use Rattle.schema_engine.specs.declared.node.Node.{Node}
use Rattle.schema_engine.specs.Graphs.{reading_of, IsReadingOf, HasPathsOf}
use Rattle.schema_engine.specs.Hearing.{HearsMore}

module _ {K : Type 0} (shape : K → Shape ℕ) (matches : List ℕ → List ℕ → Bool) (nodes : List (Node K)) (node : ℕ) (d : Data) where
  -- the observer hears the faults of the cut reading
  pub record TellsCut (old new : Observer) : Type 0 where
    pub hears : (all : List Key) → AreAll (reading_of shape matches nodes) node (whole d) all → HearsMore (cut bags (reading_of shape matches nodes) all [] node (whole d)) old new

  -- where a reading of the graph decides, it hears the decided faults
  pub record TellsDecided (old new : Observer) : Type 0 where
    pub hears : (r : Reading ℕ) (n : ℕ) (fs : Faults) → IsReadingOf shape matches nodes r → HasPathsOf nodes r → unfolded bags r n node (whole d) ≡ Some fs → HearsMore fs old new
