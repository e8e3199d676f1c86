-- The paths of faults that a line lists.
use Rattle.std.specs.Prelude.{ℕ, List, [], ◌∷◌, Option, Some, None, option_map, option_and_then}
use Rattle.serde_json.specs.Data.{Data, Items, no_items, item}
use Rattle.serde_json.specs.Find.{as_array, as_str}
use Rattle.schema_registries.specs.Refused.{text_value}
use Rattle.fault_checks.specs.declared.checking.FaultPath.{FaultPath}

-- the path in the instance, and the evaluation path
abbrev pub Paths : Type 0
Paths = List ℕ × List ℕ

abbrev pub path_bytes : FaultPath → Paths
path_bytes f = (f.instance_path.now, f.evaluation_path.now)

abbrev pub both : Option (List ℕ) → Option (List ℕ) → Option Paths
both None evaluation = None
both (Some instance) None = None
both (Some instance) (Some evaluation) = Some (instance, evaluation)

-- two texts
abbrev pub path_among : Items → Option Paths
path_among no_items = None
path_among (item instance no_items) = None
path_among (item instance (item evaluation no_items)) = both (as_str instance) (as_str evaluation)
path_among (item instance (item evaluation (item other rest))) = None

abbrev pub path_in : Data → Option Paths
path_in d = option_and_then path_among (as_array d)

-- each item is a list of two texts
abbrev pub paths_among : Items → Option (List Paths)
paths_among no_items = Some []
paths_among (item d rest) = option_and_then (λ path. option_map (λ paths. path ∷ paths) (paths_among rest)) (path_in d)

abbrev pub paths_in_data : Data → Option (List Paths)
paths_in_data d = option_and_then paths_among (as_array d)

-- of a JSON text
abbrev pub paths_in : List ℕ → Option (List Paths)
paths_in line = option_and_then paths_in_data (text_value line)
