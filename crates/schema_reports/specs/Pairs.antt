-- Pairs of texts, and those of a fault's paths.
use Rattle.std.specs.Prelude.{ℕ, List, String, string_bytes}
use Rattle.std.specs.declared.alloc.Global.{Global}
use Rattle.schema_meaning.specs.Faults.{Fault, instance_path, evaluation_path}
use Rattle.schema_definitions.specs.PathTexts.{path_text}

abbrev pub pair_bytes : String Global × String Global → List ℕ × List ℕ
pair_bytes p = (string_bytes p.0, string_bytes p.1)

-- the texts of a fault's paths, as the list of pairs has them
abbrev pub paths_in : Fault → List ℕ × List ℕ
paths_in f = (path_text (instance_path f), path_text (evaluation_path f))
