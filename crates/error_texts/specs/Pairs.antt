-- The JSON value of a pair of texts.
use Rattle.std.specs.Prelude.{ℕ, List}
use Rattle.serde_json.specs.Data.{Data, string, array, no_items, item}

abbrev pub pair_data : List ℕ × List ℕ → Data
pair_data p = array (item (string p.0) (item (string p.1) no_items))
