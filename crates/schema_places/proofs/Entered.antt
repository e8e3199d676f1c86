-- A place that is entered has the contents that are given.
use Rattle.std.proofs.Common.{◌≡◌, ℕ, List, [], Option, refl}
use Rattle.serde_json.specs.Data.{Data}
use Rattle.json_values.specs.Parts.{Part}
use Rattle.schema_definitions.specs.Places.{Dialect, Named, settled, awaited, placed, entered, root_place}

placed-contents : (outer : List ℕ) (around : Dialect) (path : List Part) (d : Data) (n : Named) → (placed outer around path d n).contents ≡ d
placed-contents outer around path d (settled dialect) = refl
placed-contents outer around path d (awaited uri) = refl

pub entered-contents : (meta : List ℕ → Option Dialect) (outer : List ℕ) (around : Dialect) (path : List Part) (d : Data) → (entered meta outer around path d).contents ≡ d
entered-contents meta outer around path d = placed-contents outer around path d _

pub root-contents : (meta : List ℕ → Option Dialect) (uri : List ℕ) (default : Dialect) (d : Data) → (root_place meta uri default d).contents ≡ d
root-contents meta uri default d = placed-contents uri default [] d _
