-- What the errors of the code stand for.
use Rattle.std.specs.Prelude.{◌≡◌, ◌&&◌, Bool, true, List, [], ◌∷◌, None, box_value}
use Rattle.std.specs.declared.alloc.Global.{Global}
use Rattle.std.specs.declared.vec.Vec.{Vec}
use Rattle.serde_json.specs.Data.{Data}
use Rattle.json_values.specs.Parts.{Part}
use Rattle.schema_meaning.specs.Faults.{Fault, fault, Kind, Faults, none, also, Branches, no_branch, branch, Told}
use Rattle.schema_meaning.specs.Places.{Spot}
use Rattle.schema_reports.specs.Instances.{value_in}
use Rattle.schema_reports.specs.Kinds.{kind_of, is_proper}
use Rattle.schema_reports.specs.declared.error.ValidationError.{ValidationError}

abbrev pub fault_of : ValidationError → Fault
fault_of e = fault (kind_of (box_value e.kind)) (value_in e.instance) e.instance_path e.schema_path e.evaluation_path

abbrev pub faults_of : List ValidationError → Faults
faults_of [] = none
faults_of (e ∷ es) = also (fault_of e) (faults_of es)

-- the faults of each branch, as a context has them
abbrev pub branches_in : List (Vec ValidationError Global) → Branches
branches_in [] = no_branch
branches_in (es ∷ rest) = branch (faults_of es.items) (branches_in rest)

-- ---- errors that carry values such as their keywords have

abbrev pub error_is_proper : ValidationError → Bool
error_is_proper e = is_proper (box_value e.kind)

abbrev pub are_proper : List ValidationError → Bool
are_proper [] = true
are_proper (e ∷ es) = error_is_proper e && are_proper es

abbrev pub context_is_proper : List (Vec ValidationError Global) → Bool
context_is_proper [] = true
context_is_proper (es ∷ rest) = are_proper es.items && context_is_proper rest

-- ---- what they are errors of, value for value

pub record IsOneOf (e : ValidationError) (fs : Faults) : Type 0 where
  pub told : Told (fault_of e) fs
  pub proper : error_is_proper e ≡ true

pub record AreAll (es : List ValidationError) (fs : Faults) : Type 0 where
  pub told : faults_of es ≡ fs
  pub proper : are_proper es ≡ true

pub record AreBranches (context : List (Vec ValidationError Global)) (bs : Branches) : Type 0 where
  pub told : branches_in context ≡ bs
  pub proper : context_is_proper context ≡ true

-- ---- parts

abbrev pub fault_kind : Fault → Kind
fault_kind (fault k d i s e) = k

abbrev pub fault_instance : Fault → Data
fault_instance (fault k d i s e) = d

-- where a value of the instance stands, no keyword read
abbrev pub spot_of : Data → List Part → Spot
spot_of d path = record { value = d; path = path; called = None; road = [] }
