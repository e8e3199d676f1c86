-- Whether a number that is not whole stands in what a fault tells.
use Rattle.std.specs.Prelude.{◌||◌, Bool, false}
use Rattle.serde_json.specs.Written.{has_float, items_have_float}
use Rattle.schema_meaning.specs.Faults.{Fault, fault, Kind, Faults, none, also, Branches, no_branch, branch}
use Rattle.schema_meaning.specs.Faults as told

abbrev mutual
  pub fault_has_float : Fault → Bool
  fault_has_float (fault k d i s e) = has_float d || kind_has_float k

  pub kind_has_float : Kind → Bool
  kind_has_float (told.AnyOf bs) = branches_have_float bs
  kind_has_float (told.Constant d) = has_float d
  kind_has_float (told.Enumeration ds) = items_have_float ds
  kind_has_float (told.Not d) = has_float d
  kind_has_float (told.OneOfMultipleValid bs) = branches_have_float bs
  kind_has_float (told.OneOfNotValid bs) = branches_have_float bs
  kind_has_float (told.PropertyNames f) = fault_has_float f
  kind_has_float k = false

  pub faults_have_float : Faults → Bool
  faults_have_float none = false
  faults_have_float (also f fs) = fault_has_float f || faults_have_float fs

  pub branches_have_float : Branches → Bool
  branches_have_float no_branch = false
  branches_have_float (branch fs bs) = faults_have_float fs || branches_have_float bs
