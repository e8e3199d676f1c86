-- How many steps a comparison goes down.
use Rattle.std.specs.Prelude.{ℕ, ◌+◌}
use Rattle.schema_meaning.specs.Faults.{Fault, fault, Kind, Faults, none, also, Branches, no_branch, branch}
use Rattle.schema_meaning.specs.Faults as told

abbrev mutual
  pub fault_size : Fault → ℕ
  fault_size (fault k d i s e) = kind_size k + 1

  pub kind_size : Kind → ℕ
  kind_size (told.AnyOf bs) = branches_size bs + 2
  kind_size (told.OneOfMultipleValid bs) = branches_size bs + 2
  kind_size (told.OneOfNotValid bs) = branches_size bs + 2
  kind_size (told.PropertyNames f) = fault_size f + 1
  kind_size k = 0

  pub faults_size : Faults → ℕ
  faults_size none = 0
  faults_size (also f fs) = fault_size f + faults_size fs + 1

  pub branches_size : Branches → ℕ
  branches_size no_branch = 0
  branches_size (branch fs bs) = faults_size fs + branches_size bs + 1
