-- Faults with their schema paths moved, at every level: those of branches and of names too.
use Rattle.std.specs.Prelude.{List, []}
use Rattle.json_values.specs.Parts.{Part}
use Rattle.schema_meaning.specs.Faults.{Fault, fault, Kind, AnyOf, OneOfMultipleValid, OneOfNotValid, PropertyNames, Faults, none, also, Branches, no_branch, branch}

abbrev mutual
  pub moved_fault : (List Part → List Part) → Fault → Fault
  moved_fault f (fault k d i s e) = fault (moved_kind f k) d i (f s) e

  pub moved_kind : (List Part → List Part) → Kind → Kind
  moved_kind f (AnyOf bs) = AnyOf (moved_branches f bs)
  moved_kind f (OneOfMultipleValid bs) = OneOfMultipleValid (moved_branches f bs)
  moved_kind f (OneOfNotValid bs) = OneOfNotValid (moved_branches f bs)
  moved_kind f (PropertyNames x) = PropertyNames (moved_fault f x)
  moved_kind f k = k

  pub moved : (List Part → List Part) → Faults → Faults
  moved f none = none
  moved f (also x fs) = also (moved_fault f x) (moved f fs)

  pub moved_branches : (List Part → List Part) → Branches → Branches
  moved_branches f no_branch = no_branch
  moved_branches f (branch fs bs) = branch (moved f fs) (moved_branches f bs)

-- without their schema paths
abbrev pub unplaced : Faults → Faults
unplaced = moved (λ p. [])
