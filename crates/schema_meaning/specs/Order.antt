-- Faults that are equal but for their order, at every level: branches stand in their order, the faults within each in any.
use Rattle.std.specs.Prelude.{List, Option, Some, None}
use Rattle.serde_json.specs.Data.{Data}
use Rattle.json_values.specs.Parts.{Part}
use Rattle.schema_meaning.specs.Faults.{Fault, fault, Kind, AnyOf, OneOfMultipleValid, OneOfNotValid, PropertyNames, Faults, none, also, Branches, no_branch, branch}

mutual
  pub data SameFault : Fault → Fault → Type 0 where
    same_fault : {k l : Kind} {d : Data} {i s e : List Part} → SameKind k l → SameFault (fault k d i s e) (fault l d i s e)

  pub data SameKind : Kind → Kind → Type 0 where
    same_kind : {k : Kind} → SameKind k k
    same_any_of : {bs cs : Branches} → SameBranches bs cs → SameKind (AnyOf bs) (AnyOf cs)
    same_one_of_none : {bs cs : Branches} → SameBranches bs cs → SameKind (OneOfNotValid bs) (OneOfNotValid cs)
    same_one_of_many : {bs cs : Branches} → SameBranches bs cs → SameKind (OneOfMultipleValid bs) (OneOfMultipleValid cs)
    same_names : {f g : Fault} → SameFault f g → SameKind (PropertyNames f) (PropertyNames g)

  pub data SameFaults : Faults → Faults → Type 0 where
    same_none : SameFaults none none
    same_also : {f g : Fault} {fs gs : Faults} → SameFault f g → SameFaults fs gs → SameFaults (also f fs) (also g gs)
    swapped : {f g : Fault} {fs : Faults} → SameFaults (also f (also g fs)) (also g (also f fs))
    by_way_of : {fs gs hs : Faults} → SameFaults fs gs → SameFaults gs hs → SameFaults fs hs

  pub data SameBranches : Branches → Branches → Type 0 where
    same_no_branch : SameBranches no_branch no_branch
    same_branch : {fs gs : Faults} {bs cs : Branches} → SameFaults fs gs → SameBranches bs cs → SameBranches (branch fs bs) (branch gs cs)

-- both out of unfoldings, or both decided with the same faults
abbrev pub SameOrOut : Option Faults → Option Faults → Type 0
SameOrOut None None = Unit {0}
SameOrOut None (Some gs) = ⊥
SameOrOut (Some fs) None = ⊥
SameOrOut (Some fs) (Some gs) = SameFaults fs gs
