-- Faults that are equal but for their order, and whose schema paths stand in a relation: equal ones, or any.
use Rattle.std.proofs.Common.{◌≡◌, List, [], Option, Some, None, option_map, refl, ◌∙◌, subst}
use Rattle.serde_json.specs.Data.{Data}
use Rattle.json_values.specs.Parts.{Part}
use Rattle.schema_meaning.specs.Faults.{Fault, fault, Kind, AnyOf, OneOfMultipleValid, OneOfNotValid, PropertyNames, Faults, none, also, joined, is_none, Branches, no_branch, branch}
use Rattle.schema_meaning.specs.Order.{SameFault, same_fault, SameKind, same_kind, same_any_of, same_one_of_none, same_one_of_many, same_names, SameFaults, same_none, same_also, swapped, by_way_of, SameBranches, same_no_branch, same_branch, SameOrOut}
use Rattle.linked_meanings.specs.Moved.{moved_fault, moved_kind, moved_branches, unplaced}
use Rattle.linked_meanings.proofs.Alike.{Alike}

mutual
  pub data NearFault (beside : List Part → List Part → Type 0) : Fault → Fault → Type 0 where
    near_fault : {k l : Kind} {d : Data} {i s z e : List Part} → NearKind beside k l → beside s z → NearFault beside (fault k d i s e) (fault l d i z e)

  pub data NearKind (beside : List Part → List Part → Type 0) : Kind → Kind → Type 0 where
    near_kind : {k : Kind} → NearKind beside k k
    near_any_of : {bs cs : Branches} → NearBranches beside bs cs → NearKind beside (AnyOf bs) (AnyOf cs)
    near_one_of_none : {bs cs : Branches} → NearBranches beside bs cs → NearKind beside (OneOfNotValid bs) (OneOfNotValid cs)
    near_one_of_many : {bs cs : Branches} → NearBranches beside bs cs → NearKind beside (OneOfMultipleValid bs) (OneOfMultipleValid cs)
    near_names : {f g : Fault} → NearFault beside f g → NearKind beside (PropertyNames f) (PropertyNames g)

  pub data NearFaults (beside : List Part → List Part → Type 0) : Faults → Faults → Type 0 where
    near_none : NearFaults beside none none
    near_also : {f g : Fault} {fs gs : Faults} → NearFault beside f g → NearFaults beside fs gs → NearFaults beside (also f fs) (also g gs)
    near_swapped : {f g : Fault} {fs : Faults} → NearFaults beside (also f (also g fs)) (also g (also f fs))
    near_by_way_of : {fs gs hs : Faults} → NearFaults beside fs gs → NearFaults beside gs hs → NearFaults beside fs hs

  pub data NearBranches (beside : List Part → List Part → Type 0) : Branches → Branches → Type 0 where
    near_no_branch : NearBranches beside no_branch no_branch
    near_branch : {fs gs : Faults} {bs cs : Branches} → NearFaults beside fs gs → NearBranches beside bs cs → NearBranches beside (branch fs bs) (branch gs cs)

-- ---- joining keeps it

module _ (beside : List Part → List Part → Type 0) (itself : (p : List Part) → beside p p) where
  fault_near : (f : Fault) → NearFault beside f f
  fault_near (fault k d i s e) = near_fault near_kind (itself s)

  pub faults_near : (fs : Faults) → NearFaults beside fs fs
  faults_near none = near_none
  faults_near (also f fs) = near_also (fault_near f) (faults_near fs)

  joined_left : {fs gs : Faults} (hs : Faults) → NearFaults beside fs gs → NearFaults beside (joined fs hs) (joined gs hs)
  joined_left hs near_none = faults_near hs
  joined_left hs (near_also f r) = near_also f (joined_left hs r)
  joined_left hs near_swapped = near_swapped
  joined_left hs (near_by_way_of r s) = near_by_way_of (joined_left hs r) (joined_left hs s)

  joined_right : (fs : Faults) {gs hs : Faults} → NearFaults beside gs hs → NearFaults beside (joined fs gs) (joined fs hs)
  joined_right none r = r
  joined_right (also f fs) r = near_also (fault_near f) (joined_right fs r)

  pub joined_near : {fs gs hs is : Faults} → NearFaults beside fs gs → NearFaults beside hs is → NearFaults beside (joined fs hs) (joined gs is)
  joined_near {fs} {gs} {hs} {is} r s = near_by_way_of (joined_left hs r) (joined_right gs s)

  -- one fault moved behind others
  moved : (f : Fault) (fs gs : Faults) → NearFaults beside (also f (joined fs gs)) (joined fs (also f gs))
  moved f none gs = faults_near (also f gs)
  moved f (also g fs) gs = near_by_way_of near_swapped (near_also (fault_near g) (moved f fs gs))

  pub joined_swap : (fs gs hs : Faults) → NearFaults beside (joined fs (joined gs hs)) (joined gs (joined fs hs))
  joined_swap none gs hs = faults_near (joined gs hs)
  joined_swap (also f fs) gs hs = near_by_way_of (near_also (fault_near f) (joined_swap fs gs hs)) (moved f gs (joined fs hs))

-- none stands beside none alone
pub none_near : (beside : List Part → List Part → Type 0) {fs gs : Faults} → NearFaults beside fs gs → is_none fs ≡ is_none gs
none_near beside near_none = refl
none_near beside (near_also f r) = refl
none_near beside near_swapped = refl
none_near beside (near_by_way_of r s) = none_near beside r ∙ none_near beside s

-- ---- equal schema paths: the same faults up to order

mutual
  fault_same : {f g : Fault} → NearFault (λ p q. p ≡ q) f g → SameFault f g
  fault_same (near_fault {k} {l} {d} {i} {s} {z} {e} h p) = subst (λ q. SameFault (fault k d i s e) (fault l d i q e)) p (same_fault (kind_same h))

  kind_same : {k l : Kind} → NearKind (λ p q. p ≡ q) k l → SameKind k l
  kind_same near_kind = same_kind
  kind_same (near_any_of b) = same_any_of (branches_same b)
  kind_same (near_one_of_none b) = same_one_of_none (branches_same b)
  kind_same (near_one_of_many b) = same_one_of_many (branches_same b)
  kind_same (near_names f) = same_names (fault_same f)

  pub faults_same : {fs gs : Faults} → NearFaults (λ p q. p ≡ q) fs gs → SameFaults fs gs
  faults_same near_none = same_none
  faults_same (near_also f r) = same_also (fault_same f) (faults_same r)
  faults_same near_swapped = swapped
  faults_same (near_by_way_of r s) = by_way_of (faults_same r) (faults_same s)

  branches_same : {bs cs : Branches} → NearBranches (λ p q. p ≡ q) bs cs → SameBranches bs cs
  branches_same near_no_branch = same_no_branch
  branches_same (near_branch r b) = same_branch (faults_same r) (branches_same b)

pub same_or_out : (o p : Option Faults) → Alike (NearFaults (λ p q. p ≡ q)) o p → SameOrOut o p
same_or_out None None h = tt
same_or_out None (Some y) h = absurd h
same_or_out (Some x) None h = absurd h
same_or_out (Some x) (Some y) h = faults_same h

-- ---- any schema paths: the same faults but for them, up to order

mutual
  unplaced_fault_same : {f g : Fault} → NearFault (λ p q. Unit {0}) f g → SameFault (moved_fault (λ p. []) f) (moved_fault (λ p. []) g)
  unplaced_fault_same (near_fault h p) = same_fault (unplaced_kind_same h)

  unplaced_kind_same : {k l : Kind} → NearKind (λ p q. Unit {0}) k l → SameKind (moved_kind (λ p. []) k) (moved_kind (λ p. []) l)
  unplaced_kind_same near_kind = same_kind
  unplaced_kind_same (near_any_of b) = same_any_of (unplaced_branches_same b)
  unplaced_kind_same (near_one_of_none b) = same_one_of_none (unplaced_branches_same b)
  unplaced_kind_same (near_one_of_many b) = same_one_of_many (unplaced_branches_same b)
  unplaced_kind_same (near_names f) = same_names (unplaced_fault_same f)

  unplaced_same : {fs gs : Faults} → NearFaults (λ p q. Unit {0}) fs gs → SameFaults (unplaced fs) (unplaced gs)
  unplaced_same near_none = same_none
  unplaced_same (near_also f r) = same_also (unplaced_fault_same f) (unplaced_same r)
  unplaced_same near_swapped = swapped
  unplaced_same (near_by_way_of r s) = by_way_of (unplaced_same r) (unplaced_same s)

  unplaced_branches_same : {bs cs : Branches} → NearBranches (λ p q. Unit {0}) bs cs → SameBranches (moved_branches (λ p. []) bs) (moved_branches (λ p. []) cs)
  unplaced_branches_same near_no_branch = same_no_branch
  unplaced_branches_same (near_branch r b) = same_branch (unplaced_same r) (unplaced_branches_same b)

pub unplaced_or_out : (o p : Option Faults) → Alike (NearFaults (λ p q. Unit {0})) o p → SameOrOut (option_map unplaced o) (option_map unplaced p)
unplaced_or_out None None h = tt
unplaced_or_out None (Some y) h = absurd h
unplaced_or_out (Some x) None h = absurd h
unplaced_or_out (Some x) (Some y) h = unplaced_same h
