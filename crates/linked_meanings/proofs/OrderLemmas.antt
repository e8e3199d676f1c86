-- Equality but for order is an equivalence, and joining keeps it.
use Rattle.std.proofs.Common.{◌≡◌, refl, ap, ◌∙◌, subst}
use Rattle.schema_meaning.specs.Faults.{Fault, fault, Kind, Faults, none, also, joined, is_none, Branches, no_branch, branch, Told, told_first, told_later}
use Rattle.linked_meanings.specs.Laws.{OrderIsEquivalence, OrderTellsTheSame}
use Rattle.schema_meaning.specs.Order.{SameFault, same_fault, SameKind, same_kind, same_any_of, same_one_of_none, same_one_of_many, same_names, SameFaults, same_none, same_also, swapped, by_way_of, SameBranches, same_no_branch, same_branch}

pub fault_refl : (f : Fault) → SameFault f f
fault_refl (fault k d i s e) = same_fault same_kind

pub faults_refl : (fs : Faults) → SameFaults fs fs
faults_refl none = same_none
faults_refl (also f fs) = same_also (fault_refl f) (faults_refl fs)

pub branches_refl : (bs : Branches) → SameBranches bs bs
branches_refl no_branch = same_no_branch
branches_refl (branch fs bs) = same_branch (faults_refl fs) (branches_refl bs)

mutual
  pub fault_sym : {f g : Fault} → SameFault f g → SameFault g f
  fault_sym (same_fault k) = same_fault (kind_sym k)

  pub kind_sym : {k l : Kind} → SameKind k l → SameKind l k
  kind_sym same_kind = same_kind
  kind_sym (same_any_of b) = same_any_of (branches_sym b)
  kind_sym (same_one_of_none b) = same_one_of_none (branches_sym b)
  kind_sym (same_one_of_many b) = same_one_of_many (branches_sym b)
  kind_sym (same_names f) = same_names (fault_sym f)

  pub faults_sym : {fs gs : Faults} → SameFaults fs gs → SameFaults gs fs
  faults_sym same_none = same_none
  faults_sym (same_also f r) = same_also (fault_sym f) (faults_sym r)
  faults_sym swapped = swapped
  faults_sym (by_way_of r s) = by_way_of (faults_sym s) (faults_sym r)

  pub branches_sym : {bs cs : Branches} → SameBranches bs cs → SameBranches cs bs
  branches_sym same_no_branch = same_no_branch
  branches_sym (same_branch r b) = same_branch (faults_sym r) (branches_sym b)

mutual
  pub fault_trans : {f g h : Fault} → SameFault f g → SameFault g h → SameFault f h
  fault_trans (same_fault a) (same_fault b) = same_fault (kind_trans a b)

  kind_trans : {k l m : Kind} → SameKind k l → SameKind l m → SameKind k m
  kind_trans same_kind b = b
  kind_trans (same_any_of a) same_kind = same_any_of a
  kind_trans (same_any_of a) (same_any_of b) = same_any_of (branches_trans a b)
  kind_trans (same_one_of_none a) same_kind = same_one_of_none a
  kind_trans (same_one_of_none a) (same_one_of_none b) = same_one_of_none (branches_trans a b)
  kind_trans (same_one_of_many a) same_kind = same_one_of_many a
  kind_trans (same_one_of_many a) (same_one_of_many b) = same_one_of_many (branches_trans a b)
  kind_trans (same_names a) same_kind = same_names a
  kind_trans (same_names a) (same_names b) = same_names (fault_trans a b)

  branches_trans : {bs cs ds : Branches} → SameBranches bs cs → SameBranches cs ds → SameBranches bs ds
  branches_trans same_no_branch same_no_branch = same_no_branch
  branches_trans (same_branch f a) (same_branch g b) = same_branch (by_way_of f g) (branches_trans a b)

pub faults_same : {fs gs : Faults} → fs ≡ gs → SameFaults fs gs
faults_same {fs} e = subst (SameFaults fs) e (faults_refl fs)

joined_left : {fs gs : Faults} (hs : Faults) → SameFaults fs gs → SameFaults (joined fs hs) (joined gs hs)
joined_left hs same_none = faults_refl hs
joined_left hs (same_also f r) = same_also f (joined_left hs r)
joined_left hs swapped = swapped
joined_left hs (by_way_of r s) = by_way_of (joined_left hs r) (joined_left hs s)

joined_right : (fs : Faults) {gs hs : Faults} → SameFaults gs hs → SameFaults (joined fs gs) (joined fs hs)
joined_right none r = r
joined_right (also f fs) r = same_also (fault_refl f) (joined_right fs r)

pub joined_same : {fs gs hs is : Faults} → SameFaults fs gs → SameFaults hs is → SameFaults (joined fs hs) (joined gs is)
joined_same {fs} {gs} {hs} {is} r s = by_way_of (joined_left hs r) (joined_right gs s)

joined-assoc : (fs gs hs : Faults) → joined (joined fs gs) hs ≡ joined fs (joined gs hs)
joined-assoc none gs hs = refl
joined-assoc (also f fs) gs hs = ap (also f) (joined-assoc fs gs hs)

joined-none : (fs : Faults) → joined fs none ≡ fs
joined-none none = refl
joined-none (also f fs) = ap (also f) (joined-none fs)

-- one fault moved behind others
moved : (f : Fault) (fs gs : Faults) → SameFaults (also f (joined fs gs)) (joined fs (also f gs))
moved f none gs = faults_refl (also f gs)
moved f (also g fs) gs = by_way_of swapped (same_also (fault_refl g) (moved f fs gs))

pub joined_swap : (fs gs hs : Faults) → SameFaults (joined fs (joined gs hs)) (joined gs (joined fs hs))
joined_swap none gs hs = faults_refl (joined gs hs)
joined_swap (also f fs) gs hs = by_way_of (same_also (fault_refl f) (joined_swap fs gs hs)) (moved f gs (joined fs hs))

-- none stands beside none alone
pub none_same : {fs gs : Faults} → SameFaults fs gs → is_none fs ≡ is_none gs
none_same same_none = refl
none_same (same_also f r) = refl
none_same swapped = refl
none_same (by_way_of r s) = none_same r ∙ none_same s

-- ---- what is told

same_told : (fs gs : Faults) → SameFaults fs gs → (f : Fault) → Told f fs → (g : Fault) × SameFault f g × Told g gs
same_told fs gs same_none f t = elim t [ ]
same_told fs gs (same_also {f = a} {g = b} {fs = us} {gs = vs} h r) f told_first = (b, h, told_first)
same_told fs gs (same_also {f = a} {g = b} {fs = us} {gs = vs} h r) f (told_later t) = let x = same_told us vs r f t in (x.0, x.1, told_later x.2)
same_told fs gs swapped f told_first = (f, fault_refl f, told_later told_first)
same_told fs gs swapped f (told_later told_first) = (f, fault_refl f, told_first)
same_told fs gs swapped f (told_later (told_later t)) = (f, fault_refl f, told_later (told_later t))
same_told fs gs (by_way_of {gs = hs} r s) f t =
    let a = same_told fs hs r f t in
    let b = same_told hs gs s a.0 a.2 in (b.0, fault_trans a.1 b.1, b.2)

pub order_is_equivalence : OrderIsEquivalence
order_is_equivalence = (faults_refl, λ fs gs h. faults_sym h, λ fs gs hs p q. by_way_of p q)

pub order_tells_the_same : OrderTellsTheSame
order_tells_the_same fs gs h = (none_same h, same_told fs gs h)
