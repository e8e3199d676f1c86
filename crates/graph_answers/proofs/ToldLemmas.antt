-- Single faults: one of some, of some whose schema paths moved, and of the same in another order.
use Rattle.std.proofs.Common.{◌≡◌, List, false, true≢false, Option, None, Some, refl, subst, ◌∙◌}
use Rattle.json_values.specs.Parts.{Part}
use Rattle.schema_meaning.specs.Faults.{Fault, fault, Faults, none, also, is_none, instance_path, evaluation_path, Told, told_first, told_later}
use Rattle.schema_meaning.specs.Order.{SameFault, same_fault, SameFaults, SameOrOut}
use Rattle.linked_meanings.specs.Moved.{moved_fault, moved}
use Rattle.linked_meanings.proofs.OrderLemmas.{order_tells_the_same}

pub one_told : (fs : Faults) → is_none fs ≡ false → (f : Fault) × Told f fs
one_told none e = absurd (true≢false e)
one_told (also f fs) e = (f, told_first)

-- its two paths
pub record HasPathsOf (f g : Fault) : Type 0 where
  pub instance : instance_path f ≡ instance_path g
  pub evaluation : evaluation_path f ≡ evaluation_path g

moved_has : (φ : List Part → List Part) (f : Fault) → HasPathsOf (moved_fault φ f) f
moved_has φ (fault k d i s e) = record { instance = refl; evaluation = refl }

same_has : (f g : Fault) → SameFault f g → HasPathsOf f g
same_has _ _ (same_fault h) = record { instance = refl; evaluation = refl }

moved_told : (φ : List Part → List Part) (fs : Faults) (f : Fault) → Told f (moved φ fs) → (g : Fault) × HasPathsOf f g × Told g fs
moved_told φ none f t = elim t [ ]
moved_told φ (also g fs) _ told_first = (g, moved_has φ g, told_first)
moved_told φ (also g fs) f (told_later t) = let found = moved_told φ fs f t in (found.0, found.1, told_later found.2)

-- a fault of some that are others with their schema paths moved, up to order
pub same_moved_told : (φ : List Part → List Part) (fs gs : Faults) → SameFaults fs (moved φ gs) → (f : Fault) → Told f fs → (g : Fault) × HasPathsOf f g × Told g gs
same_moved_told φ fs gs same f t =
    let a = (order_tells_the_same fs (moved φ gs) same).1 f t in
    let b = moved_told φ gs a.0 a.2 in
    let p = same_has f a.0 a.1 in
    (b.0, record { instance = p.instance ∙ b.1.instance; evaluation = p.evaluation ∙ b.1.evaluation }, b.2)

pub same_if_known : (o p : Option Faults) → SameOrOut o p → (fs : Faults) → o ≡ Some fs → (gs : Faults) × SameFaults fs gs × (p ≡ Some gs)
same_if_known None p h fs e = cc
same_if_known (Some x) None h fs e = absurd h
same_if_known (Some x) (Some y) h fs e = (y, subst (λ zs. SameFaults zs y) (some_same x fs e) h, refl)
  where
    some_same : (x y : Faults) → Some x ≡ Some y → x ≡ y
    some_same x y e = cc
