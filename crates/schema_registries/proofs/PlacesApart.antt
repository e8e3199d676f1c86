-- Paths that part, the last part of each first.
use Rattle.std.proofs.Common.{◌≡◌, ◌∙◌, ◌+◌, List, [], ◌∷◌, ◌++◌, length, sym, ap, append_assoc, length-append, arith}
use Rattle.std.proofs.lemmas.List.{append_cancel_right}
use Rattle.json_values.specs.Parts.{Part}

-- behind what two paths have in common their next parts differ
pub record Apart (p q : List Part) : Type 0 where
  pub common : List Part
  pub here : Part
  pub there : Part
  pub behind_here : List Part
  pub behind_there : List Part
  pub first : p ≡ behind_here ++ here ∷ common
  pub second : q ≡ behind_there ++ there ∷ common
  pub differ : here ≡ there → ⊥

-- the second lies below the first
pub record Below (p q : List Part) : Type 0 where
  pub next : Part
  pub more : List Part
  pub is : q ≡ more ++ next ∷ p

pub flipped : (p q : List Part) → Apart p q → Apart q p
flipped p q a = record {
  common = a.common;
  here = a.there;
  there = a.here;
  behind_here = a.behind_there;
  behind_there = a.behind_here;
  first = a.second;
  second = a.first;
  differ = λ e. a.differ (sym e);
}

-- what lies below one of two that part
pub second_below : (p q r : List Part) → Apart p q → Below q r → Apart p r
second_below p q r a b = record {
  common = a.common;
  here = a.here;
  there = a.there;
  behind_here = a.behind_here;
  behind_there = b.more ++ b.next ∷ a.behind_there;
  first = a.first;
  second = b.is ∙ ap (λ l. b.more ++ b.next ∷ l) a.second ∙ sym (append_assoc b.more (b.next ∷ a.behind_there) (a.there ∷ a.common));
  differ = a.differ;
}

pub first_below : (p q r : List Part) → Apart p q → Below p r → Apart r q
first_below p q r a b = flipped q r (second_below q p r (flipped p q a) b)

pub below_below : (p q r : List Part) → Below p q → Below q r → Below p r
below_below p q r a b = record {
  next = a.next;
  more = b.more ++ b.next ∷ a.more;
  is = b.is ∙ ap (λ l. b.more ++ b.next ∷ l) a.is ∙ sym (append_assoc b.more (b.next ∷ a.more) (a.next ∷ p));
}

pub not_itself : (p q : List Part) → Below p q → p ≡ q → ⊥
not_itself p q b e =
    let lengths : length q ≡ length b.more + length (b.next ∷ p) = ap length b.is ∙ length-append b.more (b.next ∷ p) in
    absurd (omega (arith, lengths, ap length e))

same_last : (xs ys : List Part) (x y : Part) → xs ++ x ∷ [] ≡ ys ++ y ∷ [] → x ≡ y
same_last [] [] x y e = cc
same_last [] (b ∷ []) x y e = absurd (let no : [] ≡ y ∷ [] = cc in cc)
same_last [] (b ∷ c ∷ ys) x y e = absurd (let no : [] ≡ c ∷ (ys ++ y ∷ []) = cc in cc)
same_last (a ∷ []) [] x y e = absurd (let no : x ∷ [] ≡ [] = cc in cc)
same_last (a ∷ c ∷ xs) [] x y e = absurd (let no : c ∷ (xs ++ x ∷ []) ≡ [] = cc in cc)
same_last (a ∷ xs) (b ∷ ys) x y e = same_last xs ys x y (let rest : xs ++ x ∷ [] ≡ ys ++ y ∷ [] = cc in rest)

pub not_same : (p q : List Part) → Apart p q → p ≡ q → ⊥
not_same p q a e =
    let whole : (a.behind_here ++ a.here ∷ []) ++ a.common ≡ (a.behind_there ++ a.there ∷ []) ++ a.common =
    append_assoc a.behind_here (a.here ∷ []) a.common ∙ sym a.first ∙ e ∙ a.second ∙ sym (append_assoc a.behind_there (a.there ∷ []) a.common) in
    a.differ (same_last a.behind_here a.behind_there a.here a.there (append_cancel_right (a.behind_here ++ a.here ∷ []) (a.behind_there ++ a.there ∷ []) a.common whole))
