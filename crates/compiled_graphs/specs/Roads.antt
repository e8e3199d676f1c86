-- Roads through what schemas ask: the positions that are taken, which road is before another, and a walk that goes by them.
use Rattle.std.specs.Prelude.{◌≡◌, ◌⊎◌, ◌<◌, ℕ, List, [], ◌∷◌, ◌++◌, Some, length, slice_get}

-- the first position in which they differ is lower
abbrev pub IsLower : List ℕ → List ℕ → Type 0
IsLower [] q = ⊥
IsLower (i ∷ p) [] = ⊥
IsLower (i ∷ p) (j ∷ q) = (i < j) ⊎ ((i ≡ j) × IsLower p q)

-- a road is before those that are longer, and before those as long whose first position that differs is higher
abbrev pub IsBefore : List ℕ → List ℕ → Type 0
IsBefore p q = (length p < length q) ⊎ ((length p ≡ length q) × IsLower p q)

abbrev pub IsNotAfter : List ℕ → List ℕ → Type 0
IsNotAfter p q = IsBefore p q ⊎ (p ≡ q)

-- where a road goes: to a root, by its position among the roots, and on from a site to one that it asks, by its position among these
pub data GoesTo {S : Type 0} (asked : S → List S) (roots : List S) : List ℕ → S → Type 0 where
  to_root : (i : ℕ) (s : S) → slice_get roots i ≡ Some s → GoesTo asked roots (i ∷ []) s
  on_to : {p : List ℕ} (i : ℕ) (s t : S) → GoesTo asked roots p s → slice_get (asked s) i ≡ Some t → GoesTo asked roots (p ++ i ∷ []) t

-- ---- the roads of visits

-- each is before those behind it
abbrev pub Rise : List (List ℕ) → Type 0
Rise ps = (i j : ℕ) (p q : List ℕ) → i < j → slice_get ps i ≡ Some p → slice_get ps j ≡ Some q → IsBefore p q

abbrev pub AreBefore : List (List ℕ) → List ℕ → Type 0
AreBefore ps q = (i : ℕ) (p : List ℕ) → slice_get ps i ≡ Some p → IsBefore p q

module _ {S V : Type 0} (asked : S → List S) (roots : List S) (Met : V → S → Type 0) where
  -- a road goes to a site for which a visit stands
  pub record IsAlong (v : V) (p : List ℕ) : Type 0 where
    pub site : S
    pub met : Met v site
    pub goes : GoesTo asked roots p site

  abbrev pub AreAlong : List V → List (List ℕ) → Type 0
  AreAlong vs ps = (i : ℕ) (v : V) (p : List ℕ) → slice_get vs i ≡ Some v → slice_get ps i ≡ Some p → IsAlong v p

  -- a site is visited by a road that is not after another
  pub record IsTaken (vs : List V) (ps : List (List ℕ)) (t : S) (q : List ℕ) : Type 0 where
    pub position : ℕ
    pub visit : V
    pub there : slice_get vs position ≡ Some visit
    pub met : Met visit t
    pub road : List ℕ
    pub is : slice_get ps position ≡ Some road
    pub early : IsNotAfter road q

  -- what a visit at a position asks is visited, each by a road that is not after the one through that visit
  abbrev pub AsksTaken : List V → List (List ℕ) → ℕ → Type 0
  AsksTaken vs ps i =
      (v : V) (p : List ℕ) → slice_get vs i ≡ Some v → slice_get ps i ≡ Some p → (s : S) → Met v s → (k : ℕ) (t : S) → slice_get (asked s) k ≡ Some t → IsTaken vs ps t (p ++ k ∷ [])

  -- a road for each of some visits, in their order, of which the first ones are read
  pub record AreRoads (vs : List V) (next : ℕ) (ps : List (List ℕ)) : Type 0 where
    pub count : length ps ≡ length vs
    pub rise : Rise ps
    pub ahead : (p : List ℕ) → slice_get ps next ≡ Some p → AreBefore ps (p ++ 0 ∷ [])
    pub along : AreAlong vs ps
    pub taken : (i : ℕ) → i < next → AsksTaken vs ps i
    pub begins : (i : ℕ) (r : S) → slice_get roots i ≡ Some r → IsTaken vs ps r (i ∷ [])
