-- Which of several causes is told: the first in the order of the walk.
use Rattle.std.specs.Prelude.{◌≡◌, ◌⊎◌, ℕ, List, [], ◌∷◌, Bool, length}
use Rattle.schema_definitions.specs.Bearers.{Document}
use Rattle.schema_definitions.specs.Rows as rows
use Rattle.schema_definitions.specs.Sites.{Site}
use Rattle.reached_sites.specs.Causes.{NamesCause, IsExceeded}
use Rattle.reached_sites.specs.Visits.{Met}
use Rattle.reached_sites.specs.declared.cause.BuildCause as refused
use Rattle.reached_sites.specs.declared.cause.BuildCause.TheVariants.{Memory}
use Rattle.compiled_graphs.specs.Graphs.{asked_from, wrong_at}
use Rattle.compiled_graphs.specs.Read.{IsOfFirst}
use Rattle.compiled_graphs.specs.Roads.{IsBefore, GoesTo, AreRoads}
use Rattle.compiled_graphs.specs.Told.{causes_apart}
use Rattle.compiled_graphs.specs.declared.walk.Walk.{Walk}

module _ (own : List Document) (makes : List ℕ → Bool) where
  -- nothing is wrong where the roads before one go
  abbrev pub IsRightBefore : List Site → List ℕ → Type 0
  IsRightBefore roots road = (q : List ℕ) (t : Site) → IsBefore q road → GoesTo (asked_from own makes) roots q t → wrong_at own makes t ≡ []

  -- a cause at what is reached, where nothing is wrong before; it is one of the first there that has any: the identifier, or a member
  pub record IsFirstCause (roots : List Site) (e : refused.BuildCause) : Type 0 where
    pub road : List ℕ
    pub site : Site
    pub goes : GoesTo (asked_from own makes) roots road site
    pub cause : rows.BuildCause
    pub named : NamesCause cause e
    pub first : IsOfFirst cause (causes_apart own makes site)
    pub before : IsRightBefore roots road

-- a walk has come by what it visits in the order of the roads that go there
abbrev pub IsInOrder : {M : Type 0} → List Document → (List ℕ → Bool) → List Site → Walk M → Type 0
IsInOrder own makes roots w = (ps : List (List ℕ)) × AreRoads (asked_from own makes) roots Met w.visits.list.items (length w.nodes.items) ps

-- a refusal of a root: more compile keys than a limit, want of memory, or the first cause
abbrev pub RefusesFirst : List Document → (List ℕ → Bool) → Site → ℕ → refused.BuildCause → Type 0
RefusesFirst own makes root limit e = IsExceeded own makes root limit e ⊎ ((e ≡ Memory) ⊎ IsFirstCause own makes (root ∷ []) e)
