-- Visits that are put behind others, with the edges that lead to them.
use Rattle.std.specs.Prelude.{◌≡◌, ◌⊎◌, ℕ, List, [], ◌∷◌, ◌++◌}
use Rattle.schema_meaning.specs.Members.{In}
use Rattle.marked_nodes.specs.declared.graph.Edge.{Edge}
use Rattle.reached_sites.specs.Growing.{AddsOne, StandsAt}
use Rattle.reached_sites.specs.declared.visit.Visit.{Visit}

abbrev pub edge : ℕ → ℕ → Edge
edge i j = record { from = i; to = j }

-- what is put behind others
pub record Extends (old new leads : List Visit) : Type 0 where
  pub added : List Visit
  pub grown : new ≡ old ++ added
  pub led_to : (v : Visit) → In v added → In v leads

-- each of some visits in turn is put behind others, unless it is among them
pub data PutsEach : List Visit → List Visit → List Visit → Type 0 where
  none : {vs : List Visit} → PutsEach vs vs []
  one : {old next new leads : List Visit} (lead : Visit) → AddsOne old next lead → PutsEach next new leads → PutsEach old new (lead ∷ leads)

-- a visit stands at the end of an edge from a position
pub record IsLinked (i : ℕ) (vs : List Visit) (edges : List Edge) (v : Visit) : Type 0 where
  pub position : ℕ
  pub stands : StandsAt vs position v
  pub linked : In (edge i position) edges

-- an edge from a position leads to one of some visits
pub record LeadsOn (i : ℕ) (vs leads : List Visit) (e : Edge) : Type 0 where
  pub from : e.from ≡ i
  pub visit : Visit
  pub listed : In visit leads
  pub stands : StandsAt vs e.to visit

-- each of some visits stands at the end of an edge from a position, and each edge that is new leads to one
pub record Links (i : ℕ) (old new leads : List Visit) (before after : List Edge) : Type 0 where
  pub extends : Extends old new leads
  pub puts : PutsEach old new leads
  pub kept : (e : Edge) → In e before → In e after
  pub there : (v : Visit) → In v leads → IsLinked i new after v
  pub new_ones : (e : Edge) → In e after → In e before ⊎ LeadsOn i new leads e

-- a visit stands at the end of an edge from a position, or one that is the same
abbrev pub StandsFor : ℕ → List Visit → List Edge → Visit → ℕ → Type 0
StandsFor i vs edges v n = StandsAt vs n v × In (edge i n) edges
