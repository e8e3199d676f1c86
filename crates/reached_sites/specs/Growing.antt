-- How a list of visits grows by one: it is put behind, unless it is among them.
use Rattle.std.specs.Prelude.{◌≡◌, ◌⊎◌, ℕ, List, [], ◌∷◌, ◌++◌, Some, slice_get}
use Rattle.reached_sites.specs.Visits.{Known, Repeats}
use Rattle.reached_sites.specs.declared.visit.Visit.{Visit}

-- one visit is put behind others, or is among them
abbrev pub AddsOne : List Visit → List Visit → Visit → Type 0
AddsOne old new lead = (new ≡ old ++ lead ∷ []) ⊎ ((new ≡ old) × Known old lead)

-- at a position stands a visit, or one that is the same
abbrev pub StandsAt : List Visit → ℕ → Visit → Type 0
StandsAt vs i w = (v : Visit) × (slice_get vs i ≡ Some v) × ((v ≡ w) ⊎ Repeats v w)
