-- What a walk from some roots leaves.
use Rattle.std.specs.Prelude.{◌≡◌, ◌⊎◌, ◌<◌, ◌≤◌, ℕ, List, [], Bool, true, Option, Some, None, IfSome, length, slice_get}
use Rattle.std.specs.List.{list_all}
use Rattle.schema_definitions.specs.Bearers.{Document}
use Rattle.schema_definitions.specs.BuildCauses.{IsCauseOf}
use Rattle.schema_definitions.specs.Rows as rows
use Rattle.schema_definitions.specs.Lookup.{Target}
use Rattle.schema_definitions.specs.Sites.{Site}
use Rattle.schema_meaning.specs.Members.{In}
use Rattle.document_laws.specs.TargetLaws.{are_apart, contents_rise, IsTarget}
use Rattle.schema_patterns.specs.Makers.{Patterns}
use Rattle.schema_registries.specs.Roots.{site_behind}
use Rattle.schema_patterns.specs.Tables.{entries_of, texts_of_table}
use Rattle.schema_patterns.specs.declared.table.PatternTable.{PatternTable}
use Rattle.reached_sites.specs.Causes.{NamesCause}
use Rattle.reached_sites.specs.Patterns.{written, IsFilled, Holds}
use Rattle.reached_sites.specs.Visits.{Met}
use Rattle.reached_sites.specs.declared.cause.BuildCause as refused
use Rattle.reached_sites.specs.declared.cause.BuildCause.TheVariants.{Memory}
use Rattle.reached_sites.specs.declared.visit.Visit.{Visit}
use Rattle.compiled_graphs.specs.Causes.{AreExceeded}
use Rattle.compiled_graphs.specs.Filled.{HasNodes}
use Rattle.compiled_graphs.specs.Graphs.{IsGraph}
use Rattle.compiled_graphs.specs.First.{IsFirstCause, IsInOrder}
use Rattle.compiled_graphs.specs.declared.walk.AtCause.{AtCause}
use Rattle.compiled_graphs.specs.declared.walk.AtCause.TheVariants.{Stop, GoOn}
use Rattle.compiled_graphs.specs.declared.walk.Walk.{Walk}

-- documents that can be told apart, and roots that references into them lead to, behind whatever resources
pub record ArePlaced (own : List Document) (roots : List Site) : Type 0 where
  pub apart : are_apart own ≡ true
  pub rise : list_all contents_rise own ≡ true
  pub targets : (r : Site) → In r roots → (before : List (List ℕ)) × (t : Target) × IsTarget own t × (r ≡ site_behind before t)

-- a table has what the schemas of the first ones write, save those at which something is wrong
abbrev pub Notes : {M : Type 0} → PatternTable M → List Visit → List ℕ → ℕ → Type 0
Notes table vs wrong next = (i : ℕ) → i < next → (In i wrong → ⊥) → (v : Visit) → slice_get vs i ≡ Some v → (s : Site) → Met v s → Holds table (written s)

-- all that is known in a walk, where the first visits have their nodes
pub record Walks {M : Type 0} (finds : M → List ℕ → Option Bool) (p : Patterns) (own : List Document) (roots : List Site) (w : Walk M) : Type 0 where
  pub graph : IsGraph own p.makes roots w.visits.list.items w.edges.items w.wrong.items (length w.nodes.items)
  pub filled : IsFilled finds p.finished p.makes w.table
  pub noted : Notes w.table w.visits.list.items w.wrong.items (length w.nodes.items)
  pub nodes : HasNodes own p.makes w.visits.list.items w.edges.items w.wrong.items (texts_of_table w.table) w.nodes.items

-- a cause that stands at what is reached from one of the roots
pub record IsFromOne (own : List Document) (makes : List ℕ → Bool) (roots : List Site) (e : refused.BuildCause) : Type 0 where
  pub root : Site
  pub listed : In root roots
  pub cause : rows.BuildCause
  pub named : NamesCause cause e
  pub stands : IsCauseOf own makes root cause

-- one node is filled, and the first cause there is answered
pub record Fills {M : Type 0} (finds : M → List ℕ → Option Bool) (p : Patterns) (own : List Document) (roots : List Site) (old new : Walk M) (cause : Option refused.BuildCause) : Type 0 where
  pub walks : Walks finds p own roots old → Walks finds p own roots new
  pub wrong : Walks finds p own roots old → IfSome cause (IsFromOne own p.makes roots)
  pub right : cause ≡ None → new.wrong.items ≡ old.wrong.items
  pub orders : Walks finds p own roots old → IsInOrder own p.makes roots old → IsInOrder own p.makes roots new
  pub first : Walks finds p own roots old → IsInOrder own p.makes roots old → old.wrong.items ≡ [] → IfSome cause (IsFirstCause own p.makes roots)

-- whether a walk may go on behind what was found
abbrev pub MayGoOn : AtCause → Option refused.BuildCause → Type 0
MayGoOn Stop cause = cause ≡ None
MayGoOn GoOn cause = Unit {0}

-- a walk ends at a cause
pub record IsStopped (at_cause : AtCause) (cause : Option refused.BuildCause) (e : refused.BuildCause) : Type 0 where
  pub stops : at_cause ≡ Stop
  pub is : cause ≡ Some e

-- nothing is read yet
pub record IsBegun {M : Type 0} (w : Walk M) (visits : List Visit) : Type 0 where
  pub visits_are : w.visits.list.items ≡ visits
  pub nodes : w.nodes.items ≡ []
  pub edges : w.edges.items ≡ []
  pub wrong : w.wrong.items ≡ []
  pub table : entries_of w.table ≡ []

-- nothing is wrong where a walk stops at causes
abbrev pub NoneWrong : AtCause → List ℕ → Type 0
NoneWrong Stop wrong = wrong ≡ []
NoneWrong GoOn wrong = Unit {0}

-- all that is reached has its node, and no more of it than a limit
pub record IsWalked {M : Type 0} (finds : M → List ℕ → Option Bool) (p : Patterns) (own : List Document) (roots : List Site) (limit : ℕ) (at_cause : AtCause) (w : Walk M) : Type 0 where
  pub walks : Walks finds p own roots w
  pub all : length w.visits.list.items ≤ length w.nodes.items
  pub few : length w.visits.list.items ≤ limit
  pub right : NoneWrong at_cause w.wrong.items

abbrev pub StopsAt : AtCause → (List ℕ → Bool) → List Document → List Site → refused.BuildCause → Type 0
StopsAt Stop makes own roots e = IsFromOne own makes roots e
StopsAt GoOn makes own roots e = ⊥

abbrev pub RefusesWalk : (List ℕ → Bool) → List Document → List Site → ℕ → AtCause → refused.BuildCause → Type 0
RefusesWalk makes own roots limit at_cause e = AreExceeded own makes roots limit e ⊎ (StopsAt at_cause makes own roots e ⊎ (e ≡ Memory))

-- the same of a walk that has come by what it visits in the order of the roads that go there: of its causes the first
abbrev pub RefusesInOrder : (List ℕ → Bool) → List Document → List Site → ℕ → refused.BuildCause → Type 0
RefusesInOrder makes own roots limit e = AreExceeded own makes roots limit e ⊎ ((e ≡ Memory) ⊎ IsFirstCause own makes roots e)
