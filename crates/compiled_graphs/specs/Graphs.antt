-- The visits that are reached from some roots, as a graph.
use Rattle.std.specs.Prelude.{◌≡◌, ◌<◌, ℕ, List, [], Bool, true, false, Some, slice_get}
use Rattle.schema_definitions.specs.Bearers.{Document}
use Rattle.schema_meaning.specs.Members.{In}
use Rattle.schema_definitions.specs.BuildCauses.{Reached, causes_at}
use Rattle.schema_definitions.specs.Rows.{BuildCause, rows_at}
use Rattle.schema_definitions.specs.Sites.{Site}
use Rattle.marked_nodes.specs.declared.graph.Edge.{Edge}
use Rattle.reached_sites.specs.Led.{leads_in}
use Rattle.reached_sites.specs.Visits.{Met, Belongs}
use Rattle.reached_sites.specs.declared.visit.Visit.{Visit}
use Rattle.compiled_graphs.specs.Asked.{asked_in}
use Rattle.compiled_graphs.specs.Linked.{edge}

-- a site that is visited at a position
pub record IsVisited (vs : List Visit) (i : ℕ) (s : Site) : Type 0 where
  pub visit : Visit
  pub there : slice_get vs i ≡ Some visit
  pub met : Met visit s

module _ (own : List Document) (makes : List ℕ → Bool) where
  abbrev pub led_from : Site → List Site
  led_from s = leads_in (rows_at own makes s)

  -- the sites that are asked there, in the order in which a walk goes on to them
  abbrev pub asked_from : Site → List Site
  asked_from s = asked_in (rows_at own makes s)

  abbrev pub wrong_at : Site → List BuildCause
  wrong_at s = causes_at own makes s

  -- a visit of a site that is reached from one of the roots
  pub record IsReachedFrom (roots : List Site) (v : Visit) : Type 0 where
    pub site : Site
    pub met : Met v site
    pub root : Site
    pub listed : In root roots
    pub reached : Reached own makes root site

  -- a site leads to one that is visited at a position
  pub record LeadsToVisit (vs : List Visit) (j : ℕ) (s : Site) : Type 0 where
    pub site : Site
    pub led : In site (led_from s)
    pub visited : IsVisited vs j site

  -- an edge leads from a schema to one that it leads to
  pub record IsEdge (vs : List Visit) (e : Edge) : Type 0 where
    pub visit : Visit
    pub there : slice_get vs e.from ≡ Some visit
    pub leads : (s : Site) → Met visit s → LeadsToVisit vs e.to s
    pub within : (w : Visit) × (slice_get vs e.to ≡ Some w)

  -- a site is visited at the end of an edge from a position
  pub record IsReachedBy (vs : List Visit) (edges : List Edge) (i : ℕ) (t : Site) : Type 0 where
    pub position : ℕ
    pub visited : IsVisited vs position t
    pub linked : In (edge i position) edges

  -- an edge leads to each schema that one leads to, and it has no cause of its own unless its position is among the wrong ones
  pub record IsRead (vs : List Visit) (edges : List Edge) (wrong : List ℕ) (i : ℕ) (s : Site) : Type 0 where
    pub led : (t : Site) → In t (led_from s) → IsReachedBy vs edges i t
    pub right : (In i wrong → ⊥) → wrong_at s ≡ []

  abbrev pub HasCause : Site → Type 0
  HasCause s = (c : BuildCause) × In c (wrong_at s)

  -- something is wrong at the schema at a position
  pub record IsWrongAt (vs : List Visit) (i : ℕ) : Type 0 where
    pub visit : Visit
    pub there : slice_get vs i ≡ Some visit
    pub wrong : (s : Site) → Met visit s → HasCause s

  -- visits of what is asked at a site: each stands for one that it leads to, and each of these has one; and whether nothing is wrong there
  pub record IsLed (s : Site) (leads : List Visit) (is_right : Bool) : Type 0 where
    pub belongs : (w : Visit) → In w leads → Belongs own w
    pub site_for : (w : Visit) → In w leads → (t : Site) × In t (led_from s) × Met w t
    pub visit_for : (t : Site) → In t (led_from s) → (w : Visit) × In w leads × Met w t
    pub right : is_right ≡ true → wrong_at s ≡ []
    pub wrong : is_right ≡ false → HasCause s

  -- the first ones are read; all are reached from the roots
  pub record IsGraph (roots : List Site) (vs : List Visit) (edges : List Edge) (wrong : List ℕ) (next : ℕ) : Type 0 where
    pub belongs : (v : Visit) → In v vs → Belongs own v
    pub reached : (v : Visit) → In v vs → IsReachedFrom roots v
    pub edges_lead : (e : Edge) → In e edges → IsEdge vs e
    pub read : (i : ℕ) → i < next → (v : Visit) → slice_get vs i ≡ Some v → (s : Site) → Met v s → IsRead vs edges wrong i s
    pub wrong_ones : (i : ℕ) → In i wrong → IsWrongAt vs i
