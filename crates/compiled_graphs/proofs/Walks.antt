-- A walk whose next node is filled.
use Rattle.std.proofs.Common.{◌≡◌, ◌∙◌, ◌⊎◌, ◌+◌, ℕ, List, [], ◌∷◌, ◌++◌, Bool, true, false, true≢false, Option, Some, None, IfSome, is_some, is_none, not, refl, sym, ap, subst, inl, inr, arith, length, slice_get}
use Rattle.std.proofs.lemmas.List.{length-append}
use Rattle.schema_definitions.specs.Bearers.{Document}
use Rattle.schema_definitions.specs.BuildCauses.{causes_at}
use Rattle.schema_definitions.specs.Rows.{BuildCause, identifier_causes, rows_at}
use Rattle.schema_definitions.specs.Sites.{Site}
use Rattle.schema_meaning.specs.Members.{In, first}
use Rattle.schema_patterns.specs.Makers.{Patterns}
use Rattle.schema_patterns.specs.Tables.{texts_of_table}
use Rattle.reading_laws.specs.SiteLaws.{AreAlike}
use Rattle.reading_laws.proofs.Reading.{read_alike}
use Rattle.schema_engine.specs.declared.node.Node.{Node}
use Rattle.compiled_keywords.specs.declared.keyword.Keyword.{Keyword}
use Rattle.referencing.specs.Resolved.{documents_in}
use Rattle.reached_sites.specs.Led.{causes_in}
use Rattle.reached_sites.specs.Patterns.{written, IsFront, Holds}
use Rattle.reached_sites.specs.Visits.{site_of, Met}
use Rattle.graph_answers.specs.Linking.{IsLocatedAt}
use Rattle.reached_sites.specs.declared.cause.BuildCause as refused
use Rattle.reached_sites.specs.declared.visit.Visit.{Visit}
use Rattle.reached_sites.proofs.Filling.{empty-filled}
use Rattle.reached_sites.proofs.Listing.{in-behind}
use Rattle.compiled_graphs.specs.Filled.{Compiled, IsRank, HasNode, HasNodes}
use Rattle.compiled_graphs.specs.Graphs.{IsReachedFrom, IsGraph, IsLed, asked_from}
use Rattle.compiled_graphs.specs.Linked.{Links, StandsFor}
use Rattle.compiled_graphs.specs.First.{IsFirstCause, IsInOrder}
use Rattle.compiled_graphs.specs.Read.{StaysFilled, VisitReads, TellsOne, IsOfFirst, TellsOfFirst, IsFound}
use Rattle.compiled_graphs.specs.Roads.{AreRoads}
use Rattle.compiled_graphs.specs.Told.{causes_apart}
use Rattle.compiled_graphs.specs.Walked.{ArePlaced, Notes, Walks, IsFromOne, IsBegun}
use Rattle.compiled_graphs.specs.declared.asking.Asking.{Asking}
use Rattle.compiled_graphs.specs.declared.reading.Found.{Found}
use Rattle.compiled_graphs.specs.declared.walk.Walk.{Walk}
use Rattle.compiled_graphs.proofs.Meant.{no-first, all-held, means-of, means-stays}
use Rattle.compiled_graphs.proofs.Growing.{kept-at, noted_wrong, wrong-before, stands-for, graph-goes, notes-go}
use Rattle.compiled_graphs.proofs.Ordered.{asked-there}
use Rattle.compiled_graphs.proofs.Standing.{is-led, all-causes, alike-apart}
use Rattle.compiled_graphs.proofs.Positions.{in-place, front-or-last}
use Rattle.compiled_graphs.proofs.Stepping.{later_roads, roads-later, here, its-along, its-right}
use Rattle.std.specs.List.{AllZip}

-- ---- one step

-- what the code knows of a step at the next visit
pub record Step {M : Type 0} (finds : M → List ℕ → Option Bool) (p : Patterns) (old new : Walk M) (v : Visit) (found : Found) (cause : Option refused.BuildCause) (numbers : List ℕ) (node : Node Keyword) : Type 0 where
  pub at : slice_get old.visits.list.items (length old.nodes.items) ≡ Some v
  pub read : VisitReads finds p old.table v found cause
  pub filled : StaysFilled finds p old.table new.table
  pub kept : Holds new.table (texts_of_table old.table)
  pub grows : IsFront (texts_of_table old.table) (texts_of_table new.table)
  pub written_here : cause ≡ None → Holds new.table (written (site_of v))
  pub links : Links (length old.nodes.items) old.visits.list.items new.visits.list.items found.visits.items old.edges.items new.edges.items
  pub stand : AllZip (StandsFor (length old.nodes.items) new.visits.list.items new.edges.items) found.visits.items numbers
  pub noted : new.wrong.items ≡ noted_wrong (is_none cause) old.wrong.items (length old.nodes.items)
  pub compiled : is_none cause ≡ true → Compiled (texts_of_table new.table) found.askings.items numbers node.keywords.items
  pub empty : is_none cause ≡ false → node.keywords.items ≡ []
  pub path : node.schema_path ≡ v.point.schema_path.steps
  pub located : IsLocatedAt (site_of v) node
  pub rank : IsRank v.point.place.path node.rank
  pub pushed : new.nodes.items ≡ old.nodes.items ++ node ∷ []

-- the keywords of a node, where it has them
pub record IsFitting (is_right : Bool) (texts : List (List ℕ)) (ys : List Asking) (ns : List ℕ) (ks : List Keyword) : Type 0 where
  pub compiled : is_right ≡ true → Compiled texts ys ns ks
  pub empty : is_right ≡ false → ks ≡ []

pub fits-compiled : (b : Bool) (texts : List (List ℕ)) (ys : List Asking) (ns : List ℕ) (ks : List Keyword) → b ≡ true → Compiled texts ys ns ks → IsFitting b texts ys ns ks
fits-compiled b texts ys ns ks e c = record { compiled = λ t. c; empty = λ f. absurd (true≢false (sym e ∙ f)) }

pub fits-empty : (b : Bool) (texts : List (List ℕ)) (ys : List Asking) (ns : List ℕ) (ks : List Keyword) → b ≡ false → ks ≡ [] → IsFitting b texts ys ns ks
fits-empty b texts ys ns ks e none = record { compiled = λ t. absurd (true≢false (sym t ∙ e)); empty = λ f. none }

pub told-none : {A : Type 0} (o : Option A) (b : Bool) → is_some o ≡ not b → b ≡ is_none o
told-none None true e = refl
told-none None false e = absurd (true≢false (sym e))
told-none (Some x) true e = absurd (true≢false e)
told-none (Some x) false e = refl

none-is : {A : Type 0} (o : Option A) → is_none o ≡ true → o ≡ None
none-is None e = refl
none-is (Some x) e = absurd (cc (e))

module _ {M : Type 0} (finds : M → List ℕ → Option Bool) (p : Patterns) (own : List Document) (roots : List Site) (placed : ArePlaced own roots) (old new : Walk M) (v : Visit) (found : Found)
    (cause : Option refused.BuildCause) (numbers : List ℕ) (node : Node Keyword) (step : Step finds p old new v found cause numbers node) (w : Walks finds p own roots old) where
  abbrev i : ℕ
  i = length old.nodes.items

  abbrev vs : List Visit
  vs = old.visits.list.items

  abbrev us : List Visit
  us = new.visits.list.items

  abbrev b : Bool
  b = is_none cause

  its-documents : documents_in v.site.resolver ≡ own
  its-documents = (w.graph.belongs v (in-place vs i v step.at)).documents

  pub found-here : IsFound own p.makes (site_of v) found cause
  found-here = subst (λ (ds : List Document). IsFound ds p.makes (site_of v) found cause) its-documents (step.read w.filled)

  alike-here : (s : Site) → Met v s → AreAlike own s (site_of v)
  alike-here s m = subst (λ (ds : List Document). AreAlike ds s (site_of v)) its-documents m.alike

  pub led : (s : Site) → Met v s → IsLed own p.makes s found.visits.items b
  led s m = is-led own p.makes v found cause found-here s (alike-here s m)

  graph : IsGraph own p.makes roots us new.edges.items (noted_wrong b old.wrong.items i) (i + 1)
  graph = graph-goes own p.makes roots placed vs us found.visits.items i v old.edges.items new.edges.items old.wrong.items b step.at step.links led w.graph

  one-more : length new.nodes.items ≡ i + 1
  one-more = ap length step.pushed ∙ length-append old.nodes.items (node ∷ [])

  same-written : (s : Site) → Met v s → written s ≡ written (site_of v)
  same-written s m = (let a = m.alike in rw (a.contents, a.dialect) refl)

  notes : Notes new.table us (noted_wrong b old.wrong.items i) (i + 1)
  notes =
      notes-go old.table new.table vs us found.visits.items i v old.edges.items new.edges.items old.wrong.items b step.at step.links step.kept
      (λ t s m. subst (λ ts. Holds new.table ts) (sym (same-written s m)) (step.written_here (none-is cause t))) w.noted

  -- ---- nodes

  there : slice_get us i ≡ Some v
  there = kept-at vs us step.links.extends.added i v step.links.extends.grown step.at

  node-stays : (j : ℕ) (n : Node Keyword) → HasNode own p.makes vs old.edges.items old.wrong.items (texts_of_table old.table) j n → HasNode own p.makes us new.edges.items (noted_wrong b old.wrong.items i) (texts_of_table new.table) j n
  node-stays j n h = record {
    visit = h.visit;
    there = kept-at vs us step.links.extends.added j h.visit step.links.extends.grown h.there;
    is_right = h.is_right;
    known = λ none. h.known (λ k. none (wrong-before b old.wrong.items i j k));
    is = record {
      means = λ e. means-stays own (site_of h.visit) j vs us step.links.extends.added step.links.extends.grown old.edges.items new.edges.items step.links.kept (texts_of_table old.table) (texts_of_table new.table) step.grows _ _ (h.is.means e);
      empty = h.is.empty;
      path = h.is.path;
      located = h.is.located;
      rank = h.is.rank;
    };
  }

  is-right : (c : Bool) → b ≡ c → (In i (noted_wrong c old.wrong.items i) → ⊥) → b ≡ true
  is-right true e none = e
  is-right false e none = absurd (none (in-behind old.wrong.items (i ∷ []) first))

  clear : b ≡ true → causes_in (rows_at own p.makes (site_of v)) ≡ []
  clear e = by cause found-here.tells (none-is cause e)
    where
      by : (o : Option refused.BuildCause) → TellsOne o (causes_at own p.makes (site_of v)) → o ≡ None → causes_in (rows_at own p.makes (site_of v)) ≡ []
      by None t e = (no-first (identifier_causes (site_of v)) (causes_in (rows_at own p.makes (site_of v))) t).1
      by (Some x) t e = absurd (cc (e))

  node-here : HasNode own p.makes us new.edges.items (noted_wrong b old.wrong.items i) (texts_of_table new.table) i node
  node-here = record {
    visit = v;
    there = there;
    is_right = b;
    known = λ none. is-right b refl none;
    is = record {
      means = λ e.
          means-of own p.makes (site_of v) i us new.edges.items (texts_of_table new.table) (all-held own p.makes (site_of v) new.table (step.written_here (none-is cause e))) (rows_at own p.makes (site_of v))
          found.askings.items found.visits.items numbers node.keywords.items found-here.reads (λ r k. k) (clear e) (step.compiled e) step.stand
          (λ u k n h t m. stands-for own p.makes roots placed vs us found.visits.items i v old.edges.items new.edges.items old.wrong.items b step.at step.links led w.graph u k n h t m);
      empty = step.empty;
      path = step.path;
      located = step.located;
      rank = step.rank;
    };
  }

  any-node : (j : ℕ) (n : Node Keyword) → (slice_get old.nodes.items j ≡ Some n) ⊎ ((j ≡ i) × (node ≡ n)) → HasNode own p.makes us new.edges.items (noted_wrong b old.wrong.items i) (texts_of_table new.table) j n
  any-node j n (inl e) = node-stays j n (w.nodes.each j n e)
  any-node j n (inr h) = rw (h.0, sym h.1) node-here

  nodes : HasNodes own p.makes us new.edges.items (noted_wrong b old.wrong.items i) (texts_of_table new.table) new.nodes.items
  nodes = record { each = λ j n e. any-node j n (front-or-last old.nodes.items node n j (subst (λ (ns : List (Node Keyword)). slice_get ns j ≡ Some n) step.pushed e)) }

  pub step-walks : Walks finds p own roots new
  step-walks =
      record {
        graph = subst (λ n. IsGraph own p.makes roots us new.edges.items new.wrong.items n) (sym one-more)
            (subst (λ ws. IsGraph own p.makes roots us new.edges.items ws (i + 1)) (sym step.noted) graph);
        filled = step.filled w.filled;
        noted = subst (λ n. Notes new.table us new.wrong.items n) (sym one-more) (subst (λ ws. Notes new.table us ws (i + 1)) (sym step.noted) notes);
        nodes = subst (λ ws. HasNodes own p.makes us new.edges.items ws (texts_of_table new.table) new.nodes.items) (sym step.noted) nodes;
      }

  -- ---- the order of the roads

  asks : (s : Site) → Met v s → AllZip Met found.visits.items (asked_from own p.makes s)
  asks s m =
      asked-there own (site_of v) (rows_at own p.makes s) (rows_at own p.makes (site_of v)) found.askings.items found.visits.items found-here.reads
      (read_alike own p.makes s (site_of v) (alike-here s m)).rows

  pub orders : IsInOrder own p.makes roots old → IsInOrder own p.makes roots new
  orders h = (
    later_roads own p.makes roots placed vs us found.visits.items i v old.edges.items new.edges.items old.wrong.items b step.at step.links led w.graph asks h.0 h.1,
    subst (λ n. AreRoads (asked_from own p.makes) roots Met us n (later_roads own p.makes roots placed vs us found.visits.items i v old.edges.items new.edges.items old.wrong.items b step.at step.links led w.graph asks h.0 h.1)) (sym one-more)
        (roads-later own p.makes roots placed vs us found.visits.items i v old.edges.items new.edges.items old.wrong.items b step.at step.links led w.graph asks h.0 h.1),
  )

  module _ (h : IsInOrder own p.makes roots old) (none : old.wrong.items ≡ []) where
    first-here : (e : refused.BuildCause) → TellsOfFirst (Some e) (causes_apart own p.makes (site_of v)) → IsFirstCause own p.makes roots e
    first-here e t =
        let along = its-along own p.makes roots placed vs us found.visits.items i v old.edges.items new.edges.items old.wrong.items b step.at step.links led w.graph asks h.0 h.1 in
        let same = alike-apart own p.makes along.site (site_of v) (alike-here along.site along.met) in
        record {
          road = (here own p.makes roots placed vs us found.visits.items i v old.edges.items new.edges.items old.wrong.items b step.at step.links led w.graph asks h.0 h.1).0;
          site = along.site;
          goes = along.goes;
          cause = t.0;
          named = t.1;
          first = subst (λ (lists : List (List BuildCause)). IsOfFirst t.0 lists) (sym same) t.2;
          before = its-right own p.makes roots placed vs us found.visits.items i v old.edges.items new.edges.items old.wrong.items b step.at step.links led w.graph asks h.0 h.1 none;
        }

    pub first-told : IfSome cause (IsFirstCause own p.makes roots)
    first-told = by cause found-here.first
      where
        by : (o : Option refused.BuildCause) → TellsOfFirst o (causes_apart own p.makes (site_of v)) → IfSome o (IsFirstCause own p.makes roots)
        by None t = tt
        by (Some e) t = first-here e t

  -- ---- a cause that is told

  its : IsReachedFrom own p.makes roots v
  its = w.graph.reached v (in-place vs i v step.at)

  from-here : (e : refused.BuildCause) → TellsOne (Some e) (causes_at own p.makes (site_of v)) → IsFromOne own p.makes roots e
  from-here e t =
      let same = all-causes own p.makes v found cause found-here its.site (alike-here its.site its.met) in
      record { root = its.root; listed = its.listed; cause = t.0; named = t.1; stands = record { site = its.site; reached = its.reached; wrong = subst (λ cs. In t.0 cs) (sym same) t.2 } }

  pub first-from : IfSome cause (IsFromOne own p.makes roots)
  first-from = by cause found-here.tells
    where
      by : (o : Option refused.BuildCause) → TellsOne o (causes_at own p.makes (site_of v)) → IfSome o (IsFromOne own p.makes roots)
      by None t = tt
      by (Some e) t = from-here e t

-- ---- a walk that begins

module _ {M : Type 0} (finds : M → List ℕ → Option Bool) (p : Patterns) (own : List Document) (roots : List Site) (w : Walk M) (visits : List Visit) (b : IsBegun w visits) where
  nothing-noted : (n : ℕ) → n ≡ 0 → Notes w.table w.visits.list.items w.wrong.items n
  nothing-noted n e i h none v at s m = absurd (omega (arith, e, h))

  no-nodes : (nodes : List (Node Keyword)) → nodes ≡ [] → HasNodes own p.makes w.visits.list.items w.edges.items w.wrong.items (texts_of_table w.table) nodes
  no-nodes nodes e = record { each = λ i n at. (let none = subst (λ (l : List (Node Keyword)). slice_get l i ≡ Some n) e at in absurd (cc (none))) }

  pub begun-walks : IsGraph own p.makes roots visits [] [] 0 → Walks finds p own roots w
  begun-walks g = record {
    graph = rw (b.visits_are, b.edges, b.wrong, b.nodes) g;
    filled = empty-filled finds p.finished p.makes w.table b.table;
    noted = nothing-noted (length w.nodes.items) (ap length b.nodes);
    nodes = no-nodes w.nodes.items b.nodes;
  }
