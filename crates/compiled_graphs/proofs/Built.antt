-- What is built of a root.
use Rattle.std.proofs.Common.{◌≡◌, ◌≤◌, ℕ, zero, suc, List, [], ◌∷◌, Bool, Option, Some, map, option_map, refl, sym, ap, subst, inl, inr, arith, length, slice_get}
use Rattle.schema_meaning.specs.Members.{In}
use Rattle.schema_definitions.specs.Bearers.{Document}
use Rattle.schema_definitions.specs.BuildCauses.{IsCauseOf}
use Rattle.schema_definitions.specs.Lookup.{Target}
use Rattle.schema_definitions.specs.Plain.{keywords_at}
use Rattle.schema_definitions.specs.Rows as rows
use Rattle.schema_definitions.specs.Sites.{Site, root_site}
use Rattle.schema_patterns.specs.Makers.{Patterns}
use Rattle.schema_patterns.specs.Tables.{AreMadeBy, texts_of_table}
use Rattle.linked_meanings.specs.Related.{AreRelated}
use Rattle.linked_meanings.proofs.Composed.{shapes_so}
use Rattle.reading_laws.specs.Asked.{AreAmong}
use Rattle.reading_laws.specs.Keys.{AreWithin}
use Rattle.reading_laws.specs.SiteLaws.{AreAlike}
use Rattle.marked_nodes.specs.Leading.{LeadsTo, here, along}
use Rattle.marked_nodes.specs.declared.graph.Edge.{Edge}
use Rattle.schema_engine.specs.Graphs.{reading_of, IsSound}
use Rattle.compiled_keywords.specs.Shapes.{shape_of}
use Rattle.graph_answers.specs.Tables.{AreForms}
use Rattle.graph_answers.proofs.TableReads.{forms_of_made}
use Rattle.reached_sites.specs.Causes.{RefusesWithin}
use Rattle.reached_sites.specs.Patterns.{IsFront}
use Rattle.reached_sites.specs.Roots.{IsPlaced}
use Rattle.reached_sites.specs.Visits.{site_of, Belongs}
use Rattle.graph_answers.specs.Linking.{IsLocatedAt}
use Rattle.schema_engine.specs.declared.node.Node.{Node}
use Rattle.compiled_keywords.specs.declared.keyword.Keyword.{Keyword}
use Rattle.reached_sites.specs.declared.cause.BuildCause as refused
use Rattle.reached_sites.specs.declared.visit.Visit.{Visit}
use Rattle.reached_sites.proofs.Listing.{in-one, none-in}
use Rattle.compiled_graphs.specs.Filled.{IsReached}
use Rattle.compiled_graphs.specs.Graphs.{IsVisited, IsGraph}
use Rattle.compiled_graphs.specs.Linking.{as_spelled, StandsFor, IsCompiledAt, KnowsTable}
use Rattle.compiled_graphs.specs.Walked.{ArePlaced, Notes, Walks, IsBegun, IsWalked, RefusesWalk, RefusesInOrder}
use Rattle.compiled_graphs.specs.declared.walk.AtCause.TheVariants.{Stop}
use Rattle.compiled_graphs.specs.declared.walk.Walk.{Walk}
use Rattle.compiled_graphs.proofs.Ending.{no-cause, all-among, keys-within}
use Rattle.compiled_graphs.proofs.Meaning.{same-order, is-sound, are-known, keywords-mean, located-mean, paths-mean}
use Rattle.compiled_graphs.proofs.Growing.{visited-later}
use Rattle.compiled_graphs.proofs.Positions.{in-place, within}
use Rattle.compiled_graphs.proofs.Walks.{begun-walks}
use Rattle.compiled_graphs.proofs.Stepping.{alone-steps}
use Rattle.compiled_graphs.specs.First.{IsInOrder, RefusesFirst}

-- ---- roots

pub one-placed : (own : List Document) (root : Target) → IsPlaced own root → ArePlaced own (root_site root ∷ [])
one-placed own root h = record { apart = h.apart; rise = h.rise; targets = λ r i. ([], root, h.target, in-one i) }

-- where nothing is wrong, nothing leads there
pub none-leads : (es : List Edge) (wrong : List ℕ) → wrong ≡ [] → (i : ℕ) → LeadsTo es wrong i → ⊥
none-leads es wrong e i (here j) = none-in (subst (λ (l : List ℕ). In i l) e j)
none-leads es wrong e _ (along edge j l) = none-leads es wrong e edge.to l

pub refuses-one : (makes : List ℕ → Bool) (own : List Document) (root : Site) (limit : ℕ) (e : refused.BuildCause) → RefusesWalk makes own (root ∷ []) limit Stop e → RefusesWithin own makes root limit e
refuses-one makes own root limit e (inl h) = inl (record { named = h.named; exceeds = h.exceeds })
refuses-one makes own root limit e (inr (inl h)) = inr (inr (h.cause, h.named, subst (λ r. IsCauseOf own makes r h.cause) (in-one h.listed) h.stands))
refuses-one makes own root limit e (inr (inr m)) = inr (inl m)

pub refuses-first : (makes : List ℕ → Bool) (own : List Document) (root : Site) (limit : ℕ) (e : refused.BuildCause) → RefusesInOrder makes own (root ∷ []) limit e → RefusesFirst own makes root limit e
refuses-first makes own root limit e (inl h) = inl (record { named = h.named; exceeds = h.exceeds })
refuses-first makes own root limit e (inr h) = inr h

-- ---- once all nodes are filled

-- once as many are read as there are
pub all-read : (own : List Document) (makes : List ℕ → Bool) (roots : List Site) (vs : List Visit) (es : List Edge) (wrong : List ℕ) (n : ℕ) → length vs ≤ n → IsGraph own makes roots vs es wrong n
    → IsGraph own makes roots vs es wrong (length vs)
all-read own makes roots vs es wrong n all g = record {
  belongs = g.belongs;
  reached = g.reached;
  edges_lead = g.edges_lead;
  read = λ i h v at s m. g.read i (omega (arith, all, h)) v at s m;
  wrong_ones = g.wrong_ones;
}

-- ---- the sites of visits

abbrev pub sites_of : List Visit → List (Option Site)
sites_of vs = map (λ v. Some (site_of v)) vs

module _ (own : List Document) where
  site-there : (vs : List Visit) (n : ℕ) (t : Site) → slice_get (sites_of vs) n ≡ Some (Some t) → (v : Visit) × (slice_get vs n ≡ Some v) × (site_of v ≡ t)
  site-there [] n t e = absurd (cc (e))
  site-there (v ∷ vs) zero t e = (v, refl, cc (e))
  site-there (v ∷ vs) (suc n) t e = site-there vs n t e

  there-site : (vs : List Visit) (n : ℕ) (v : Visit) → slice_get vs n ≡ Some v → slice_get (sites_of vs) n ≡ Some (Some (site_of v))
  there-site [] n v e = absurd (cc (e))
  there-site (_ ∷ vs) zero v e = ap (λ (o : Option Visit). option_map (λ u. Some (site_of u)) o) e
  there-site (_ ∷ vs) (suc n) v e = there-site vs n v e

  module _ (vs : List Visit) (belongs : (v : Visit) → In v vs → Belongs own v) where
    pub of-visited : (s : Site) (n : ℕ) → IsVisited vs n s → StandsFor own (sites_of vs) s n
    of-visited s n x =
        let b = belongs x.visit (in-place vs n x.visit x.there) in
        (site_of x.visit, there-site vs n x.visit x.there, subst (λ (ds : List Document). AreAlike ds s (site_of x.visit)) b.documents x.met.alike)

    pub to-visited : (s : Site) (n : ℕ) → StandsFor own (sites_of vs) s n → IsVisited vs n s
    to-visited s n h =
        let x = site-there vs n h.0 h.1 in
        let b = belongs x.0 (in-place vs n x.0 x.1) in
        let alike = subst (λ t. AreAlike own s t) (sym x.2) h.2 in
        record { visit = x.0; there = x.1; met = record { alike = subst (λ (ds : List Document). AreAlike ds s (site_of x.0)) (sym b.documents) alike } }

module _ {M : Type 0} (finds : M → List ℕ → Option Bool) (p : Patterns) (own : List Document) (root : Target) (limit : ℕ) (w : Walk M) (walked : IsWalked finds p own (root_site root ∷ []) limit Stop w)
    (begins : IsVisited w.visits.list.items 0 (root_site root)) where
  abbrev vs : List Visit
  vs = w.visits.list.items

  abbrev roots : List Site
  roots = root_site root ∷ []

  graph : IsGraph own p.makes roots vs w.edges.items w.wrong.items (length vs)
  graph = all-read own p.makes roots vs w.edges.items w.wrong.items (length w.nodes.items) walked.all walked.walks.graph

  clear : (i : ℕ) → LeadsTo w.edges.items w.wrong.items i → ⊥
  clear i l = none-leads w.edges.items w.wrong.items walked.right i l

  not-wrong : (n : ℕ) → In n w.wrong.items → ⊥
  not-wrong n i = none-in (subst (λ (l : List ℕ). In n l) walked.right i)

  notes : Notes w.table vs w.wrong.items (length vs)
  notes i h none v at s m = (let all = walked.all in walked.walks.noted i (omega (arith, all, h)) none v at s m)

  pub accepted : (c : rows.BuildCause) → IsCauseOf own p.makes (root_site root) c → ⊥
  accepted c h = no-cause own p.makes roots vs w.edges.items w.wrong.items graph 0 (clear 0) (root_site root) begins c h

  pub within-limit : AreWithin own p.makes roots limit
  within-limit = keys-within own p.makes roots vs w.edges.items w.wrong.items graph (λ r i. (0, subst (λ s. IsVisited vs 0 s) (sym (in-one i)) begins)) limit walked.few

  pub patterns-among : AreAmong own p.makes (root_site root) (texts_of_table w.table)
  patterns-among = all-among own p.makes roots vs w.edges.items w.wrong.items graph 0 (clear 0) (root_site root) begins w.table notes

  pub made : AreMadeBy finds p.finished w.table
  made = walked.walks.filled.made

  pub sound : IsSound shape_of w.nodes.items
  sound = is-sound own p.makes vs w.edges.items w.wrong.items (texts_of_table w.table) w.nodes.items walked.walks.nodes walked.all

  abbrev Stands : Site → ℕ → Type 0
  Stands s n = StandsFor own (sites_of vs) s n

  related : (matches : List ℕ → List ℕ → Bool) → AreRelated (as_spelled own p.makes matches) (reading_of shape_of matches w.nodes.items) Stands
  related matches = record {
    matches = refl;
    keywords = λ s n h.
        let x = to-visited own vs graph.belongs s n h in
        record {
          order = keywords_at own p.makes s;
          reordered = same-order (keywords_at own p.makes s);
          same = shapes_so (IsReached n vs w.edges.items) Stands (λ t m y. of-visited own vs graph.belongs t m y.0) (keywords_at own p.makes s) _
              (keywords-mean own p.makes vs w.edges.items w.wrong.items (texts_of_table w.table) w.nodes.items walked.walks.nodes walked.all s n graph.belongs (not-wrong n) x);
        };
    paths = λ s n h. paths-mean own p.makes vs w.edges.items w.wrong.items (texts_of_table w.table) w.nodes.items walked.walks.nodes walked.all s n (to-visited own vs graph.belongs s n h);
  }

  located : (n : ℕ) (s : Site) (node : Node Keyword) → slice_get (sites_of vs) n ≡ Some (Some s) → slice_get w.nodes.items n ≡ Some node → IsLocatedAt s node
  located n s node at there =
      let x = site-there own vs n s at in
      subst (λ t. IsLocatedAt t node) x.2
      (located-mean own p.makes vs w.edges.items w.wrong.items (texts_of_table w.table) w.nodes.items walked.walks.nodes walked.all n x.0 node x.1 there)

  pub compiled-at : IsCompiledAt own p.makes w.nodes.items (root_site root) 0
  compiled-at = record {
    sites = sites_of vs;
    means = record { related = related; located = located };
    begins = of-visited own vs graph.belongs (root_site root) 0 begins;
    within = (let all = walked.all in let one = within vs 0 begins.visit begins.there in omega (arith, all, one));
  }

  pub forms : AreForms finds w.table
  forms = forms_of_made finds w.table p.finished made

  pub knows : KnowsTable w.nodes.items w.table
  knows = are-known own p.makes vs w.edges.items w.wrong.items (texts_of_table w.table) w.nodes.items walked.walks.nodes walked.all

-- ---- a walk from one root, to its end

pub record IsBuilt {M : Type 0} (finds : M → List ℕ → Option Bool) (p : Patterns) (own : List Document) (root : Target) (limit : ℕ) (w : Walk M) : Type 0 where
  pub walked : IsWalked finds p own (root_site root ∷ []) limit Stop w
  pub begins : IsVisited w.visits.list.items 0 (root_site root)

-- what is known where such a walk begins
pub record IsStarted (own : List Document) (root : Target) (visits : List Visit) : Type 0 where
  pub visited_first : IsVisited visits 0 (root_site root)
  pub graph : (makes : List ℕ → Bool) → IsGraph own makes (root_site root ∷ []) visits [] [] 0

module _ {M : Type 0} (finds : M → List ℕ → Option Bool) (p : Patterns) (own : List Document) (root : Target) (limit : ℕ) (begun : Walk M) (visits : List Visit) (placed : IsPlaced own root)
    (b : IsBegun begun visits) (s : IsStarted own root visits) where
  pub walks-from-root : Walks finds p own (root_site root ∷ []) begun
  walks-from-root = begun-walks finds p own (root_site root ∷ []) begun visits b (s.graph p.makes)

  pub ordered-from-root : length visits ≡ 1 → IsInOrder own p.makes (root_site root ∷ []) begun
  ordered-from-root one = ((0 ∷ []) ∷ [], rw (b.visits_are, b.nodes) (alone-steps own p.makes (root_site root) visits one s.visited_first))

  pub built-of : (w : Walk M) → IsFront begun.visits.list.items w.visits.list.items
      → ((o : List Document) (roots : List Site) → ArePlaced o roots → Walks finds p o roots begun → IsWalked finds p o roots limit Stop w) → IsBuilt finds p own root limit w
  built-of w f walks = record {
    walked = walks own (root_site root ∷ []) (one-placed own root placed) walks-from-root;
    begins = visited-later begun.visits.list.items w.visits.list.items f.behind 0 (root_site root) f.is (subst (λ vs. IsVisited vs 0 (root_site root)) (sym b.visits_are) s.visited_first);
  }
