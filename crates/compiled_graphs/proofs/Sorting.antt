-- Which roots may be read, by the graph of what is reached from them.
use Rattle.std.proofs.Common.{◌≡◌, ◌≤◌, ◌∙◌, inl, inr, ◌<◌, ℕ, zero, suc, List, [], ◌∷◌, Bool, true, false, true≢false, Option, Some, None, is_ok, is_some, refl, sym, ap, subst, arith, length, slice_get}
use Rattle.std.specs.Bool.{Decides}
use Rattle.std.specs.List.{All, AllZip}
use Rattle.std.specs.Prelude.{if◌then◌else◌}
use Rattle.schema_definitions.specs.Bearers.{Document}
use Rattle.schema_definitions.specs.Lookup.{Target}
use Rattle.schema_definitions.specs.Plain.{keywords_at}
use Rattle.schema_meaning.specs.Members.{In, first, later}
use Rattle.schema_definitions.specs.BuildCauses.{IsCauseOf}
use Rattle.schema_definitions.specs.Sites.{Site}
use Rattle.schema_definitions.specs.Words.{or}
use Rattle.schema_patterns.specs.Tables.{AreMadeBy, texts_of_table}
use Rattle.schema_patterns.specs.declared.table.PatternTable.{PatternTable}
use Rattle.schema_registries.specs.Roots.{Patterns, IsSound, root_inside}
use Rattle.schema_registries.specs.Matched.{HoldsPatterns}
use Rattle.schema_registries.proofs.Found.{finds_one}
use Rattle.linked_meanings.specs.Related.{AreRelated}
use Rattle.linked_meanings.proofs.Composed.{shapes_so}
use Rattle.reading_laws.specs.Asked.{AreAmong}
use Rattle.reading_laws.specs.SiteLaws.{AreAlike}
use Rattle.marked_nodes.specs.Leading.{LeadsTo, here, along}
use Rattle.marked_nodes.specs.Sources.{IsWithin}
use Rattle.marked_nodes.specs.declared.graph.Edge.{Edge}
use Rattle.schema_engine.specs.declared.node.Node.{Node}
use Rattle.schema_engine.specs.Graphs.{reading_of, IsSound as Sounds}
use Rattle.compiled_keywords.specs.Shapes.{shape_of}
use Rattle.graph_answers.specs.Tables.{AreForms}
use Rattle.graph_answers.proofs.TableReads.{forms_of_made}
use Rattle.reached_sites.specs.Patterns.{IsFront}
use Rattle.reached_sites.specs.Visits.{site_of}
use Rattle.graph_answers.specs.Linking.{IsLocatedAt}
use Rattle.compiled_keywords.specs.declared.keyword.Keyword.{Keyword}
use Rattle.reached_sites.specs.declared.visit.Visit.{Visit}
use Rattle.reached_sites.specs.declared.cause.BuildCause as refused
use Rattle.compiled_graphs.specs.Causes.{RefusesEach}
use Rattle.compiled_graphs.specs.Filled.{IsReached}
use Rattle.compiled_graphs.specs.Graphs.{IsVisited, IsGraph}
use Rattle.compiled_graphs.specs.Linked.{edge}
use Rattle.compiled_graphs.specs.Linking.{as_spelled, StandsFor, IsCompiledAt, KnowsTable}
use Rattle.compiled_graphs.specs.Marked.{IsMarked, IsNode, AreNodes}
use Rattle.compiled_graphs.specs.Several.{AreDecided, StartsAtNode, AreBuilt}
use Rattle.compiled_graphs.specs.Starts.{site_inside, sites_from, LeadsNowhere, Starts, StartsAt, Start}
use Rattle.compiled_graphs.specs.Walked.{RefusesWalk, Notes, Walks, IsBegun, IsWalked}
use Rattle.compiled_graphs.specs.declared.walk.AtCause.TheVariants.{GoOn}
use Rattle.compiled_graphs.specs.declared.walk.Walk.{Walk}
use Rattle.compiled_graphs.proofs.Begun.{sites-visited, start-later}
use Rattle.compiled_graphs.proofs.Built.{all-read}
use Rattle.compiled_graphs.proofs.Ending.{leads-wrong, no-cause, all-among, keys-within}
use Rattle.compiled_graphs.proofs.Meaning.{same-order, is-sound, are-known, keywords-mean, located-mean, paths-mean}
use Rattle.compiled_graphs.proofs.Walks.{begun-walks}
use Rattle.compiled_graphs.proofs.Positions.{in-place, within, all-of, same-all}

-- ---- all are nodes

module _ (own : List Document) (makes : List ℕ → Bool) (base : List ℕ) where
  node-of : (vs : List Visit) (r : List ℕ) (o : Option ℕ) → StartsAt own base vs r o → IsNode (length vs) o
  node-of vs r None h = tt
  node-of vs r (Some i) h = within vs i h.visited.visit h.visited.there

  pub each-node : (vs : List Visit) (rs : List (List ℕ)) (os : List (Option ℕ)) → Start own base vs rs os → (o : Option ℕ) → In o os → IsNode (length vs) o
  each-node vs rs [] h o i = elim i [ ]
  each-node vs [] (q ∷ os) h o i = absurd h
  each-node vs (r ∷ rs) (_ ∷ os) h o first = node-of vs r o h.0
  each-node vs (r ∷ rs) (q ∷ os) h o (later i) = each-node vs rs os h.1 o i

  pub nodes-below : (rs : List (List ℕ)) (vs : List Visit) (es : List Edge) (wrong : List ℕ) (os : List (Option ℕ)) (n : ℕ) (fs : List Edge) (ws : List ℕ) (qs : List (Option ℕ))
      → Start own base vs rs os → IsGraph own makes (sites_from own base rs) vs es wrong (length vs) → n ≡ length vs → fs ≡ es → ws ≡ wrong → qs ≡ os → AreNodes n fs ws qs
  nodes-below rs vs es wrong os n fs ws qs starts g same e f h = record {
    edges_are = subst (λ m. All (IsWithin m) fs) (sym same) (same-all (IsWithin (length vs)) fs es e
        (all-of (IsWithin (length vs)) es (λ x i. (within vs x.from (g.edges_lead x i).visit (g.edges_lead x i).there, within vs x.to (g.edges_lead x i).within.0 (g.edges_lead x i).within.1))));
    wrong_are = subst (λ m. All (λ i. i < m) ws) (sym same) (same-all (λ i. i < length vs) ws wrong f
        (all-of (λ i. i < length vs) wrong (λ x i. within vs x (g.wrong_ones x i).visit (g.wrong_ones x i).there)));
    starts_are = subst (λ m. All (IsNode m) qs) (sym same) (same-all (IsNode (length vs)) qs os h (all-of (IsNode (length vs)) os (λ x i. each-node vs rs os starts x i)));
  }

-- ---- the sites of visits that are not marked

abbrev pub clear_sites : List Visit → List Bool → List (Option Site)
clear_sites [] bs = []
clear_sites (v ∷ vs) [] = None ∷ clear_sites vs []
clear_sites (v ∷ vs) (b ∷ bs) = (if b then None else Some (site_of v)) ∷ clear_sites vs bs

abbrev ClearAt : List Visit → List Bool → ℕ → Site → Type 0
ClearAt vs bs n t = (v : Visit) × (slice_get vs n ≡ Some v) × (site_of v ≡ t) × (slice_get bs n ≡ Some false)

clear-here : (v : Visit) (vs : List Visit) (b : Bool) (bs : List Bool) (t : Site) → Some (if b then None else Some (site_of v)) ≡ Some (Some t) → ClearAt (v ∷ vs) (b ∷ bs) 0 t
clear-here v vs true bs t e = absurd (cc (e))
clear-here v vs false bs t e = (v, refl, cc (e), refl)

clear-there : (vs : List Visit) (bs : List Bool) (n : ℕ) (t : Site) → slice_get (clear_sites vs bs) n ≡ Some (Some t) → ClearAt vs bs n t
clear-there [] bs n t e = absurd (cc (e))
clear-there (v ∷ vs) [] zero t e = absurd (cc (e))
clear-there (v ∷ vs) [] (suc n) t e = (let h = clear-there vs [] n t e in (h.0, h.1, h.2, absurd (cc (h.3))))
clear-there (v ∷ vs) (b ∷ bs) zero t e = clear-here v vs b bs t e
clear-there (v ∷ vs) (b ∷ bs) (suc n) t e = clear-there vs bs n t e

there-clear : (vs : List Visit) (bs : List Bool) (n : ℕ) (v : Visit) → slice_get vs n ≡ Some v → slice_get bs n ≡ Some false → slice_get (clear_sites vs bs) n ≡ Some (Some (site_of v))
there-clear [] bs n v e f = absurd (cc (e))
there-clear (u ∷ vs) [] n v e f = absurd (cc (f))
there-clear (u ∷ vs) (b ∷ bs) zero v e f = ap (λ c. Some (if c then None else Some (site_of u))) (ap (or b) f) ∙ ap (λ (w : Visit). Some (Some (site_of w))) (ap (or u) e)
there-clear (u ∷ vs) (b ∷ bs) (suc n) v e f = there-clear vs bs n v e f

bool-at : (bs : List Bool) (n : ℕ) → n < length bs → (b : Bool) × (slice_get bs n ≡ Some b)
bool-at [] n h = absurd (omega (arith, h))
bool-at (b ∷ bs) zero h = (b, refl)
bool-at (b ∷ bs) (suc n) h = bool-at bs n (omega (arith, h))

-- ---- which may be read

module _ {M : Type 0} (finds : M → List ℕ → Option Bool) (p : Patterns) (own : List Document) (base : List ℕ) (rs : List (List ℕ)) (limit : ℕ) (w : Walk M)
    (walked : IsWalked finds p own (sites_from own base rs) limit GoOn w) (marks : List Bool) (count : length marks ≡ length w.visits.list.items)
    (each : (i : ℕ) (b : Bool) → slice_get marks i ≡ Some b → Decides b (LeadsTo w.edges.items w.wrong.items i)) where
  abbrev vs : List Visit
  vs = w.visits.list.items

  abbrev es : List Edge
  es = w.edges.items

  abbrev wrong : List ℕ
  wrong = w.wrong.items

  abbrev roots : List Site
  roots = sites_from own base rs

  graph : IsGraph own p.makes roots vs es wrong (length vs)
  graph = all-read own p.makes roots vs es wrong (length w.nodes.items) walked.all walked.walks.graph

  notes : Notes w.table vs wrong (length vs)
  notes i h none v at s m = (let all = walked.all in walked.walks.noted i (omega (arith, all, h)) none v at s m)

  abbrev IsClear : ℕ → Type 0
  IsClear n = slice_get marks n ≡ Some false

  clear-leads : (n : ℕ) → IsClear n → LeadsTo es wrong n → ⊥
  clear-leads n e l = true≢false (sym ((each n false e).1 l))

  by-mark : (n : ℕ) (b : Bool) → slice_get marks n ≡ Some b → (LeadsTo es wrong n → ⊥) → IsClear n
  by-mark n true e none = absurd (none ((each n true e).0 refl))
  by-mark n false e none = e

  is-clear : (n : ℕ) → n < length vs → (LeadsTo es wrong n → ⊥) → IsClear n
  is-clear n h none = (let b = bool-at marks n (omega (arith, h, count)) in by-mark n b.0 b.1 none)

  -- ---- what the graph means

  abbrev sites : List (Option Site)
  sites = clear_sites vs marks

  abbrev Stands : Site → ℕ → Type 0
  Stands s n = StandsFor own sites s n

  of-visited : (s : Site) (n : ℕ) → IsVisited vs n s → IsClear n → Stands s n
  of-visited s n x e =
      let b = graph.belongs x.visit (in-place vs n x.visit x.there) in
      (site_of x.visit, there-clear vs marks n x.visit x.there e, subst (λ (ds : List Document). AreAlike ds s (site_of x.visit)) b.documents x.met.alike)

  to-visited : (s : Site) (n : ℕ) → Stands s n → IsVisited vs n s × IsClear n
  to-visited s n h =
      let x = clear-there vs marks n h.0 h.1 in
      let b = graph.belongs x.0 (in-place vs n x.0 x.1) in
      let alike = subst (λ t. AreAlike own s t) (sym x.2) h.2 in
      (record { visit = x.0; there = x.1; met = record { alike = subst (λ (ds : List Document). AreAlike ds s (site_of x.0)) (sym b.documents) alike } }, x.3)

  led-clear : (n : ℕ) → IsClear n → (t : Site) (m : ℕ) → IsReached n vs es t m → Stands t m
  led-clear n e t m y =
      of-visited t m y.0 (is-clear m (within vs m y.0.visit y.0.there) (λ l. clear-leads n e (along (edge n m) y.1 l)))

  related : (matches : List ℕ → List ℕ → Bool) → AreRelated (as_spelled own p.makes matches) (reading_of shape_of matches w.nodes.items) Stands
  related matches = record {
    matches = refl;
    keywords = λ s n h.
        let x = to-visited s n h in
        record {
          order = keywords_at own p.makes s;
          reordered = same-order (keywords_at own p.makes s);
          same = shapes_so (IsReached n vs es) Stands (λ t m y. led-clear n x.1 t m y) (keywords_at own p.makes s) _
              (keywords-mean own p.makes vs es wrong (texts_of_table w.table) w.nodes.items walked.walks.nodes walked.all s n graph.belongs (λ i. clear-leads n x.1 (here i)) x.0);
        };
    paths = λ s n h. paths-mean own p.makes vs es wrong (texts_of_table w.table) w.nodes.items walked.walks.nodes walked.all s n (to-visited s n h).0;
  }

  located : (n : ℕ) (s : Site) (node : Node Keyword) → slice_get sites n ≡ Some (Some s) → slice_get w.nodes.items n ≡ Some node → IsLocatedAt s node
  located n s node at there =
      let x = clear-there vs marks n s at in
      subst (λ t. IsLocatedAt t node) x.2
      (located-mean own p.makes vs es wrong (texts_of_table w.table) w.nodes.items walked.walks.nodes walked.all n x.0 node x.1 there)

  compiled-at : (s : Site) (i : ℕ) → IsVisited vs i s → IsClear i → IsCompiledAt own p.makes w.nodes.items s i
  compiled-at s i x e = record {
    sites = sites;
    means = record { related = related; located = located };
    begins = of-visited s i x e;
    within = (let all = walked.all in let one = within vs i x.visit x.there in omega (arith, all, one));
  }

  -- ---- which roots may be read

  abbrev Sound : List ℕ → Type 0
  Sound r = IsSound p (root_inside own base r)

  sound-there : (r : List ℕ) (i : ℕ) (s : Starts own base r vs i) → IsClear i → Sound r
  sound-there r i s clear = record {
    found = ap is_ok s.found;
    right = λ u there cause h.
        let same = finds_one (root_inside own base r) s.target u s.found there in
        no-cause own p.makes roots vs es wrong graph i (clear-leads i clear) (site_inside own base s.target) s.visited cause (subst (λ (t : Target). IsCauseOf own p.makes (site_inside own base t) cause) (sym same) h);
  }

  unsound-there : {P : Type 0} (r : List ℕ) (i : ℕ) (s : Starts own base r vs i) → slice_get marks i ≡ Some true → Sound r → P
  unsound-there r i s e sound =
      let h = leads-wrong own p.makes roots vs es wrong graph i ((each i true e).0 refl) (site_inside own base s.target) s.visited in
      absurd (sound.right s.target s.found h.0 h.1)

  unsound-nowhere : {P : Type 0} (r : List ℕ) → LeadsNowhere own base r → Sound r → P
  unsound-nowhere r h sound = absurd (true≢false (sym sound.found ∙ ap is_ok h.1))

  decides : (r : List ℕ) (o q : Option ℕ) → StartsAt own base vs r o → IsMarked marks o q → Decides (is_some q) (Sound r)
  decides r None None h m = (λ t. absurd (true≢false (sym t)), λ s. unsound-nowhere r h s)
  decides r None (Some j) h m = absurd (cc (m))
  decides r (Some i) None h m = (λ t. absurd (true≢false (sym t)), λ s. unsound-there r i h m s)
  decides r (Some i) (Some j) h m = (λ t. sound-there r i h m.1, λ s. refl)

  all-decided : (qs : List (List ℕ)) (os cs : List (Option ℕ)) → Start own base vs qs os → AllZip (IsMarked marks) os cs → AreDecided p own base qs cs
  all-decided [] [] [] h c = tt
  all-decided [] [] (b ∷ bs) h c = absurd c
  all-decided [] (o ∷ os) bs h c = absurd h
  all-decided (r ∷ qs) [] bs h c = absurd h
  all-decided (r ∷ qs) (o ∷ os) [] h c = absurd c
  all-decided (r ∷ qs) (o ∷ os) (b ∷ bs) h c = (decides r o b h.0 c.0, all-decided qs os bs h.1 c.1)

  starts-there : (r : List ℕ) (o q : Option ℕ) → StartsAt own base vs r o → IsMarked marks o q → StartsAtNode p.makes own base w.nodes.items r q
  starts-there r o None h m = tt
  starts-there r None (Some j) h m = absurd (cc (m))
  starts-there r (Some i) (Some j) h m = λ target there.
      let same = finds_one (root_inside own base r) h.target target h.found there in
      subst (λ n. IsCompiledAt own p.makes w.nodes.items (site_inside own base target) n) (sym m.0)
      (compiled-at (site_inside own base target) i (subst (λ (t : Target). IsVisited vs i (site_inside own base t)) same h.visited) m.1)

  all-start : (qs : List (List ℕ)) (os cs : List (Option ℕ)) → Start own base vs qs os → AllZip (IsMarked marks) os cs → AllZip (StartsAtNode p.makes own base w.nodes.items) qs cs
  all-start [] [] [] h c = tt
  all-start [] [] (b ∷ bs) h c = absurd c
  all-start [] (o ∷ os) bs h c = absurd h
  all-start (r ∷ qs) [] bs h c = absurd h
  all-start (r ∷ qs) (o ∷ os) [] h c = absurd c
  all-start (r ∷ qs) (o ∷ os) (b ∷ bs) h c = (starts-there r o b h.0 c.0, all-start qs os bs h.1 c.1)

  -- ---- their patterns

  holds-at : (r : List ℕ) (o : Option ℕ) (b : Bool) → StartsAt own base vs r o → (q : Option ℕ) → IsMarked marks o q → Sound r → HoldsPatterns p (root_inside own base r) (texts_of_table w.table)
  holds-at r None b h q m sound = unsound-nowhere r h sound
  holds-at r (Some i) b h None m sound = unsound-there r i h m sound
  holds-at r (Some i) b h (Some j) m sound = λ u there.
      let same = finds_one (root_inside own base r) h.target u h.found there in
      subst (λ (t : Target). AreAmong own p.makes (site_inside own base t) (texts_of_table w.table)) same
      (all-among own p.makes roots vs es wrong graph i (clear-leads i m.1) (site_inside own base h.target) h.visited w.table notes)

  holds-each : (qs : List (List ℕ)) (os cs : List (Option ℕ)) → Start own base vs qs os → AllZip (IsMarked marks) os cs → (r : List ℕ) → In r qs → Sound r
      → HoldsPatterns p (root_inside own base r) (texts_of_table w.table)
  holds-each [] os cs h c r i sound = elim i [ ]
  holds-each (q ∷ qs) [] cs h c r i sound = absurd h
  holds-each (q ∷ qs) (o ∷ os) [] h c r i sound = absurd c
  holds-each (_ ∷ qs) (o ∷ os) (b ∷ bs) h c r first sound = holds-at r o true h.0 b c.0 sound
  holds-each (q ∷ qs) (o ∷ os) (b ∷ bs) h c r (later i) sound = holds-each qs os bs h.1 c.1 r i sound

  pub are-built : (nodes : List (Node Keyword)) (table : PatternTable M) (os cs : List (Option ℕ)) → Start own base vs rs os → AllZip (IsMarked marks) os cs → nodes ≡ w.nodes.items
      → table ≡ w.table → AreBuilt finds p own base rs limit nodes table cs
  are-built nodes table os cs starts c is same = record {
    decided = all-decided rs os cs starts c;
    within = keys-within own p.makes roots vs es wrong graph (sites-visited own base vs rs os starts) limit walked.few;
    patterns = λ r i sound. subst (λ x. HoldsPatterns p (root_inside own base r) (texts_of_table x)) (sym same) (holds-each rs os cs starts c r i sound);
    made = subst (λ x. AreMadeBy finds p.finished x) (sym same) walked.walks.filled.made;
    compiled = subst (λ ns. AllZip (StartsAtNode p.makes own base ns) rs cs) (sym is) (all-start rs os cs starts c);
  }

-- ---- the starts that are left

pub refuses-each : (makes : List ℕ → Bool) (own : List Document) (sites : List Site) (limit : ℕ) (e : refused.BuildCause) → RefusesWalk makes own sites limit GoOn e → RefusesEach own makes sites limit e
refuses-each makes own sites limit e (inl h) = inl h
refuses-each makes own sites limit e (inr (inl h)) = absurd h
refuses-each makes own sites limit e (inr (inr m)) = inr m

module _ (marks : List Bool) (n m : ℕ) (fewer : n ≤ m) where
  kept-node : (o q : Option ℕ) → IsNode n o → IsMarked marks o q → IsNode m q
  kept-node None None h k = tt
  kept-node None (Some j) h k = absurd (cc (k))
  kept-node (Some i) None h k = tt
  kept-node (Some i) (Some j) h k = (let same : j ≡ i = k.0 in omega (arith, h, same, fewer))

  kept-each : (os cs : List (Option ℕ)) → ((o : Option ℕ) → In o os → IsNode n o) → AllZip (IsMarked marks) os cs → (q : Option ℕ) → In q cs → IsNode m q
  kept-each [] [] e z q i = elim i [ ]
  kept-each [] (r ∷ cs) e z q i = absurd z
  kept-each (o ∷ os) [] e z q i = absurd z
  kept-each (o ∷ os) (_ ∷ cs) e z q first = kept-node o q (e o first) z.0
  kept-each (o ∷ os) (r ∷ cs) e z q (later i) = kept-each os cs (λ p j. e p (later j)) z.1 q i

  pub kept-nodes : (os cs : List (Option ℕ)) → ((o : Option ℕ) → In o os → IsNode n o) → AllZip (IsMarked marks) os cs → All (IsNode m) cs
  kept-nodes os cs e z = all-of (IsNode m) cs (kept-each os cs e z)

-- ---- a walk from several roots

module _ {M : Type 0} (finds : M → List ℕ → Option Bool) (p : Patterns) (own : List Document) (base : List ℕ) (rs : List (List ℕ)) (limit : ℕ) (w : Walk M)
    (walked : IsWalked finds p own (sites_from own base rs) limit GoOn w) where
  pub all-graph : IsGraph own p.makes (sites_from own base rs) w.visits.list.items w.edges.items w.wrong.items (length w.visits.list.items)
  all-graph = all-read own p.makes (sites_from own base rs) w.visits.list.items w.edges.items w.wrong.items (length w.nodes.items) walked.all walked.walks.graph

  pub each-sound : Sounds shape_of w.nodes.items
  each-sound = is-sound own p.makes w.visits.list.items w.edges.items w.wrong.items (texts_of_table w.table) w.nodes.items walked.walks.nodes walked.all

  pub each-known : KnowsTable w.nodes.items w.table
  each-known = are-known own p.makes w.visits.list.items w.edges.items w.wrong.items (texts_of_table w.table) w.nodes.items walked.walks.nodes walked.all

  pub each-forms : AreForms finds w.table
  each-forms = forms_of_made finds w.table p.finished walked.walks.filled.made

module _ {M : Type 0} (finds : M → List ℕ → Option Bool) (p : Patterns) (own : List Document) (base : List ℕ) (rs : List (List ℕ)) (begun : Walk M) (visits : List Visit) (os : List (Option ℕ))
    (b : IsBegun begun visits) (starts : Start own base visits rs os) (graph : (makes : List ℕ → Bool) → IsGraph own makes (sites_from own base rs) visits [] [] 0) where
  pub walks-from : Walks finds p own (sites_from own base rs) begun
  walks-from = begun-walks finds p own (sites_from own base rs) begun visits b (graph p.makes)

  pub starts-then : (w : Walk M) → IsFront begun.visits.list.items w.visits.list.items → Start own base w.visits.list.items rs os
  starts-then w f =
      start-later own base begun.visits.list.items w.visits.list.items f.behind rs os f.is (subst (λ (vs : List Visit). Start own base vs rs os) (sym b.visits_are) starts)
