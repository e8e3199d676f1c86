-- What a graph means once all its nodes are filled.
use Rattle.std.proofs.Common.{◌≡◌, ◌∙◌, ◌<◌, ◌≤◌, ℕ, zero, suc, List, [], ◌∷◌, ◌++◌, Bool, true, false, Option, Some, None, map, refl, sym, ap, subst, arith, length, slice_get}
use Rattle.std.proofs.lemmas.List.{map-append, length-append}
use Rattle.std.specs.List.{AllZip, flat_map}
use Rattle.json_values.specs.Parts.{Part}
use Rattle.schema_meaning.specs.Members.{In, first, later, Reordered, nothing_left, kept}
use Rattle.schema_meaning.specs.Linked.{Linked}
use Rattle.schema_definitions.specs.Bearers.{Document}
use Rattle.schema_definitions.specs.Plain.{keywords_at}
use Rattle.schema_definitions.specs.Rows.{Row, rows_at}
use Rattle.schema_definitions.specs.Sites.{Site}
use Rattle.linked_meanings.specs.Related.{RelatedShape, related_never}
use Rattle.linked_meanings.proofs.Composed.{shapes_so, shapes_through}
use Rattle.reading_laws.specs.SiteLaws.{AreAlike}
use Rattle.reading_laws.specs.Spelled.{spelled}
use Rattle.reading_laws.proofs.Reading.{alike_have_keywords}
use Rattle.schema_engine.specs.Graphs as engine
use Rattle.schema_engine.specs.Graphs.{rank_at, path_at, IsSound, AreKnown}
use Rattle.schema_engine.specs.Leads.{subschemas_of, leads_of}
use Rattle.schema_engine.specs.declared.node.Node.{Node}
use Rattle.schema_sites.specs.Read.{shapes_of}
use Rattle.schema_sites.specs.declared.keyword.Keyword as read
use Rattle.compiled_keywords.specs.Shapes.{shape_of, Knows}
use Rattle.compiled_keywords.specs.declared.keyword.Keyword.{Keyword}
use Rattle.compiled_keywords.specs.declared.keyword.Keyword.TheVariants as code
use Rattle.keyword_compilers.specs.Patterns.{table_texts}
use Rattle.keyword_compilers.specs.Shapes.{shapes_in}
use Rattle.keyword_compilers.proofs.Numbering.{knows_entries}
use Rattle.reached_sites.specs.Visits.{site_of, Met, Belongs}
use Rattle.graph_answers.specs.Linking.{IsLocatedAt}
use Rattle.reached_sites.specs.declared.visit.Visit.{Visit}
use Rattle.reached_sites.proofs.Listing.{in-none, none-in}
use Rattle.compiled_graphs.specs.Asked.{asked_by, IsAnswered}
use Rattle.compiled_graphs.specs.Filled.{listed, IsOver, IsReached, AreReached, IsRank, Means, HasNode, HasNodes}
use Rattle.compiled_graphs.specs.Filled as filled
use Rattle.compiled_graphs.specs.Graphs.{IsVisited}
use Rattle.marked_nodes.specs.declared.graph.Edge.{Edge}
use Rattle.compiled_graphs.proofs.Positions.{in-place, one-there, within}
use Rattle.compiled_graphs.proofs.Visits.{met-among}
use Rattle.compiled_graphs.proofs.Sound.{pairs_of, all-linked, linked-in, IsBelow, all-lead}

-- ---- the keywords of filled nodes

pub same-order : {A : Type 0} (xs : List A) → Reordered xs xs
same-order [] = nothing_left
same-order (x ∷ xs) = kept (same-order xs)

zip-joined : {A B : Type 0} (R : A → B → Type 0) (xs ys : List A) (ns ms : List B) → AllZip R xs ns → AllZip R ys ms → AllZip R (xs ++ ys) (ns ++ ms)
zip-joined R [] ys [] ms h g = g
zip-joined R [] ys (n ∷ ns) ms h g = absurd h
zip-joined R (x ∷ xs) ys [] ms h g = absurd h
zip-joined R (x ∷ xs) ys (n ∷ ns) ms h g = (h.0, zip-joined R xs ys ns ms h.1 g)

module _ (own : List Document) (s : Site) (i : ℕ) (vs : List Visit) (es : List Edge) (texts : List (List ℕ)) where
  abbrev At : Site → ℕ → Type 0
  At t n = IsReached i vs es t n

  listed-shapes : (o : Option Keyword) → map shape_of (listed o) ≡ shapes_in o
  listed-shapes None = refl
  listed-shapes (Some k) = refl

  one-related : (k : read.Keyword) (ns : List ℕ) (o : Option Keyword) → IsAnswered k → AreReached i vs es (asked_by own s k) ns → IsOver k ns o → AllZip (RelatedShape At) (shapes_of own s k) (map shape_of (listed o))
  one-related k ns o answered visited over =
      let sites = asked_by own s k in
      let pairs = pairs_of sites ns in
      subst (λ bs. AllZip (RelatedShape At) (shapes_of own s k) bs) (sym (listed-shapes o))
      (shapes_so (Linked pairs) At (λ t n l. (linked-in At sites ns t n visited l).0) (shapes_of own s k) (shapes_in o) (over.shapes own s pairs answered (all-linked At sites ns visited)))

  pub all-related : (rows : List Row) (ks : List Keyword) → Means own s i vs es texts rows ks → AllZip (RelatedShape At) (flat_map (λ (r : Row). r.shapes) rows) (map shape_of ks)
  all-related _ _ filled.none = tt
  all-related _ _ (filled.refuses {rows = rows} {ks = ks} row is rest) =
      subst (λ (r : Row). AllZip (RelatedShape At) (r.shapes ++ flat_map (λ (r : Row). r.shapes) rows) (map shape_of (code.Never ∷ ks))) (sym is) (related_never, all-related rows ks rest)
  all-related _ _ (filled.asks {rows = rows} {ks = ks} row k ns o is answered visited over entries rest) =
      subst (λ bs. AllZip (RelatedShape At) (row.shapes ++ flat_map (λ (r : Row). r.shapes) rows) bs) (sym (map-append shape_of (listed o) ks))
      (subst (λ (r : Row). AllZip (RelatedShape At) (r.shapes ++ flat_map (λ (r : Row). r.shapes) rows) (map shape_of (listed o) ++ map shape_of ks)) (sym is)
      (zip-joined (RelatedShape At) (shapes_of own s k) (flat_map (λ (r : Row). r.shapes) rows) (map shape_of (listed o)) (map shape_of ks) (one-related k ns o answered visited over) (all-related rows ks rest)))

  -- each keyword knows its patterns
  pub all-known : (rows : List Row) (ks : List Keyword) → Means own s i vs es texts rows ks → (c : Keyword) → In c ks → Knows c (table_texts texts)
  all-known _ _ filled.none c i = none-in i
  all-known _ _ (filled.refuses row is rest) _ first = tt
  all-known _ _ (filled.refuses {rows = rows} {ks = ks} row is rest) c (later i) = all-known rows ks rest c i
  all-known _ _ (filled.asks {rows = rows} {ks = ks} row k ns None is answered visited over entries rest) c i = all-known rows ks rest c i
  all-known _ _ (filled.asks row k ns (Some x) is answered visited over entries rest) _ first = knows_entries texts x entries
  all-known _ _ (filled.asks {rows = rows} {ks = ks} row k ns (Some x) is answered visited over entries rest) c (later i) = all-known rows ks rest c i

-- ---- a graph of filled nodes

module _ (own : List Document) (makes : List ℕ → Bool) (vs : List Visit) (es : List Edge) (wrong : List ℕ) (texts : List (List ℕ)) (nodes : List (Node Keyword)) (has : HasNodes own makes vs es wrong texts nodes)
    (all : length vs ≤ length nodes) where
  -- what a keyword of a node tells of it
  pub record Stands (n : ℕ) (k : Keyword) : Type 0 where
    pub node : Node Keyword
    pub there : slice_get nodes n ≡ Some node
    pub its : HasNode own makes vs es wrong texts n node
    pub listed : In k node.keywords.items
    pub means : Means own (site_of its.visit) n vs es texts (rows_at own makes (site_of its.visit)) node.keywords.items

  right-where : (b : Bool) (node : Node Keyword) (k : Keyword) → (b ≡ false → node.keywords.items ≡ []) → In k node.keywords.items → b ≡ true
  right-where true node k h i = refl
  right-where false node k h i = in-none node.keywords.items (h refl) i

  stands-in : (n : ℕ) (k : Keyword) (o : Option (Node Keyword)) → slice_get nodes n ≡ o → In k (engine.keywords_or_none o) → Stands n k
  stands-in n k None e i = none-in i
  stands-in n k (Some node) e i =
      let h = has.each n node e in
      record { node = node; there = e; its = h; listed = i; means = h.is.means (right-where h.is_right node k h.is.empty i) }

  pub stands : (n : ℕ) (k : Keyword) → In k (engine.keywords_at nodes n) → Stands n k
  stands n k i = stands-in n k (slice_get nodes n) refl i

  -- ---- it is sound

  leads-within : (n : ℕ) (k : Keyword) (follows : Bool) (m : ℕ) → In k (engine.keywords_at nodes n) → In m (leads_of follows (shape_of k)) → m < length nodes
  leads-within n k follows m i j =
      let h = stands n k i in
      let s = site_of h.its.visit in
      let x = all-lead own s n vs es texts (rows_at own makes s) h.node.keywords.items h.means k h.listed follows m j in
      let inside = within vs m x.1.visit x.1.there in
      omega (arith, inside, all)

  ranked : (n : ℕ) (node : Node Keyword) → slice_get nodes n ≡ Some node → rank_at nodes n ≡ node.rank
  ranked n node e = ap engine.rank_or_zero e

  node-at : (n : ℕ) → n < length nodes → (node : Node Keyword) × (slice_get nodes n ≡ Some node)
  node-at n h = there nodes n h
    where
      there : (ns : List (Node Keyword)) (i : ℕ) → i < length ns → (node : Node Keyword) × (slice_get ns i ≡ Some node)
      there [] i h = absurd (omega (arith, h))
      there (x ∷ ns) zero h = (x, refl)
      there (x ∷ ns) (suc i) h = there ns i (omega (arith, h))

  lower : (p q : List Part) (a b : ℕ) → length q < length p → IsRank p a → IsRank q b → a < b
  lower p q a b h e f = omega (arith, h, e, f)

  longer : (s t : Site) → IsBelow own s t → length s.path < length t.path
  longer s t h =
      let one = ap length h.2 in
      let two = length-append (h.0 ∷ h.1) s.path in
      omega (arith, one, two)

  schemas-fall : (n : ℕ) (k : Keyword) (m : ℕ) → In k (engine.keywords_at nodes n) → In m (subschemas_of (shape_of k)) → rank_at nodes m < rank_at nodes n
  schemas-fall n k m i j =
      let h = stands n k i in
      let s = site_of h.its.visit in
      let x = all-lead own s n vs es texts (rows_at own makes s) h.node.keywords.items h.means k h.listed false m j in
      let inner = node-at m (leads-within n k false m i j) in
      let g = has.each m inner.0 inner.1 in
      let same = one-there (slice_get vs m) x.1.visit g.visit x.1.there g.there in
      let met = subst (λ u. Met u x.0) same x.1.met in
      let long = subst (λ p. length s.path < length p) met.alike.path (longer s x.0 (x.2 refl)) in
      let fall = lower g.visit.point.place.path h.its.visit.point.place.path inner.0.rank h.node.rank long g.is.rank h.its.is.rank in
      subst (λ r. r < rank_at nodes n) (sym (ranked m inner.0 inner.1)) (subst (λ r. inner.0.rank < r) (sym (ranked n h.node h.there)) fall)

  pub is-sound : IsSound shape_of nodes
  is-sound = record { below = leads-within; falls = schemas-fall }

  pub are-known : AreKnown Knows (table_texts texts) nodes
  are-known = record {
    each = λ n k i.
        let h = stands n k i in
        let s = site_of h.its.visit in
        all-known own s n vs es texts (rows_at own makes s) h.node.keywords.items h.means k h.listed;
  }

  -- ---- at a visit where nothing is wrong

  keywords-there : (n : ℕ) (node : Node Keyword) → slice_get nodes n ≡ Some node → engine.keywords_at nodes n ≡ node.keywords.items
  keywords-there n node e = ap engine.keywords_or_none e

  visited-alike : (t u : Site) (m : ℕ) → (y : IsVisited vs m u) → Belongs own y.visit → AreAlike own t u → IsVisited vs m t
  visited-alike t u m y b a = record { visit = y.visit; there = y.there; met = met-among own y.visit t u b a y.met }

  -- the keywords of a site are those of its node
  pub keywords-mean : (s : Site) (n : ℕ) → ((v : Visit) → In v vs → Belongs own v) → (In n wrong → ⊥) → IsVisited vs n s
      → AllZip (RelatedShape (IsReached n vs es)) (keywords_at own makes s) (map shape_of (engine.keywords_at nodes n))
  keywords-mean s n belongs clear x =
      let inside = within vs n x.visit x.there in
      let found = node-at n (omega (arith, inside, all)) in
      let h = has.each n found.0 found.1 in
      let same = one-there (slice_get vs n) h.visit x.visit h.there x.there in
      let means = h.is.means (h.known clear) in
      let v = h.visit in
      let b = belongs x.visit (in-place vs n x.visit x.there) in
      let alike = subst (λ (u : Visit). AreAlike own s (site_of u)) (sym same) (subst (λ (ds : List Document). AreAlike ds s (site_of x.visit)) b.documents x.met.alike) in
      subst (λ ks. AllZip (RelatedShape (IsReached n vs es)) (keywords_at own makes s) (map shape_of ks)) (sym (keywords-there n found.0 found.1))
      (shapes_through (AreAlike own) (IsReached n vs es) (IsReached n vs es) (λ t u m a y. (visited-alike t u m y.0 (belongs y.0.visit (in-place vs m y.0.visit y.0.there)) a, y.1)) (keywords_at own makes s)
      (keywords_at own makes (site_of v)) (map shape_of found.0.keywords.items) (alike_have_keywords own makes s (site_of v) alike) (all-related own (site_of v) n vs es texts (rows_at own makes (site_of v)) found.0.keywords.items means))

  pub located-mean : (n : ℕ) (v : Visit) (node : Node Keyword) → slice_get vs n ≡ Some v → slice_get nodes n ≡ Some node → IsLocatedAt (site_of v) node
  located-mean n v node at there =
      let h = has.each n node there in
      subst (λ (u : Visit). IsLocatedAt (site_of u) node) (one-there (slice_get vs n) h.visit v h.there at) h.is.located

  pub paths-mean : (s : Site) (n : ℕ) → IsVisited vs n s → spelled s.schema_path ≡ path_at nodes n
  paths-mean s n x =
      let inside = within vs n x.visit x.there in
      let found = node-at n (omega (arith, inside, all)) in
      let h = has.each n found.0 found.1 in
      let same = one-there (slice_get vs n) h.visit x.visit h.there x.there in
      x.met.alike.road ∙ x.visit.point.schema_path.named ∙ ap (λ (v : Visit). v.point.schema_path.steps) (sym same) ∙ sym h.is.path ∙ sym (ap engine.path_or_root found.1)
