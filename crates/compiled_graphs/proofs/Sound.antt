-- Filled nodes lead to nodes, and schemas nest.
use Rattle.std.proofs.Common.{◌≡◌, ◌⊎◌, ℕ, suc, List, [], ◌∷◌, ◌++◌, Bool, true, false, true≢false, Option, Some, None, map, codes, sym, subst, inl, inr}
use Rattle.std.specs.List.{AllZip, flat_map}
use Rattle.std.specs.Borrow.{Bor}
use Rattle.serde_json.specs.Data.{Data, Items, no_items, item, Members, no_members, member, null, boolean, number, string, array, object}
use Rattle.serde_json.specs.View.{view, items_view, members_view}
use Rattle.serde_json.specs.declared.value.Value.{Value}
use Rattle.json_values.specs.Parts.{Part, name, index}
use Rattle.schema_meaning.specs.Members.{In, first, later}
use Rattle.schema_meaning.specs.Keywords.{Dependency, needs, applies, Form, Shape, asks_every}
use Rattle.schema_meaning.specs.Linked.{Linked}
use Rattle.schema_definitions.specs.Bearers.{Document, Documents}
use Rattle.schema_definitions.specs.Rows.{Row, sites_named, sites_applied}
use Rattle.schema_definitions.specs.Sites.{Site, below}
use Rattle.applicators.specs.Applied.{name_of, asks_of}
use Rattle.applicators.specs.Asks.{leads_by}
use Rattle.applicators.specs.Lent as lent
use Rattle.applicators.specs.Sites.{sites_of_list, sites_of_map, dependency_at, dependencies_in, site_of}
use Rattle.applicators.specs.declared.asks.AsksOf.TheVariants as asks
use Rattle.linked_meanings.specs.Related.{RelatedBeside, RelatedIfAny, RelatedDependency, related_needs, related_applies, RelatedEntry, RelatedForm, related_each_from, related_by_index, related_by_name, related_by_pattern, related_of_others, related_of_members, related_of_names, related_of_triggered, related_of_dependencies, related_of_branches, related_of_value, related_of_condition, RelatedShape, related_never, related_asserts, related_every, related_together, related_names, related_some, related_one, related_no, related_contains, related_condition, related_reference}
use Rattle.linked_meanings.proofs.Composed.{shape_so}
use Rattle.schema_engine.specs.Leads.{if_some, if_applies, subschemas_of, targets_of, leads_of}
use Rattle.schema_sites.specs.Read.{shapes_of}
use Rattle.schema_sites.specs.Read as sites
use Rattle.schema_sites.specs.declared.keyword.Keyword as read
use Rattle.schema_sites.specs.declared.keyword.Keyword.TheVariants as reads
use Rattle.compiled_keywords.specs.Shapes.{shape_of}
use Rattle.compiled_keywords.specs.declared.keyword.Keyword.{Keyword}
use Rattle.reached_sites.specs.declared.visit.Visit.{Visit}
use Rattle.reached_sites.proofs.Listing.{in-either, in-one, none-in}
use Rattle.reached_sites.proofs.Meeting.{below-path}
use Rattle.compiled_graphs.specs.Asked.{site_beside, beside_of, asked_by, IsAnswered}
use Rattle.compiled_graphs.specs.Filled.{IsOver, IsReached, AreReached, Means}
use Rattle.compiled_graphs.specs.Filled as filled
use Rattle.compiled_graphs.specs.Graphs.{IsVisited}
use Rattle.marked_nodes.specs.declared.graph.Edge.{Edge}

-- ---- what is among pairs

module _ {S T : Type 0} where
  abbrev pub pairs_of : List S → List T → List (S × T)
  pairs_of [] ts = []
  pairs_of (s ∷ ss) [] = []
  pairs_of (s ∷ ss) (t ∷ ts) = (s, t) ∷ pairs_of ss ts

  wider : (more : List (S × T)) (p : S × T) (ss : List S) (ts : List T) → AllZip (Linked more) ss ts → AllZip (Linked (p ∷ more)) ss ts
  wider more p [] [] h = tt
  wider more p [] (t ∷ ts) h = absurd h
  wider more p (s ∷ ss) [] h = absurd h
  wider more p (s ∷ ss) (t ∷ ts) h = (later h.0, wider more p ss ts h.1)

  -- lists beside one another are linked by their pairs
  pub all-linked : (R : S → T → Type 0) (ss : List S) (ts : List T) → AllZip R ss ts → AllZip (Linked (pairs_of ss ts)) ss ts
  all-linked R [] [] h = tt
  all-linked R [] (t ∷ ts) h = absurd h
  all-linked R (s ∷ ss) [] h = absurd h
  all-linked R (s ∷ ss) (t ∷ ts) h = (first, wider (pairs_of ss ts) (s, t) ss ts (all-linked R ss ts h.1))

  pub linked-in : (R : S → T → Type 0) (ss : List S) (ts : List T) (s : S) (t : T) → AllZip R ss ts → Linked (pairs_of ss ts) s t → R s t × In s ss
  linked-in R [] ts s t h i = none-in i
  linked-in R (x ∷ ss) [] s t h i = none-in i
  linked-in R (_ ∷ ss) (_ ∷ ts) _ _ h first = (h.0, first)
  linked-in R (x ∷ ss) (y ∷ ts) s t h (later i) = (let rest = linked-in R ss ts s t h.1 i in (rest.0, later rest.1))

-- ---- the subschemas of related shapes are related

module _ {S : Type 0} (R : S → ℕ → Type 0) (m : ℕ) where
  abbrev pub IsOfSome : Type 0
  IsOfSome = (s : S) × R s m

  of-one : (s : S) (n : ℕ) → R s n → In m (n ∷ []) → IsOfSome
  of-one s n r i = (s, subst (R s) (sym (in-one i)) r)

  of-list : (ss : List S) (ns : List ℕ) → AllZip R ss ns → In m ns → IsOfSome
  of-list [] [] h i = none-in i
  of-list [] (n ∷ ns) h i = absurd h
  of-list (s ∷ ss) [] h i = none-in i
  of-list (s ∷ ss) (_ ∷ ns) h first = (s, h.0)
  of-list (s ∷ ss) (n ∷ ns) h (later i) = of-list ss ns h.1 i

  of-named : (ps : List (List ℕ × S)) (qs : List (List ℕ × ℕ)) → AllZip (RelatedBeside R) ps qs → In m (map (λ q. q.1) qs) → IsOfSome
  of-named [] [] h i = none-in i
  of-named [] (q ∷ qs) h i = absurd h
  of-named (p ∷ ps) [] h i = none-in i
  of-named (p ∷ ps) (_ ∷ qs) h first = (p.1, h.0.1)
  of-named (p ∷ ps) (q ∷ qs) h (later i) = of-named ps qs h.1 i

  of-entry : (d : Dependency S) (e : Dependency ℕ) → RelatedDependency R d e → In m (if_applies e) → IsOfSome
  of-entry d e related_needs i = none-in i
  of-entry d e (related_applies {s = s} {t = t} r) i = of-one s t r i

  of-both : {xs ys : List ℕ} → (In m xs → IsOfSome) → (In m ys → IsOfSome) → In m xs ⊎ In m ys → IsOfSome
  of-both f g (inl i) = f i
  of-both f g (inr i) = g i

  of-entries : (ps : List (List ℕ × Dependency S)) (qs : List (List ℕ × Dependency ℕ)) → AllZip (RelatedEntry R) ps qs → In m (flat_map (λ q. if_applies q.1) qs) → IsOfSome
  of-entries [] [] h i = none-in i
  of-entries [] (q ∷ qs) h i = absurd h
  of-entries (p ∷ ps) [] h i = none-in i
  of-entries (p ∷ ps) (q ∷ qs) h i =
      of-both (λ j. of-entry p.1 q.1 h.0.1 j) (λ j. of-entries ps qs h.1 j) (in-either (if_applies q.1) (flat_map (λ x. if_applies x.1) qs) i)

  of-any : (x : Option S) (y : Option ℕ) → RelatedIfAny R x y → In m (if_some y) → IsOfSome
  of-any None None h i = none-in i
  of-any None (Some n) h i = absurd h
  of-any (Some s) None h i = none-in i
  of-any (Some s) (Some n) h i = of-one s n h i

  of-choice : (s : S) (t : ℕ) (x c : Option S) (y d : Option ℕ) → R s t → RelatedIfAny R x y → RelatedIfAny R c d → In m (t ∷ (if_some y ++ if_some d)) → IsOfSome
  of-choice s t x c y d r x_related c_related i =
      of-both (λ j. of-one s t r j) (λ j. of-both (of-any x y x_related) (of-any c d c_related) (in-either (if_some y) (if_some d) j)) (in-either (t ∷ []) (if_some y ++ if_some d) i)

  form-related : (k : List ℕ) (f : Form S) (g : Form ℕ) → RelatedForm R f g → In m (subschemas_of (asks_every k g)) → IsOfSome
  form-related k f g (related_each_from {s = s} {t = t} r) i = of-one s t r i
  form-related k f g (related_by_index {ss = ss} {ts = ts} r) i = of-list ss ts r i
  form-related k f g (related_by_name {ps = ps} {qs = qs} r) i = of-named ps qs r i
  form-related k f g (related_by_pattern {ps = ps} {qs = qs} r) i = of-named ps qs r i
  form-related k f g (related_of_others {s = s} {t = t} r) i = of-one s t r i
  form-related k f g (related_of_members {s = s} {t = t} r) i = of-one s t r i
  form-related k f g (related_of_names {s = s} {t = t} r) i = of-one s t r i
  form-related k f g (related_of_triggered {ps = ps} {qs = qs} r) i = of-named ps qs r i
  form-related k f g (related_of_dependencies {ps = ps} {qs = qs} r) i = of-entries ps qs r i
  form-related k f g (related_of_branches {ss = ss} {ts = ts} r) i = of-list ss ts r i
  form-related k f g (related_of_value {s = s} {t = t} r) i = of-one s t r i
  form-related k f g (related_of_condition {s = s} {t = t} {a = x} {c = c} {b = y} {d = d} r x_related c_related) i = of-choice s t x c y d r x_related c_related i

  pub subschema-related : (a : Shape S) (b : Shape ℕ) → RelatedShape R a b → In m (subschemas_of b) → IsOfSome
  subschema-related a b related_never i = none-in i
  subschema-related a b related_asserts i = none-in i
  subschema-related a b (related_every {k = k} {f = f} {g = g} r) i = form-related k f g r i
  subschema-related a b (related_together {k = k} {f = f} {g = g} r) i = form-related k f g r i
  subschema-related a b (related_names {s = s} {t = t} r) i = of-one s t r i
  subschema-related a b (related_some {k = k} {f = f} {g = g} r) i = form-related k f g r i
  subschema-related a b (related_one {k = k} {f = f} {g = g} r) i = form-related k f g r i
  subschema-related a b (related_no {s = s} {t = t} r) i = of-one s t r i
  subschema-related a b (related_contains {s = s} {t = t} r) i = of-one s t r i
  subschema-related a b (related_condition {s = s} {t = t} {a = x} {c = c} {b = y} {d = d} r x_related c_related) i = of-choice s t x c y d r x_related c_related i
  subschema-related a b (related_reference r) i = none-in i

  pub target-related : (a : Shape S) (b : Shape ℕ) → RelatedShape R a b → In m (targets_of b) → IsOfSome
  target-related a b (related_reference {s = s} {t = t} r) i = of-one s t r i
  target-related a b r i = none-in i

  pub lead-related : (follows : Bool) (a : Shape S) (b : Shape ℕ) → RelatedShape R a b → In m (leads_of follows b) → IsOfSome
  lead-related true a b r i = target-related a b r i
  lead-related false a b r i = subschema-related a b r i

-- ---- subschemas lie below

module _ (docs : Documents) (s : Site) where
  abbrev pub IsBelow : Site → Type 0
  IsBelow t = (p : Part) × (ps : List Part) × (t.path ≡ (p ∷ ps) ++ s.path)

  one-below : (p : Part) (ps : List Part) (d : Data) → IsBelow (below docs s (p ∷ ps) d)
  one-below p ps d = (p, ps, below-path docs s (p ∷ ps) d)

  list-below : (k : List ℕ) (i : ℕ) (ds : Items) (t : Site) → In t (sites_of_list (below docs s) k i ds) → IsBelow t
  list-below k i no_items t j = none-in j
  list-below k i (item d ds) _ first = one-below (index i) (name k ∷ []) d
  list-below k i (item d ds) t (later j) = list-below k (suc i) ds t j

  map-below : (k : List ℕ) (ms : Members) (t : Site) → In t (sites_named (sites_of_map (below docs s) k ms)) → IsBelow t
  map-below k no_members t j = none-in j
  map-below k (member n d ms) _ first = one-below (name n) (name k ∷ []) d
  map-below k (member n d ms) t (later j) = map-below k ms t j

  abbrev applied_to : Dependency Site → List Site
  applied_to d = elim d [ needs names ↦ [] | applies x ↦ x ∷ [] ]

  entry-below : (k n : List ℕ) (d : Data) (t : Site) → In t (applied_to (dependency_at (below docs s) k n d)) → IsBelow t
  entry-below k n (array ds) t j = none-in j
  entry-below k n null t j = subst IsBelow (sym (in-one j)) (one-below (name n) (name k ∷ []) null)
  entry-below k n (boolean b) t j = subst IsBelow (sym (in-one j)) (one-below (name n) (name k ∷ []) (boolean b))
  entry-below k n (number x) t j = subst IsBelow (sym (in-one j)) (one-below (name n) (name k ∷ []) (number x))
  entry-below k n (string x) t j = subst IsBelow (sym (in-one j)) (one-below (name n) (name k ∷ []) (string x))
  entry-below k n (object ms) t j = subst IsBelow (sym (in-one j)) (one-below (name n) (name k ∷ []) (object ms))

  both-below : (xs ys : List Site) (t : Site) → (In t xs → IsBelow t) → (In t ys → IsBelow t) → In t xs ⊎ In t ys → IsBelow t
  both-below xs ys t f g (inl i) = f i
  both-below xs ys t f g (inr i) = g i

  entries-below : (k : List ℕ) (ms : Members) (t : Site) → In t (sites_applied (dependencies_in (below docs s) k ms)) → IsBelow t
  entries-below k no_members t j = none-in j
  entries-below k (member n d ms) t j =
      let here = applied_to (dependency_at (below docs s) k n d) in
      let rest = sites_applied (dependencies_in (below docs s) k ms) in
      both-below here rest t (λ i. entry-below k n d t i) (λ i. entries-below k ms t i) (in-either here rest j)

  whole-below : (k : List ℕ) (d : Data) (t : Site) → In t (site_of (below docs s) k d ∷ []) → IsBelow t
  whole-below k d t j = subst IsBelow (sym (in-one j)) (one-below (name k) [] d)

  leads-below : (k : List ℕ) (f : lent.Asks) (t : Site) → In t (leads_by (below docs s) k f) → IsBelow t
  leads-below k (asks.ItemsFrom start schema) t j = whole-below k (view schema.now) t j
  leads-below k (asks.ItemByItem schemas) t j = list-below k 0 (items_view schemas.now) t j
  leads-below k (asks.DeclaredMembers schemas) t j = map-below k (members_view schemas.now.entries) t j
  leads-below k (asks.MatchingMembers schemas) t j = map-below k (members_view schemas.now.entries) t j
  leads-below k (asks.OtherMembers declared schema) t j = whole-below k (view schema.now) t j
  leads-below k (asks.Members schema) t j = whole-below k (view schema.now) t j
  leads-below k (asks.Names schema) t j = whole-below k (view schema.now) t j
  leads-below k (asks.Triggered schemas) t j = map-below k (members_view schemas.now.entries) t j
  leads-below k (asks.Dependencies entries) t j = entries-below k (members_view entries.now.entries) t j
  leads-below k (asks.Branches schemas) t j = list-below k 0 (items_view schemas.now) t j
  leads-below k (asks.Value schema) t j = whole-below k (view schema.now) t j
  leads-below k (asks.Condition condition then_schema else_schema) t j = whole-below k (view condition.now) t j

  beside-below : (k : List ℕ) (o : Option (Bor Value)) (t : Site) → In t (site_beside docs s k o) → IsBelow t
  beside-below k None t j = none-in j
  beside-below k (Some d) t j = subst IsBelow (sym (in-one j)) (one-below (name k) [] (view d.now))

  -- all that a keyword asks lies below, save the target of a reference, which has no subschemas
  pub asked-below : (k : read.Keyword) (a : Shape Site) (R : Site → ℕ → Type 0) (b : Shape ℕ) (m : ℕ) → In a (shapes_of docs s k) → RelatedShape R a b → In m (subschemas_of b)
      → (t : Site) → In t (asked_by docs s k) → IsBelow t
  asked-below reads.Nothing a R b m there r i t j = none-in j
  asked-below (reads.Assertion x) a R b m there r i t j = none-in j
  asked-below (reads.Pattern p) a R b m there r i t j = none-in j
  asked-below (reads.If c x y) a R b m there r i t j =
      let k = reads.If c x y in
      let xs = site_beside docs s (codes "then") x in
      let ys = site_beside docs s (codes "else") y in
      both-below (sites.leads_of docs s k) (beside_of docs s k) t (λ l. subst IsBelow (sym (in-one l)) (one-below (name (codes "if")) [] (view c.now)))
      (λ l. both-below xs ys t (beside-below (codes "then") x t) (beside-below (codes "else") y t) (in-either xs ys l))
      (in-either (sites.leads_of docs s k) (beside_of docs s k) j)
  asked-below (reads.Consequent k d) a R b m there r i t j = subst IsBelow (sym (in-one j)) (one-below (name k.now) [] (view d.now))
  asked-below (reads.Applicator x) a R b m there r i t j =
      let leads = sites.leads_of docs s (reads.Applicator x) in
      both-below leads [] t (leads-below (name_of x) (asks_of x) t) (λ l. none-in l) (in-either leads [] j)
  asked-below (reads.Reference k text target) _ R b m first (related_reference r) i t j = none-in i
  asked-below (reads.Reference k text target) a R b m (later there) r i t j = none-in there

-- ---- what filled nodes lead to

module _ (own : List Document) (s : Site) (i : ℕ) (vs : List Visit) (es : List Edge) (texts : List (List ℕ)) where
  abbrev AskedAt : List Site → Site → ℕ → Type 0
  AskedAt ss t n = IsVisited vs n t × In t ss

  -- one keyword's shape over what is visited
  pub record IsShown (k : read.Keyword) (c : Keyword) : Type 0 where
    pub shape : Shape Site
    pub stands : In shape (shapes_of own s k)
    pub related : RelatedShape (AskedAt (asked_by own s k)) shape (shape_of c)

  one-shown : (k : read.Keyword) (c : Keyword) (shapes : List (Shape Site)) (pairs : List (Site × ℕ)) → AllZip (RelatedShape (Linked pairs)) shapes (shape_of c ∷ [])
      → (shape : Shape Site) × In shape shapes × RelatedShape (Linked pairs) shape (shape_of c)
  one-shown k c [] pairs h = absurd h
  one-shown k c (x ∷ shapes) pairs h = (x, first, h.0)

  pub shown : (k : read.Keyword) (ns : List ℕ) (c : Keyword) → IsAnswered k → AreReached i vs es (asked_by own s k) ns → IsOver k ns (Some c) → IsShown k c
  shown k ns c answered visited over =
      let pairs = pairs_of (asked_by own s k) ns in
      let h = one-shown k c (shapes_of own s k) pairs (over.shapes own s pairs answered (all-linked (IsReached i vs es) (asked_by own s k) ns visited)) in
      record {
        shape = h.0;
        stands = h.1;
        related = shape_so (Linked pairs) (AskedAt (asked_by own s k)) (λ t n l. (let x = linked-in (IsReached i vs es) (asked_by own s k) ns t n visited l in (x.0.0, x.1))) h.0 (shape_of c) h.2;
      }

  abbrev pub LeadsTo : Bool → ℕ → Type 0
  LeadsTo follows m = (t : Site) × IsVisited vs m t × (follows ≡ false → IsBelow own s t)

  below-where : (k : read.Keyword) (c : Keyword) (h : IsShown k c) (follows : Bool) (m : ℕ) → In m (leads_of follows (shape_of c)) → (t : Site) → In t (asked_by own s k) → follows ≡ false → IsBelow own s t
  below-where k c h true m i t j e = absurd (true≢false e)
  below-where k c h false m i t j e = asked-below own s k h.shape (AskedAt (asked_by own s k)) (shape_of c) m h.stands h.related i t j

  one-leads : (k : read.Keyword) (c : Keyword) → IsShown k c → (follows : Bool) (m : ℕ) → In m (leads_of follows (shape_of c)) → LeadsTo follows m
  one-leads k c h follows m i =
      let x = lead-related (AskedAt (asked_by own s k)) m follows h.shape (shape_of c) h.related i in
      (x.0, x.1.0, λ e. below-where k c h follows m i x.0 x.1.1 e)

  -- each keyword of a filled node leads to what is visited, and below where no reference is followed
  pub all-lead : (rows : List Row) (ks : List Keyword) → Means own s i vs es texts rows ks → (c : Keyword) → In c ks → (follows : Bool) (m : ℕ) → In m (leads_of follows (shape_of c)) → LeadsTo follows m
  all-lead _ _ filled.none c i follows m j = none-in i
  all-lead _ _ (filled.refuses row is rest) _ first true m j = none-in j
  all-lead _ _ (filled.refuses row is rest) _ first false m j = none-in j
  all-lead _ _ (filled.refuses {rows = rows} {ks = ks} row is rest) c (later i) follows m j = all-lead rows ks rest c i follows m j
  all-lead _ _ (filled.asks {rows = rows} {ks = ks} row k ns None is answered visited over entries rest) c i follows m j = all-lead rows ks rest c i follows m j
  all-lead _ _ (filled.asks {rows = rows} {ks = ks} row k ns (Some x) is answered visited over entries rest) _ first follows m j = one-leads k x (shown k ns x answered visited over) follows m j
  all-lead _ _ (filled.asks {rows = rows} {ks = ks} row k ns (Some x) is answered visited over entries rest) c (later i) follows m j = all-lead rows ks rest c i follows m j
