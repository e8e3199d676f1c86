-- A graph of visits that grows by what the next one leads to.
use Rattle.std.proofs.Common.{◌≡◌, ◌⊎◌, ◌<◌, ◌+◌, ℕ, zero, suc, List, [], ◌∷◌, ◌++◌, Bool, true, false, Some, refl, sym, ap, subst, inl, inr, arith, length, slice_get}
use Rattle.std.specs.Prelude.{if◌then◌else◌}
use Rattle.schema_meaning.specs.Members.{In, first}
use Rattle.schema_definitions.specs.Bearers.{Document}
use Rattle.schema_definitions.specs.BuildCauses.{by_keyword}
use Rattle.schema_definitions.specs.Rows.{Row, rows_at}
use Rattle.schema_definitions.specs.Sites.{Site}
use Rattle.schema_patterns.specs.Tables.{texts_of_table}
use Rattle.schema_patterns.specs.declared.table.PatternTable.{PatternTable}
use Rattle.marked_nodes.specs.declared.graph.Edge.{Edge}
use Rattle.reached_sites.specs.Growing.{StandsAt}
use Rattle.reached_sites.specs.Patterns.{written, Holds}
use Rattle.reached_sites.specs.Visits.{Met, Belongs}
use Rattle.reached_sites.specs.declared.visit.Visit.{Visit}
use Rattle.reached_sites.proofs.Filling.{holds-too}
use Rattle.reached_sites.proofs.Listing.{in-before, in-behind, in-either, in-one, in-some}
use Rattle.compiled_graphs.specs.Graphs.{IsVisited, led_from, IsReachedFrom, IsEdge, IsReachedBy, IsRead, IsWrongAt, IsLed, IsGraph}
use Rattle.compiled_graphs.specs.Linked.{LeadsOn, Links}
use Rattle.compiled_graphs.specs.Walked.{Notes}
use Rattle.compiled_graphs.proofs.Positions.{in-place, kept-place, front-place, one-there, within}
use Rattle.compiled_graphs.specs.Walked.{ArePlaced}
use Rattle.compiled_graphs.proofs.Visits.{met-again}

pub kept-at : (old new added : List Visit) (i : ℕ) (v : Visit) → new ≡ old ++ added → slice_get old i ≡ Some v → slice_get new i ≡ Some v
kept-at old new added i v e at = subst (λ (vs : List Visit). slice_get vs i ≡ Some v) (sym e) (kept-place old added i v at)

pub visited-later : (old new added : List Visit) (i : ℕ) (s : Site) → new ≡ old ++ added → IsVisited old i s → IsVisited new i s
visited-later old new added i s e h = record { visit = h.visit; there = kept-at old new added i h.visit e h.there; met = h.met }

abbrev pub noted_wrong : Bool → List ℕ → ℕ → List ℕ
noted_wrong b wrong i = if b then wrong else wrong ++ i ∷ []

pub wrong-before : (b : Bool) (wrong : List ℕ) (i j : ℕ) → In j wrong → In j (noted_wrong b wrong i)
wrong-before true wrong i j h = h
wrong-before false wrong i j h = in-before wrong (i ∷ []) h

one-up : {j i : ℕ} → (j < i) ⊎ (j ≡ i) → (suc j < suc i) ⊎ (suc j ≡ suc i)
one-up (inl h) = inl (omega (arith, h))
one-up (inr e) = inr (ap suc e)

before-or-here : (j i : ℕ) → j < i + 1 → (j < i) ⊎ (j ≡ i)
before-or-here zero zero h = inr refl
before-or-here zero (suc i) h = inl (omega arith)
before-or-here (suc j) zero h = absurd (omega (arith, h))
before-or-here (suc j) (suc i) h = one-up (before-or-here j i (omega (arith, h)))

module _ (own : List Document) (makes : List ℕ → Bool) (roots : List Site) (placed : ArePlaced own roots) (old new leads : List Visit) (i : ℕ) (v : Visit) (es fs : List Edge) (wrong : List ℕ) (b : Bool)
    (at : slice_get old i ≡ Some v) (l : Links i old new leads es fs) (led : (s : Site) → Met v s → IsLed own makes s leads b) (g : IsGraph own makes roots old es wrong i) where
  abbrev added : List Visit
  added = l.extends.added

  its : IsReachedFrom own makes roots v
  its = g.reached v (in-place old i v at)

  lead-belongs : (w : Visit) → In w leads → Belongs own w
  lead-belongs w j = (led its.site its.met).belongs w j

  lead-reached : (w : Visit) → In w leads → IsReachedFrom own makes roots w
  lead-reached w j =
      let x = (led its.site its.met).site_for w j in
      let y = in-some (λ (r : Row). r.leads) (rows_at own makes its.site) x.1 in
      record { site = x.0; met = x.2; root = its.root; listed = its.listed; reached = by_keyword y.0 x.0 its.reached y.1 y.2 }

  either : (w : Visit) → In w new → In w old ⊎ In w added
  either w j = in-either old added (subst (λ vs. In w vs) l.extends.grown j)

  new-belongs : (w : Visit) → In w old ⊎ In w added → Belongs own w
  new-belongs w (inl j) = g.belongs w j
  new-belongs w (inr j) = lead-belongs w (l.extends.led_to w j)

  new-reached : (w : Visit) → In w old ⊎ In w added → IsReachedFrom own makes roots w
  new-reached w (inl j) = g.reached w j
  new-reached w (inr j) = lead-reached w (l.extends.led_to w j)

  -- what stands at a position for a lead stands for its sites
  pub stands-for : (w : Visit) → In w leads → (j : ℕ) → StandsAt new j w → (t : Site) → Met w t → IsVisited new j t
  stands-for w listed j h t m =
      let side = either h.0 (in-place new j h.0 h.1) in
      record {
        visit = h.0;
        there = h.1;
        met = met-again own makes roots placed h.0 w (new-belongs h.0 side) (lead-belongs w listed) (new-reached h.0 side) (lead-reached w listed) h.2 t m;
      }

  later : (j : ℕ) (s : Site) → IsVisited old j s → IsVisited new j s
  later j s h = visited-later old new added j s l.extends.grown h

  here : slice_get new i ≡ Some v
  here = kept-at old new added i v l.extends.grown at

  -- ---- edges

  edge-stays : (e : Edge) → IsEdge own makes old e → IsEdge own makes new e
  edge-stays e h = record {
    visit = h.visit;
    there = kept-at old new added e.from h.visit l.extends.grown h.there;
    leads = λ s m. (let x = h.leads s m in record { site = x.site; led = x.led; visited = later e.to x.site x.visited });
    within = (h.within.0, kept-at old new added e.to h.within.0 l.extends.grown h.within.1);
  }

  edge-leads : (e : Edge) → LeadsOn i new leads e → IsEdge own makes new e
  edge-leads e h = record {
    visit = v;
    there = subst (λ n. slice_get new n ≡ Some v) (sym h.from) here;
    leads = λ s m. (let x = (led s m).site_for h.visit h.listed in record { site = x.0; led = x.1; visited = stands-for h.visit h.listed e.to h.stands x.0 x.2 });
    within = (h.stands.0, h.stands.1);
  }

  any-edge : (e : Edge) → In e es ⊎ LeadsOn i new leads e → IsEdge own makes new e
  any-edge e (inl j) = edge-stays e (g.edges_lead e j)
  any-edge e (inr h) = edge-leads e h

  -- ---- what is read

  abbrev wrongs : List ℕ
  wrongs = noted_wrong b wrong i

  reached-stays : (j : ℕ) (t : Site) → IsReachedBy own makes old es j t → IsReachedBy own makes new fs j t
  reached-stays j t h = record { position = h.position; visited = later h.position t h.visited; linked = l.kept _ h.linked }

  read-stays : (j : ℕ) (s : Site) → IsRead own makes old es wrong j s → IsRead own makes new fs wrongs j s
  read-stays j s h = record {
    led = λ t k. reached-stays j t (h.led t k);
    right = λ none. h.right (λ k. none (wrong-before b wrong i j k));
  }

  reads-on : (t s : Site) (m : Met v s) → In t (led_from own makes s) → IsReachedBy own makes new fs i t
  reads-on t s m k =
      let x = (led s m).visit_for t k in
      let y = l.there x.0 x.1 in
      record { position = y.position; visited = stands-for x.0 x.1 y.position y.stands t x.2; linked = y.linked }

  is-right : (c : Bool) → b ≡ c → (In i (noted_wrong c wrong i) → ⊥) → b ≡ true
  is-right true e none = e
  is-right false e none = absurd (none (in-behind wrong (i ∷ []) first))

  read-here : (s : Site) → Met v s → IsRead own makes new fs wrongs i s
  read-here s m = record {
    led = λ t k. reads-on t s m k;
    right = λ none. (led s m).right (is-right b refl none);
  }

  read-any : (j : ℕ) → (j < i) ⊎ (j ≡ i) → (w : Visit) → slice_get new j ≡ Some w → (s : Site) → Met w s → IsRead own makes new fs wrongs j s
  read-any j (inl before) w there s m =
      let inside = within old i v at in
      let short : j < length old = omega (arith, before, inside) in
      read-stays j s (g.read j before w (front-place old added j w short (subst (λ (vs : List Visit). slice_get vs j ≡ Some w) l.extends.grown there)) s m)
  read-any j (inr same) w there s m =
      let one = one-there (slice_get new i) w v (subst (λ n. slice_get new n ≡ Some w) same there) here in
      subst (λ n. IsRead own makes new fs wrongs n s) (sym same) (read-here s (subst (λ u. Met u s) one m))

  -- ---- what is wrong

  wrong-stays : (j : ℕ) → IsWrongAt own makes old j → IsWrongAt own makes new j
  wrong-stays j h = record { visit = h.visit; there = kept-at old new added j h.visit l.extends.grown h.there; wrong = h.wrong }

  wrong-here : b ≡ false → IsWrongAt own makes new i
  wrong-here f = record { visit = v; there = here; wrong = λ s m. (led s m).wrong f }

  any-wrong : (j : ℕ) → In j wrong ⊎ In j (i ∷ []) → b ≡ false → IsWrongAt own makes new j
  any-wrong j (inl k) f = wrong-stays j (g.wrong_ones j k)
  any-wrong j (inr k) f = subst (λ n. IsWrongAt own makes new n) (sym (in-one k)) (wrong-here f)

  each-wrong : (c : Bool) → b ≡ c → (j : ℕ) → In j (noted_wrong c wrong i) → IsWrongAt own makes new j
  each-wrong true e j k = wrong-stays j (g.wrong_ones j k)
  each-wrong false e j k = any-wrong j (in-either wrong (i ∷ []) k) e

  pub graph-goes : IsGraph own makes roots new fs wrongs (i + 1)
  graph-goes = record {
    belongs = λ w j. new-belongs w (either w j);
    reached = λ w j. new-reached w (either w j);
    edges_lead = λ e j. any-edge e (l.new_ones e j);
    read = λ j h w there s m. read-any j (before-or-here j i h) w there s m;
    wrong_ones = λ j k. each-wrong b refl j k;
  }

-- ---- the table

module _ {M : Type 0} (table larger : PatternTable M) (old new leads : List Visit) (i : ℕ) (v : Visit) (es fs : List Edge) (wrong : List ℕ) (b : Bool)
    (at : slice_get old i ≡ Some v) (l : Links i old new leads es fs) (more : Holds larger (texts_of_table table)) (written_here : b ≡ true → (s : Site) → Met v s → Holds larger (written s)) where
  not-wrong : (c : Bool) → b ≡ c → (In i (noted_wrong c wrong i) → ⊥) → b ≡ true
  not-wrong true e none = e
  not-wrong false e none = absurd (none (in-behind wrong (i ∷ []) first))

  noted-any : Notes table old wrong i → (j : ℕ) → (j < i) ⊎ (j ≡ i) → (In j (noted_wrong b wrong i) → ⊥) → (w : Visit) → slice_get new j ≡ Some w → (s : Site) → Met w s → Holds larger (written s)
  noted-any notes j (inl before) none w there s m =
      let inside = within old i v at in
      let short : j < length old = omega (arith, before, inside) in
      holds-too table larger (written s)
      (notes j before (λ k. none (wrong-before b wrong i j k)) w (front-place old l.extends.added j w short (subst (λ (vs : List Visit). slice_get vs j ≡ Some w) l.extends.grown there)) s m) more
  noted-any notes j (inr same) none w there s m =
      let here = kept-at old new l.extends.added i v l.extends.grown at in
      let one = one-there (slice_get new i) w v (subst (λ n. slice_get new n ≡ Some w) same there) here in
      written_here (not-wrong b refl (subst (λ n. In n (noted_wrong b wrong i) → ⊥) same none)) s (subst (λ u. Met u s) one m)

  pub notes-go : Notes table old wrong i → Notes larger new (noted_wrong b wrong i) (i + 1)
  notes-go notes j h none w there s m = noted-any notes j (before-or-here j i h) none w there s m
