-- What a graph of all that is reached says of its roots.
use Rattle.std.proofs.Common.{◌≡◌, ◌∙◌, ◌<◌, ◌≤◌, ℕ, List, Bool, sym, subst, arith, length, map, slice_get}
use Rattle.std.proofs.lemmas.List.{length-map}
use Rattle.schema_meaning.specs.Members.{In}
use Rattle.schema_definitions.specs.Bearers.{Document}
use Rattle.schema_definitions.specs.BuildCauses.{Reached, at_root, by_keyword, IsCauseOf}
use Rattle.schema_definitions.specs.CompileKeys.{CompileKey}
use Rattle.schema_definitions.specs.Rows as rows
use Rattle.schema_definitions.specs.Rows.{Row, rows_at}
use Rattle.schema_definitions.specs.Sites.{Site}
use Rattle.schema_patterns.specs.Tables.{texts_of_table}
use Rattle.schema_patterns.specs.declared.table.PatternTable.{PatternTable}
use Rattle.reading_laws.specs.Asked.{AreAmong}
use Rattle.reading_laws.specs.Keys.{Distinct, IsReached, AreWithin, Exceeds, key_of_site}
use Rattle.reading_laws.proofs.Counting.{are-fewer}
use Rattle.marked_nodes.specs.Leading.{LeadsTo, here, along}
use Rattle.marked_nodes.specs.declared.graph.Edge.{Edge}
use Rattle.referencing.specs.Resolved.{documents_in}
use Rattle.reached_sites.specs.Visits.{site_of, key_at, Met, Belongs}
use Rattle.reached_sites.specs.declared.visit.Visit.{Visit}
use Rattle.reached_sites.proofs.Keying.{alike-key, key-in, keys-in}
use Rattle.reached_sites.proofs.Listing.{in-all, in-some, in-none}
use Rattle.reached_sites.proofs.Naming.{cause-through}
use Rattle.reached_sites.proofs.Writing.{site-written}
use Rattle.compiled_graphs.specs.Graphs.{IsVisited, led_from, wrong_at, HasCause, IsRead, IsGraph}
use Rattle.compiled_graphs.specs.Linked.{edge}
use Rattle.compiled_graphs.specs.Walked.{Notes}
use Rattle.compiled_graphs.proofs.Positions.{in-place, one-there, within}

module _ (own : List Document) (makes : List ℕ → Bool) where
  abbrev pub HasCauseFrom : Site → Type 0
  HasCauseFrom s = (c : rows.BuildCause) × IsCauseOf own makes s c

  own-cause : (s : Site) → HasCause own makes s → HasCauseFrom s
  own-cause s h =
      (h.0, record { site = s; reached = at_root; wrong = h.1 })

  led-cause : (s t : Site) → In t (led_from own makes s) → HasCauseFrom t → HasCauseFrom s
  led-cause s t i h =
      let r = in-some (λ (r : Row). r.leads) (rows_at own makes s) i in
      (h.0, cause-through own makes s t h.0 (by_keyword r.0 t at_root r.1 r.2) h.1)

  -- ---- the keys of the visits are reached

  module _ (roots : List Site) (vs : List Visit) (es : List Edge) (wrong : List ℕ) (n : ℕ) (g : IsGraph own makes roots vs es wrong n) where
    met-key : (v : Visit) (s : Site) → Belongs own v → Met v s → key_of_site own s ≡ key_at v
    met-key v s b m =
        subst (λ (ds : List Document). key_of_site ds s ≡ key_at v) b.documents (alike-key (documents_in v.site.resolver) s (site_of v) m.alike)

    key-reached : (k : CompileKey) → In k (map key_at vs) → IsReached own makes roots k
    key-reached k i =
        let h = keys-in vs k i in
        let r = g.reached h.0 h.1 in
        record { root = r.root; listed = r.listed; site = r.site; reached = r.reached; named = met-key h.0 r.site (g.belongs h.0 h.1) r.met ∙ h.2 }

    pub keys-exceed : Distinct (map key_at vs) → (limit : ℕ) → limit < length vs → Exceeds own makes roots limit
    keys-exceed a limit more = record {
      keys = map key_at vs;
      are = record { distinct = a; reached = key-reached };
      more = subst (λ m. limit < m) (sym (length-map vs key_at)) more;
    }

  -- ---- once all are read

  module _ (roots : List Site) (vs : List Visit) (es : List Edge) (wrong : List ℕ) (g : IsGraph own makes roots vs es wrong (length vs)) where
    pub read-at : (i : ℕ) (s : Site) (x : IsVisited vs i s) → IsRead own makes vs es wrong i s
    read-at i s x = g.read i (within vs i x.visit x.there) x.visit x.there s x.met

    -- what leads to a wrong one has a cause
    pub leads-wrong : (i : ℕ) → LeadsTo es wrong i → (s : Site) → IsVisited vs i s → HasCauseFrom s
    leads-wrong i (here j) s x =
        let w = g.wrong_ones i j in
        own-cause s (w.wrong s (subst (λ u. Met u s) (one-there (slice_get vs i) x.visit w.visit x.there w.there) x.met))
    leads-wrong _ (along e j l) s x =
        let w = g.edges_lead e j in
        let h = w.leads s (subst (λ u. Met u s) (one-there (slice_get vs e.from) x.visit w.visit x.there w.there) x.met) in
        led-cause s h.site h.led (leads-wrong e.to l h.site h.visited)

    -- what is reached from one that leads to none leads to none
    pub record IsClearAt (s : Site) : Type 0 where
      pub position : ℕ
      pub visited : IsVisited vs position s
      pub clear : LeadsTo es wrong position → ⊥

    module _ (i : ℕ) (clear : LeadsTo es wrong i → ⊥) (s : Site) (x : IsVisited vs i s) where
      clear-reached : (t : Site) → Reached own makes s t → IsClearAt t
      clear-reached _ at_root = record { position = i; visited = x; clear = clear }
      clear-reached _ (by_keyword {s = u} row t r k j) =
          let h = clear-reached u r in
          let l = (read-at h.position u h.visited).led t (in-all (λ (r : Row). r.leads) (rows_at own makes u) k j) in
          record { position = l.position; visited = l.visited; clear = λ leads. h.clear (along (edge h.position l.position) l.linked leads) }

      pub no-cause : (c : rows.BuildCause) → IsCauseOf own makes s c → ⊥
      no-cause c w =
          let h = clear-reached w.site w.reached in
          in-none (wrong_at own makes w.site) ((read-at h.position w.site h.visited).right (λ j. h.clear (here j))) w.wrong

      pub all-among : {M : Type 0} (table : PatternTable M) → Notes table vs wrong (length vs) → AreAmong own makes s (texts_of_table table)
      all-among table noted = record {
        each = λ t r k j p q.
            let h = clear-reached t r in
            noted h.position (within vs h.position h.visited.visit h.visited.there) (λ m. h.clear (here m)) h.visited.visit h.visited.there t h.visited.met p
            (site-written own makes t k j p q);
      }

    -- ---- all that is reached is visited

    module _ (begins : (r : Site) → In r roots → (i : ℕ) × IsVisited vs i r) where
      pub is-visited : (r s : Site) → In r roots → Reached own makes r s → (i : ℕ) × IsVisited vs i s
      is-visited r _ listed at_root = begins r listed
      is-visited r _ listed (by_keyword {s = u} row t q k j) =
          let h = is-visited r u listed q in
          let l = (read-at h.0 u h.1).led t (in-all (λ (r : Row). r.leads) (rows_at own makes u) k j) in
          (l.position, l.visited)

      key-visited : (k : CompileKey) → IsReached own makes roots k → In k (map key_at vs)
      key-visited k r =
          let h = is-visited r.root r.site r.listed r.reached in
          let listed = in-place vs h.0 h.1.visit h.1.there in
          subst (λ (l : CompileKey). In l (map key_at vs)) (sym (met-key roots vs es wrong (length vs) g h.1.visit r.site (g.belongs h.1.visit listed) h.1.met) ∙ r.named) (key-in vs h.1.visit listed)

      pub keys-within : (limit : ℕ) → length vs ≤ limit → AreWithin own makes roots limit
      keys-within limit few keys are =
          let fewer = are-fewer keys (map key_at vs) are.distinct (λ k i. key-visited k (are.reached k i)) in
          let same = length-map vs key_at in
          omega (arith, fewer, same, few)
