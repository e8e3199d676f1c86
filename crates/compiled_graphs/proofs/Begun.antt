-- References that begin, one by one.
use Rattle.std.proofs.Common.{◌≡◌, ◌∙◌, ◌⊎◌, ℕ, List, [], ◌∷◌, ◌++◌, Bool, true, false, Option, Some, None, Ok, Err, refl, sym, ap, subst, inl, inr, append-nil, append_assoc, arith}
use Rattle.std.specs.List.{list_all}
use Rattle.schema_meaning.specs.Members.{In, first}
use Rattle.schema_definitions.specs.Bearers.{Document}
use Rattle.schema_definitions.specs.Lookup.{Target, lookup}
use Rattle.schema_definitions.specs.BuildCauses.{at_root}
use Rattle.schema_definitions.specs.Sites.{Site}
use Rattle.document_laws.specs.TargetLaws.{are_apart, contents_rise, IsTarget, by_reference}
use Rattle.reached_sites.specs.Visits.{Belongs}
use Rattle.reached_sites.specs.declared.visit.Visit.{Visit}
use Rattle.reached_sites.proofs.Listing.{in-before, in-behind, in-either, in-one, none-in}
use Rattle.compiled_graphs.specs.Graphs.{IsVisited, IsReachedFrom, IsGraph}
use Rattle.compiled_graphs.specs.Linked.{Extends}
use Rattle.schema_registries.specs.Roots.{base_at, site_behind}
use Rattle.compiled_graphs.specs.Starts.{site_inside, site_of_answer, sites_from, Starts, StartsAt, Start, Begins, StartsOne}
use Rattle.compiled_graphs.proofs.Growing.{visited-later}
use Rattle.compiled_graphs.proofs.Edges.{extends-none, extends-more}
use Rattle.compiled_graphs.proofs.Positions.{in-place, zip-push}
use Rattle.compiled_graphs.proofs.Visits.{met-again, reached-more}
use Rattle.compiled_graphs.specs.Walked.{ArePlaced}

module _ (own : List Document) (base : List ℕ) where
  -- ---- the sites of references

  pub sites-more : (rs : List (List ℕ)) (r : List ℕ) → sites_from own base (rs ++ r ∷ []) ≡ sites_from own base rs ++ site_of_answer own base (lookup own base r)
  sites-more [] r = append-nil (site_of_answer own base (lookup own base r))
  sites-more (q ∷ rs) r =
      ap (λ ss. site_of_answer own base (lookup own base q) ++ ss) (sites-more rs r)
      ∙ sym (append_assoc (site_of_answer own base (lookup own base q)) (sites_from own base rs) (site_of_answer own base (lookup own base r)))

  abbrev IsRoot : Site → Type 0
  IsRoot s = (before : List (List ℕ)) × (t : Target) × IsTarget own t × (s ≡ site_behind before t)

  answer-root : (r : List ℕ) (a : _) → lookup own base r ≡ a → (s : Site) → In s (site_of_answer own base a) → IsRoot s
  answer-root r (Ok t) e s i = (base_at own base ∷ [], t, by_reference base r e, in-one i)
  answer-root r (Err c) e s i = none-in i

  either-root : (r : List ℕ) (rs : List (List ℕ)) (s : Site) → (In s (sites_from own base rs) → IsRoot s) → In s (site_of_answer own base (lookup own base r)) ⊎ In s (sites_from own base rs) → IsRoot s
  either-root r rs s rest (inl j) = answer-root r (lookup own base r) refl s j
  either-root r rs s rest (inr j) = rest j

  sites-root : (rs : List (List ℕ)) (s : Site) → In s (sites_from own base rs) → IsRoot s
  sites-root [] s i = none-in i
  sites-root (r ∷ rs) s i = either-root r rs s (sites-root rs s) (in-either (site_of_answer own base (lookup own base r)) (sites_from own base rs) i)

  pub sites-placed : are_apart own ≡ true → list_all contents_rise own ≡ true → (rs : List (List ℕ)) → ArePlaced own (sites_from own base rs)
  sites-placed apart rise rs = record { apart = apart; rise = rise; targets = λ s i. sites-root rs s i }

  -- ---- visits stay

  starts-later : (old new added : List Visit) (r : List ℕ) (o : Option ℕ) → new ≡ old ++ added → StartsAt own base old r o → StartsAt own base new r o
  starts-later old new added r None e h = h
  starts-later old new added r (Some i) e h = record { target = h.target; found = h.found; visited = visited-later old new added i (site_inside own base h.target) e h.visited }

  pub start-later : (old new added : List Visit) (rs : List (List ℕ)) (starts : List (Option ℕ)) → new ≡ old ++ added → Start own base old rs starts → Start own base new rs starts
  start-later old new added [] [] e h = h
  start-later old new added [] (o ∷ os) e h = absurd h
  start-later old new added (r ∷ rs) [] e h = absurd h
  start-later old new added (r ∷ rs) (o ∷ os) e h = (starts-later old new added r o e h.0, start-later old new added rs os e h.1)

  -- each site of references that begin is visited
  visited-of : (vs : List Visit) (r : List ℕ) (o : Option ℕ) (a : _) → lookup own base r ≡ a → StartsAt own base vs r o → (s : Site) → In s (site_of_answer own base a) → (i : ℕ) × IsVisited vs i s
  visited-of vs r None (Ok t) e h s i = (let no : Ok t ≡ Err h.0 = sym e ∙ h.1 in absurd (cc (no)))
  visited-of vs r (Some j) (Ok t) e h s i =
      let same : Ok h.target ≡ Ok t = sym h.found ∙ e in
      let one : h.target ≡ t = cc in
      (j, subst (λ u. IsVisited vs j u) (ap (site_inside own base) one ∙ sym (in-one i)) h.visited)
  visited-of vs r o (Err c) e h s i = none-in i

  abbrev Somewhere : List Visit → Site → Type 0
  Somewhere vs s = (i : ℕ) × IsVisited vs i s

  either-visited : (vs : List Visit) (r : List ℕ) (rs : List (List ℕ)) (o : Option ℕ) (s : Site) → StartsAt own base vs r o → (In s (sites_from own base rs) → Somewhere vs s)
      → In s (site_of_answer own base (lookup own base r)) ⊎ In s (sites_from own base rs) → Somewhere vs s
  either-visited vs r rs o s h rest (inl j) = visited-of vs r o (lookup own base r) refl h s j
  either-visited vs r rs o s h rest (inr j) = rest j

  pub sites-visited : (vs : List Visit) (rs : List (List ℕ)) (os : List (Option ℕ)) → Start own base vs rs os → (s : Site) → In s (sites_from own base rs) → Somewhere vs s
  sites-visited vs [] os h s i = none-in i
  sites-visited vs (r ∷ rs) [] h s i = absurd h
  sites-visited vs (r ∷ rs) (o ∷ os) h s i = either-visited vs r rs o s h.0 (sites-visited vs rs os h.1 s) (in-either (site_of_answer own base (lookup own base r)) (sites_from own base rs) i)

  -- ---- one reference more

  module _ (makes : List ℕ → Bool) where
    -- visits that are reached from some references, none of them read yet
    pub record AreBegun (rs : List (List ℕ)) (vs : List Visit) : Type 0 where
      pub belongs : (v : Visit) → In v vs → Belongs own v
      pub reached : (v : Visit) → In v vs → IsReachedFrom own makes (sites_from own base rs) v

    pub begun-none : AreBegun [] []
    begun-none = record { belongs = λ v i. none-in i; reached = λ v i. none-in i }

    pub begun-graph : (rs : List (List ℕ)) (vs : List Visit) → AreBegun rs vs → IsGraph own makes (sites_from own base rs) vs [] [] 0
    begun-graph rs vs b = record {
      belongs = b.belongs;
      reached = b.reached;
      edges_lead = λ e i. none-in i;
      read = λ i h v at s m. absurd (omega (arith, h));
      wrong_ones = λ i j. none-in j;
    }

    module _ (rs : List (List ℕ)) (r : List ℕ) (apart : are_apart own ≡ true) (rise : list_all contents_rise own ≡ true) where
      abbrev more : List (List ℕ)
      more = rs ++ r ∷ []

      reached-too : (v : Visit) → IsReachedFrom own makes (sites_from own base rs) v → IsReachedFrom own makes (sites_from own base more) v
      reached-too v h =
          reached-more own makes (sites_from own base rs) (sites_from own base more) v
          (λ s i. subst (λ ss. In s ss) (sym (sites-more rs r)) (in-before (sites_from own base rs) (site_of_answer own base (lookup own base r)) i)) h

      pub begun-nowhere : (old new : List Visit) → new ≡ old → AreBegun rs old → AreBegun more new
      begun-nowhere old new e b = subst (λ (vs : List Visit). AreBegun more vs) (sym e) (record { belongs = b.belongs; reached = λ v i. reached-too v (b.reached v i) })

      module _ (old new : List Visit) (i : ℕ) (h : Begins own base r old new i) (b : AreBegun rs old) where
        root-listed : In (site_inside own base h.target) (sites_from own base more)
        root-listed =
            subst (λ ss. In (site_inside own base h.target) ss) (sym (sites-more rs r))
            (in-behind (sites_from own base rs) (site_of_answer own base (lookup own base r)) (subst (λ a. In (site_inside own base h.target) (site_of_answer own base a)) (sym h.found) first))

        its : IsReachedFrom own makes (sites_from own base more) h.visit
        its = record { site = site_inside own base h.target; met = h.met; root = site_inside own base h.target; listed = root-listed; reached = at_root }

        grown : Extends old new (h.visit ∷ [])
        grown = extends-more old new new h.visit [] h.adds (extends-none new)

        either : (w : Visit) → In w new → In w old ⊎ (w ≡ h.visit)
        either w j = by (in-either old grown.added (subst (λ vs. In w vs) grown.grown j))
          where
            by : In w old ⊎ In w grown.added → In w old ⊎ (w ≡ h.visit)
            by (inl k) = inl k
            by (inr k) = inr (in-one (grown.led_to w k))

        belongs-any : (w : Visit) → In w old ⊎ (w ≡ h.visit) → Belongs own w
        belongs-any w (inl j) = b.belongs w j
        belongs-any w (inr e) = subst (λ u. Belongs own u) (sym e) h.belongs

        reached-any : (w : Visit) → In w old ⊎ (w ≡ h.visit) → IsReachedFrom own makes (sites_from own base more) w
        reached-any w (inl j) = reached-too w (b.reached w j)
        reached-any w (inr e) = subst (λ u. IsReachedFrom own makes (sites_from own base more) u) (sym e) its

        pub begun-more : AreBegun more new
        begun-more = record { belongs = λ w j. belongs-any w (either w j); reached = λ w j. reached-any w (either w j) }

        pub starts-there : Starts own base r new i
        starts-there =
            let s = h.stands in
            let side = either s.0 (in-place new i s.0 s.1) in
            record {
              target = h.target;
              found = h.found;
              visited = record {
                visit = s.0;
                there = s.1;
                met = met-again own makes (sites_from own base more) (sites-placed apart rise more) s.0 h.visit (belongs-any s.0 side) h.belongs (reached-any s.0 side) its s.2 (site_inside own base h.target) h.met;
              };
            }

        pub begun-extends : (added : List Visit) × (new ≡ old ++ added)
        begun-extends = (grown.added, grown.grown)

-- ---- a loop over references

pub record Starting (own : List Document) (base : List ℕ) (rs : List (List ℕ)) (vs : List Visit) (os : List (Option ℕ)) : Type 0 where
  pub begun : (makes : List ℕ → Bool) → AreBegun own base makes rs vs
  pub starts : Start own base vs rs os

pub starting-goes : (own : List Document) (base : List ℕ) → are_apart own ≡ true → list_all contents_rise own ≡ true → (rs : List (List ℕ)) (r : List ℕ) (old new : List Visit) (os : List (Option ℕ)) (o : Option ℕ)
    → StartsOne own base r old new o → Starting own base rs old os → Starting own base (rs ++ r ∷ []) new (os ++ o ∷ [])
starting-goes own base apart rise rs r old new os None h s = record {
  begun = λ makes. begun-nowhere own base makes rs r apart rise old new h.1 (s.begun makes);
  starts = zip-push (StartsAt own base new) rs os r None (subst (λ (vs : List Visit). Start own base vs rs os) (sym h.1) s.starts) h.0;
}
starting-goes own base apart rise rs r old new os (Some i) h s =
    let none : List ℕ → Bool = λ t. false in
    let e = begun-extends own base none rs r apart rise old new i h (s.begun none) in
    record {
      begun = λ makes. begun-more own base makes rs r apart rise old new i h (s.begun makes);
      starts = zip-push (StartsAt own base new) rs os r (Some i) (start-later own base old new e.0 rs os e.1 s.starts) (starts-there own base none rs r apart rise old new i h (s.begun none));
    }

pub starting-begins : (own : List Document) (base : List ℕ) (vs : List Visit) (os : List (Option ℕ)) → vs ≡ [] → os ≡ [] → Starting own base [] vs os
starting-begins own base vs os e f = subst (λ v. Starting own base [] v os) (sym e) (subst (λ o. Starting own base [] [] o) (sym f) (record { begun = λ makes. begun-none own base makes; starts = tt }))
