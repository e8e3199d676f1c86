-- What is told of all that is wrong.
use Rattle.std.proofs.Common.{◌≡◌, ◌∙◌, ◌⊎◌, ◌<◌, ℕ, zero, suc, List, [], ◌∷◌, ◌++◌, Bool, true, false, Option, Some, None, map, refl, sym, ap, subst, inl, inr, arith, length, slice_get, append-nil, append_assoc}
use Rattle.std.specs.List.{All}
use Rattle.serde_json.specs.Data.{Data, null, boolean, number, string, array, object}
use Rattle.serde_json.specs.Find.{as_object}
use Rattle.schema_meaning.specs.Members.{In, first, later}
use Rattle.schema_meaning.specs.Keywords.{never}
use Rattle.schema_definitions.specs.Bearers.{Document}
use Rattle.schema_definitions.specs.BuildCauses.{Reached, IsCauseOf, causes_at}
use Rattle.schema_definitions.specs.Rows as rows
use Rattle.schema_definitions.specs.Rows.{Row, rows_at, rows_in, reads, identifier_causes}
use Rattle.schema_definitions.specs.Lookup.{Target}
use Rattle.schema_definitions.specs.Sites.{Site, root_site}
use Rattle.schema_patterns.specs.Makers.{Patterns}
use Rattle.reading_laws.specs.SiteLaws.{AreAlike}
use Rattle.reading_laws.proofs.Reaching.{same_causes}
use Rattle.referencing.specs.Resolved.{documents_in}
use Rattle.reached_sites.specs.Causes.{NamesCause}
use Rattle.reached_sites.specs.Led.{causes_in}
use Rattle.reached_sites.specs.Patterns.{IsFront}
use Rattle.reached_sites.specs.Visits.{site_of, Met, Belongs}
use Rattle.reached_sites.specs.declared.cause.BuildCause as refused
use Rattle.reached_sites.specs.declared.visit.Visit.{Visit}
use Rattle.reached_sites.proofs.Leading.{other-rows}
use Rattle.reached_sites.proofs.Listing.{in-before, in-behind, in-either, in-none, in-one, in-some, none-in}
use Rattle.reached_sites.proofs.Walking.{contexts}
use Rattle.marked_nodes.specs.declared.graph.Edge.{Edge}
use Rattle.compiled_graphs.specs.Filled.{listed}
use Rattle.compiled_graphs.specs.Graphs.{IsVisited, IsGraph}
use Rattle.compiled_graphs.specs.Read.{TellsOne}
use Rattle.compiled_graphs.specs.Told.{causes_apart, IsTold, AreCausesOf, RefusesTelling, TellsEach, TellsVisits, apart_at}
use Rattle.compiled_graphs.specs.Walked.{Walks, IsBegun, RefusesWalk}
use Rattle.compiled_graphs.specs.declared.walk.AtCause.TheVariants.{GoOn}
use Rattle.compiled_graphs.specs.declared.walk.Walk.{Walk}
use Rattle.compiled_graphs.proofs.Ending.{read-at, is-visited}
use Rattle.compiled_graphs.proofs.Growing.{visited-later}
use Rattle.compiled_graphs.proofs.Positions.{all-of, in-place, one-there, within}
use Rattle.compiled_graphs.proofs.Standing.{alike-apart}
use Rattle.compiled_graphs.proofs.Walks.{begun-walks}

in-map : {A B : Type 0} (f : A → B) (xs : List A) (x : A) → In x xs → In (f x) (map f xs)
in-map f [] x i = none-in i
in-map f (_ ∷ xs) x first = first
in-map f (y ∷ xs) x (later i) = later (in-map f xs x i)

-- ---- lists of causes, one after another

told-more : (told more : List refused.BuildCause) (cs : List rows.BuildCause) → IsTold told cs → IsTold (told ++ more) cs
told-more told more cs h = record { error = h.error; listed = in-before told more h.listed; cause = h.cause; named = h.named; stands = h.stands }

told-later : (before told : List refused.BuildCause) (cs : List rows.BuildCause) → IsTold told cs → IsTold (before ++ told) cs
told-later before told cs h = record { error = h.error; listed = in-behind before told h.listed; cause = h.cause; named = h.named; stands = h.stands }

pub tells-none : (old : List refused.BuildCause) → TellsEach [] old old
tells-none old = record { added = []; grown = sym (append-nil old); each = λ e i. none-in i; every = λ cs i c j. none-in i }

abbrev OneOf : List (List rows.BuildCause) → refused.BuildCause → Type 0
OneOf apart e = (cs : List rows.BuildCause) × In cs apart × ((c : rows.BuildCause) × NamesCause c e × In c cs)

module _ (gs hs : List (List rows.BuildCause)) (old now new : List refused.BuildCause) (a : TellsEach gs old now) (b : TellsEach hs now new) where
  one-of : (e : refused.BuildCause) → In e a.added ⊎ In e b.added → OneOf (gs ++ hs) e
  one-of e (inl i) = (let h = a.each e i in (h.0, in-before gs hs h.1, h.2))
  one-of e (inr i) = (let h = b.each e i in (h.0, in-behind gs hs h.1, h.2))

  any-told : (cs : List rows.BuildCause) → In cs gs ⊎ In cs hs → (c : rows.BuildCause) → In c cs → IsTold (a.added ++ b.added) cs
  any-told cs (inl i) c j = told-more a.added b.added cs (a.every cs i c j)
  any-told cs (inr i) c j = told-later a.added b.added cs (b.every cs i c j)

  pub tells-both : TellsEach (gs ++ hs) old new
  tells-both = record {
    added = a.added ++ b.added;
    grown = b.grown ∙ ap (λ l. l ++ b.added) a.grown ∙ append_assoc old a.added b.added;
    each = λ e i. one-of e (in-either a.added b.added i);
    every = λ cs i c j. any-told cs (in-either gs hs i) c j;
  }

pub tells-one : (o : Option refused.BuildCause) (cs : List rows.BuildCause) (old new : List refused.BuildCause) → TellsOne o cs → new ≡ old ++ listed o → TellsEach (cs ∷ []) old new
tells-one None cs old new t grown = record {
  added = [];
  grown = grown;
  each = λ e i. none-in i;
  every = λ ds i c j. in-none cs t (subst (λ l. In c l) (in-one i) j);
}
tells-one (Some e) cs old new t grown = record {
  added = e ∷ [];
  grown = grown;
  each = λ x i. (cs, first, (t.0, subst (λ y. NamesCause t.0 y) (sym (in-one i)) t.1, t.2));
  every = λ ds i c j. record { error = e; listed = first; cause = t.0; named = t.1; stands = subst (λ l. In t.0 l) (sym (in-one i)) t.2 };
}

-- none of nothing
tells-nothing : (o : Option refused.BuildCause) (old new : List refused.BuildCause) → TellsOne o [] → new ≡ old ++ listed o → TellsEach [] old new
tells-nothing None old new t grown = subst (λ l. TellsEach [] old l) (sym (grown ∙ append-nil old)) (tells-none old)
tells-nothing (Some e) old new t grown = none-in t.2

-- ---- what is no object has one row at most

abbrev AtMostOne : List Row → Type 0
AtMostOne rs = (rs ≡ []) ⊎ ((r : Row) × (rs ≡ r ∷ []))

module _ (own : List Document) (makes : List ℕ → Bool) (s : Site) where
  boolean-row : (b : Bool) → s.contents ≡ boolean b → AtMostOne (rows_at own makes s)
  unfolding rows_at
  boolean-row true e = inl (ap (rows_in s (contexts own makes s)) e)
  boolean-row false e = inr (reads [] (never ∷ []), ap (rows_in s (contexts own makes s)) e)

  one-row : (d : Data) → s.contents ≡ d → as_object d ≡ None → AtMostOne (rows_at own makes s)
  one-row null e n = inr (_, other-rows own makes s null e tt)
  one-row (boolean b) e n = boolean-row b e
  one-row (number x) e n = inr (_, other-rows own makes s (number x) e tt)
  one-row (string t) e n = inr (_, other-rows own makes s (string t) e tt)
  one-row (array ds) e n = inr (_, other-rows own makes s (array ds) e tt)
  one-row (object ms) e n = absurd (cc (n))

  tells-row : (rs : List Row) → AtMostOne rs → (o : Option refused.BuildCause) (old new : List refused.BuildCause) → TellsOne o (causes_in rs) → new ≡ old ++ listed o
      → TellsEach (map (λ (r : Row). r.causes) rs) old new
  tells-row rs (inl none) o old new t grown = rw none (tells-nothing o old new (subst (λ (l : List Row). TellsOne o (causes_in l)) none t) grown)
  tells-row rs (inr h) o old new t grown =
      rw (h.1) (tells-one o h.0.causes old new (subst (λ cs. TellsOne o cs) (append-nil h.0.causes) (subst (λ (l : List Row). TellsOne o (causes_in l)) h.1 t)) grown)

  pub tells-other : as_object s.contents ≡ None → (o : Option refused.BuildCause) (old new : List refused.BuildCause) → TellsOne o (causes_in (rows_at own makes s)) → new ≡ old ++ listed o
      → TellsEach (map (λ (r : Row). r.causes) (rows_at own makes s)) old new
  tells-other n o old new t grown = tells-row (rows_at own makes s) (one-row s.contents refl n) o old new t grown

-- ---- at sites that are alike

module _ (own : List Document) (makes : List ℕ → Bool) where
  in-rows : (cs : List rows.BuildCause) (c : rows.BuildCause) (rs : List Row) → In cs (map (λ (r : Row). r.causes) rs) → In c cs → In c (causes_in rs)
  in-rows cs c [] i j = none-in i
  in-rows _ c (r ∷ rs) first j = in-before r.causes (causes_in rs) j
  in-rows cs c (r ∷ rs) (later i) j = in-behind r.causes (causes_in rs) (in-rows cs c rs i j)

  pub in-site : (s : Site) (cs : List rows.BuildCause) (c : rows.BuildCause) → In cs (causes_apart own makes s) → In c cs → In c (causes_at own makes s)
  in-site s _ c first j = in-before (identifier_causes s) (causes_in (rows_at own makes s)) j
  in-site s cs c (later i) j = in-behind (identifier_causes s) (causes_in (rows_at own makes s)) (in-rows cs c (rows_at own makes s) i j)

-- ---- visits, one after another

module _ (makes : List ℕ → Bool) (vs : List Visit) where
  pub visits-none : TellsVisits makes vs [] []
  visits-none = record { each = λ e i. none-in i; every = λ i j v at cs k c l. none-in j }

  module _ (wrong : List ℕ) (i : ℕ) (v : Visit) (at : slice_get vs i ≡ Some v) (old new : List refused.BuildCause) (known : TellsVisits makes vs wrong old) (one : TellsEach (apart_at makes v) old new) where
    abbrev FromVisit : refused.BuildCause → Type 0
    FromVisit e = (u : Visit) × In u vs × ((c : rows.BuildCause) × NamesCause c e × In c (causes_at (documents_in u.site.resolver) makes (site_of u)))

    from-visit : (e : refused.BuildCause) → In e old ⊎ In e one.added → FromVisit e
    from-visit e (inl j) = known.each e j
    from-visit e (inr j) =
        let h = one.each e j in
        (v, in-place vs i v at, (h.2.0, h.2.1, in-site (documents_in v.site.resolver) makes (site_of v) h.0 h.2.0 h.1 h.2.2))

    told-there : (j : ℕ) → In j wrong ⊎ In j (i ∷ []) → (u : Visit) → slice_get vs j ≡ Some u → (cs : List rows.BuildCause) → In cs (apart_at makes u) → (c : rows.BuildCause) → In c cs → IsTold (old ++ one.added) cs
    told-there j (inl k) u there cs l c m = told-more old one.added cs (known.every j k u there cs l c m)
    told-there j (inr k) u there cs l c m =
        let same : u ≡ v = one-there (slice_get vs i) u v (subst (λ n. slice_get vs n ≡ Some u) (in-one k) there) at in
        told-later old one.added cs (one.every cs (subst (λ (w : Visit). In cs (apart_at makes w)) same l) c m)

    pub visits-more : TellsVisits makes vs (wrong ++ i ∷ []) new
    visits-more = record {
      each = λ e j. from-visit e (in-either old one.added (subst (λ l. In e l) one.grown j));
      every = λ j k u there cs l c m. subst (λ t. IsTold t cs) (sym one.grown) (told-there j (in-either wrong (i ∷ []) k) u there cs l c m);
    }

-- ---- all that is reached

same-up : (a b : ℕ) → (a ≡ b) ⊎ (a ≡ b → ⊥) → (suc a ≡ suc b) ⊎ (suc a ≡ suc b → ⊥)
same-up a b (inl e) = inl (ap suc e)
same-up a b (inr n) = inr (λ e. n (omega (arith, e)))

same-or-not : (a b : ℕ) → (a ≡ b) ⊎ (a ≡ b → ⊥)
same-or-not zero zero = inl refl
same-or-not zero (suc b) = inr (λ e. omega (arith, e))
same-or-not (suc a) zero = inr (λ e. omega (arith, e))
same-or-not (suc a) (suc b) = same-up a b (same-or-not a b)

neither : (i x : ℕ) (l : List ℕ) → (i ≡ x → ⊥) → (In i l → ⊥) → In i (x ∷ l) → ⊥
neither i _ l e n first = e refl
neither i x l e n (later k) = n k

among-more : (i x : ℕ) (l : List ℕ) → (i ≡ x) ⊎ (i ≡ x → ⊥) → In i l ⊎ (In i l → ⊥) → In i (x ∷ l) ⊎ (In i (x ∷ l) → ⊥)
among-more i x l (inl e) h = inl (subst (λ n. In n (x ∷ l)) (sym e) first)
among-more i x l (inr e) (inl j) = inl (later j)
among-more i x l (inr e) (inr n) = inr (neither i x l e n)

is-among : (i : ℕ) (l : List ℕ) → In i l ⊎ (In i l → ⊥)
is-among i [] = inr (λ j. none-in j)
is-among i (x ∷ l) = among-more i x l (same-or-not i x) (is-among i l)

module _ (own : List Document) (makes : List ℕ → Bool) (root : Site) (vs : List Visit) (es : List Edge) (wrong : List ℕ) (g : IsGraph own makes (root ∷ []) vs es wrong (length vs))
    (begins : IsVisited vs 0 root) (told : List refused.BuildCause) (t : TellsVisits makes vs wrong told) where
  alike-there : (v : Visit) (s : Site) → Belongs own v → Met v s → AreAlike own s (site_of v)
  alike-there v s b m = subst (λ (ds : List Document). AreAlike ds s (site_of v)) b.documents m.alike

  one-cause : (e : refused.BuildCause) → In e told → (c : rows.BuildCause) × NamesCause c e × IsCauseOf own makes root c
  one-cause e i =
      let h = t.each e i in
      let r = g.reached h.0 h.1 in
      let b = g.belongs h.0 h.1 in
      let at-visit = subst (λ (ds : List Document). In h.2.0 (causes_at ds makes (site_of h.0))) b.documents h.2.2 in
      let at-site = subst (λ cs. In h.2.0 cs) (sym (same_causes own makes r.site (site_of h.0) (alike-there h.0 r.site b r.met))) at-visit in
      (h.2.0, h.2.1, record { site = r.site; reached = subst (λ (q : Site). Reached own makes q r.site) (in-one r.listed) r.reached; wrong = at-site })

  by-position : (s : Site) (i : ℕ) (x : IsVisited vs i s) (cs : List rows.BuildCause) → In cs (causes_apart own makes s) → (c : rows.BuildCause) → In c cs → In i wrong ⊎ (In i wrong → ⊥) → IsTold told cs
  by-position s i x cs k c l (inl j) =
      let b = g.belongs x.visit (in-place vs i x.visit x.there) in
      let same = alike-apart own makes s (site_of x.visit) (alike-there x.visit s b x.met) in
      t.every i j x.visit x.there cs (subst (λ (ds : List Document). In cs (causes_apart ds makes (site_of x.visit))) (sym b.documents) (subst (λ gs. In cs gs) same k)) c l
  by-position s i x cs k c l (inr n) = in-none (causes_at own makes s) ((read-at own makes (root ∷ []) vs es wrong g i s x).right n) (in-site own makes s cs c k l)

  pub are-causes : AreCausesOf own makes root told
  are-causes = record {
    each = one-cause;
    every = λ s r cs k c l.
        let x = is-visited own makes (root ∷ []) vs es wrong g (λ q i. (0, subst (λ (u : Site). IsVisited vs 0 u) (sym (in-one i)) begins)) root s first r in
        by-position s x.0 x.1 cs k c l (is-among x.0 wrong);
  }

-- ---- a walk from one root that goes on behind causes

pub refuses-telling : (makes : List ℕ → Bool) (own : List Document) (root : Site) (limit : ℕ) (e : refused.BuildCause) → RefusesWalk makes own (root ∷ []) limit GoOn e → RefusesTelling own makes root limit e
refuses-telling makes own root limit e (inl h) = inl (record { named = h.named; exceeds = h.exceeds })
refuses-telling makes own root limit e (inr (inl h)) = absurd h
refuses-telling makes own root limit e (inr (inr m)) = inr m

module _ {M : Type 0} (finds : M → List ℕ → Option Bool) (p : Patterns) (own : List Document) (root : Target) (begun : Walk M) (visits : List Visit) (b : IsBegun begun visits) where
  pub begun-from : IsGraph own p.makes (root_site root ∷ []) visits [] [] 0 → Walks finds p own (root_site root ∷ []) begun
  begun-from g = begun-walks finds p own (root_site root ∷ []) begun visits b g

  pub root-visited : (w : Walk M) → IsFront begun.visits.list.items w.visits.list.items → IsVisited visits 0 (root_site root) → IsVisited w.visits.list.items 0 (root_site root)
  root-visited w f x = visited-later begun.visits.list.items w.visits.list.items f.behind 0 (root_site root) f.is (subst (λ vs. IsVisited vs 0 (root_site root)) (sym b.visits_are) x)

pub all-wrong : (own : List Document) (makes : List ℕ → Bool) (roots : List Site) (vs : List Visit) (es : List Edge) (wrong : List ℕ) (n : ℕ) → IsGraph own makes roots vs es wrong n → All (λ i. i < length vs) wrong
all-wrong own makes roots vs es wrong n g = all-of (λ i. i < length vs) wrong (λ i j. (let h = g.wrong_ones i j in within vs i h.visit h.there))

-- ---- when there is none

apart-of : (own : List Document) (makes : List ℕ → Bool) (s : Site) (c : rows.BuildCause) → In c (causes_at own makes s) → (cs : List rows.BuildCause) × In cs (causes_apart own makes s) × In c cs
apart-of own makes s c i = by (in-either (identifier_causes s) (causes_in (rows_at own makes s)) i)
  where
    by : In c (identifier_causes s) ⊎ In c (causes_in (rows_at own makes s)) → (cs : List rows.BuildCause) × In cs (causes_apart own makes s) × In c cs
    by (inl j) = (identifier_causes s, first, j)
    by (inr j) = (let h = in-some (λ (r : Row). r.causes) (rows_at own makes s) j in (h.0.causes, later (in-map (λ (r : Row). r.causes) (rows_at own makes s) h.0 h.1), h.2))

pub none-told : (own : List Document) (makes : List ℕ → Bool) (root : Site) (told : List refused.BuildCause) → AreCausesOf own makes root told → told ≡ [] → (c : rows.BuildCause) → IsCauseOf own makes root c → ⊥
none-told own makes root told a e c w =
    let h = apart-of own makes w.site c w.wrong in
    in-none told e (a.every w.site w.reached h.0 h.1 c h.2).listed

pub right-none : (own : List Document) (makes : List ℕ → Bool) (root : Site) (told : List refused.BuildCause) → AreCausesOf own makes root told → ((c : rows.BuildCause) → IsCauseOf own makes root c → ⊥) → told ≡ []
right-none own makes root [] a right = refl
right-none own makes root (e ∷ es) a right = (let h = a.each e first in absurd (right h.0 h.2))
