-- What is asked at a site, in order, and where roads go.
use Rattle.std.proofs.Common.{◌≡◌, ◌⊎◌, ℕ, List, [], ◌∷◌, ◌++◌, Bool, true, Option, Some, None, IfSome, map, refl, sym, ap, subst, inl, inr}
use Rattle.std.specs.List.{AllByRecursion, AllZip, flat_map}
use Rattle.std.specs.Borrow.{Bor}
use Rattle.serde_json.specs.declared.value.Value.{Value}
use Rattle.schema_meaning.specs.Members.{In}
use Rattle.schema_meaning.specs.Keywords.{Shape, condition}
use Rattle.schema_definitions.specs.Bearers.{Document}
use Rattle.schema_definitions.specs.BuildCauses.{Reached, at_root, by_keyword, causes_at}
use Rattle.schema_definitions.specs.Rows.{BuildCause, Row, rows_at, identifier_causes}
use Rattle.schema_definitions.specs.Sites.{Site, below}
use Rattle.schema_definitions.specs.Words.{listed}
use Rattle.linked_meanings.specs.Related.{RelatedIfAny, RelatedShape, related_condition}
use Rattle.applicators.specs.Forms.{Form, each_from, of_names, of_value, shape_by}
use Rattle.applicators.specs.Combining.{counts_answers}
use Rattle.applicators.specs.Shapes as applied
use Rattle.applicators.specs.Applied.{name_of, combining_of, asks_of}
use Rattle.applicators.specs.Asks.{form_by}
use Rattle.applicators.specs.declared.combining.Combining.{Combining}
use Rattle.applicators.specs.declared.combining.Combining.TheVariants as combining
use Rattle.reading_laws.proofs.Asked.{Holds}
use Rattle.reading_laws.proofs.Elements.{each_in}
use Rattle.reading_laws.proofs.Reached.{shapes_led}
use Rattle.reading_laws.specs.SiteLaws.{AreAlike, RowsAgree}
use Rattle.schema_sites.specs.Read.{leads_of, shapes_of}
use Rattle.schema_sites.specs.declared.keyword.Keyword as code
use Rattle.schema_sites.specs.declared.keyword.Keyword.TheVariants as keyword
use Rattle.reached_sites.specs.Led.{leads_in, causes_in}
use Rattle.reached_sites.specs.Visits.{Met, Belongs, Matches, none, both}
use Rattle.reached_sites.specs.declared.cause.BuildCause as refused
use Rattle.reached_sites.specs.declared.visit.Visit.{Visit}
use Rattle.reached_sites.proofs.Listing.{in-all, in-before, in-either, in-one, in-some, none-in}
use Rattle.compiled_graphs.specs.Asked.{asked_by, beside_if, asked_in_row, asked_in, IsAnswered}
use Rattle.compiled_graphs.specs.First.{IsFirstCause}
use Rattle.compiled_graphs.specs.Graphs.{led_from, asked_from}
use Rattle.compiled_graphs.specs.Read as read
use Rattle.compiled_graphs.specs.Read.{ReadAs, IsOfFirst}
use Rattle.compiled_graphs.specs.Roads.{GoesTo, to_root, on_to}
use Rattle.compiled_graphs.specs.Told.{causes_apart}
use Rattle.compiled_graphs.specs.Walked.{IsFromOne}
use Rattle.compiled_graphs.specs.declared.asking.Asking.{Asking}
use Rattle.compiled_graphs.proofs.Positions.{in-place}
use Rattle.compiled_graphs.proofs.Visits.{met-among}

-- ---- a keyword asks what its row does

-- only a condition has schemas beside
no-beside : (k : List ℕ) (c : Combining) (form : Form Site) → counts_answers c ≡ true → beside_if (shape_by k c form) ≡ []
no-beside k combining.Conditional form e = absurd (cc (e))
no-beside k combining.Every form e = refl
no-beside k combining.Together form e = refl
no-beside k combining.EachNamed (of_names s) e = refl
no-beside k combining.SomeBranch form e = refl
no-beside k combining.OneBranch form e = refl
no-beside k combining.Refusal (of_value schema s) e = refl
no-beside k (combining.Counted least most) (each_from start s) e = refl
no-beside k c form e = refl

asked-none : (ss : List Site) (h : Shape Site) → beside_if h ≡ [] → asked_in_row ss (h ∷ []) ≡ ss ++ []
asked-none [] h e = refl
asked-none (s ∷ ss) h e = ap (λ (l : List Site). (s ∷ ss) ++ (l ++ [])) e

module _ (own : List Document) (s : Site) where
  asked-if : (c : Bor Value) (a b : Option (Bor Value)) → asked_in_row (leads_of own s (keyword.If c a b)) (shapes_of own s (keyword.If c a b)) ≡ asked_by own s (keyword.If c a b)
  asked-if c None None = refl
  asked-if c None (Some y) = refl
  asked-if c (Some x) None = refl
  asked-if c (Some x) (Some y) = refl

  asked-row : (k : code.Keyword) → IsAnswered k → asked_in_row (leads_of own s k) (shapes_of own s k) ≡ asked_by own s k
  asked-row keyword.Nothing h = refl
  asked-row (keyword.Assertion a) h = refl
  asked-row (keyword.Pattern p) h = refl
  asked-row (keyword.If c a b) h = asked-if c a b
  asked-row (keyword.Consequent k d) h = refl
  asked-row (keyword.Applicator a) h =
      asked-none (applied.leads_of (below own s) a) (applied.shape_of (below own s) a) (no-beside (name_of a) (combining_of a) (form_by (below own s) (name_of a) (asks_of a)) h)
  asked-row (keyword.Reference k text target) h = refl

-- ---- the visits that are found stand for what is asked, one by one

module _ {A B : Type 0} (R : A → B → Type 0) where
  zip-both : (xs us : List A) (ys vs : List B) → AllZip R xs ys → AllZip R us vs → AllZip R (xs ++ us) (ys ++ vs)
  zip-both [] us [] vs z w = w
  zip-both [] us (y ∷ ys) vs z w = absurd z
  zip-both (x ∷ xs) us [] vs z w = absurd z
  zip-both (x ∷ xs) us (y ∷ ys) vs z w = (z.0, zip-both xs us ys vs z.1 w)

abbrev MetOwn : List Document → Visit → Site → Type 0
MetOwn own v s = Belongs own v × Met v s

module _ (own : List Document) where
  of-matches : {vs : List Visit} {ss : List Site} → Matches own vs ss → AllZip (MetOwn own) vs ss
  of-matches none = tt
  of-matches (both b m rest) = ((b, m), of-matches rest)

  module _ (s : Site) where
    asked-met : (rows : List Row) (ys : List Asking) (vs : List Visit) → ReadAs own s rows ys vs → AllZip (MetOwn own) vs (asked_in rows)
    asked-met _ _ _ read.none = tt
    asked-met _ _ _ (read.refuses {rows = rows} {ys = ys} {vs = vs} row is r) =
        subst (λ (q : Row). AllZip (MetOwn own) vs (asked_in_row q.leads q.shapes ++ asked_in rows)) (sym is) (asked-met rows ys vs r)
    asked-met _ _ _ (read.asks {rows = rows} {ys = ys} {vs = vs} row k n mine is answered m count r) =
        subst (λ (q : Row). AllZip (MetOwn own) (mine ++ vs) (asked_in_row q.leads q.shapes ++ asked_in rows)) (sym is)
        (zip-both (MetOwn own) mine vs (asked_in_row (leads_of own s k) (shapes_of own s k)) (asked_in rows)
        (subst (λ (l : List Site). AllZip (MetOwn own) mine l) (sym (asked-row own s k answered)) (of-matches m)) (asked-met rows ys vs r))
    asked-met _ _ _ (read.wrong {rows = rows} {ys = ys} {vs = vs} row c i nowhere r) =
        subst (λ (l : List Site). AllZip (MetOwn own) vs (asked_in_row l row.shapes ++ asked_in rows)) (sym nowhere) (asked-met rows ys vs r)

  -- ---- at a site that is alike

  abbrev Alike : Site → Site → Type 0
  Alike s t = AreAlike own s t

  listed-alike : (a b : Option Site) → RelatedIfAny Alike a b → AllZip Alike (listed a) (listed b)
  listed-alike None None h = tt
  listed-alike None (Some t) h = absurd h
  listed-alike (Some s) None h = absurd h
  listed-alike (Some s) (Some t) h = (h, tt)

  beside-alike : {h g : Shape Site} → RelatedShape Alike h g → AllZip Alike (beside_if h) (beside_if g)
  beside-alike (related_condition {a = a} {c = c} {b = b} {d = d} l m n) = zip-both Alike (listed a) (listed c) (listed b) (listed d) (listed-alike a b m) (listed-alike c d n)
  beside-alike r = tt

  all-beside-alike : (hs gs : List (Shape Site)) → AllZip (RelatedShape Alike) hs gs → AllZip Alike (flat_map beside_if hs) (flat_map beside_if gs)
  all-beside-alike [] [] z = tt
  all-beside-alike [] (g ∷ gs) z = absurd z
  all-beside-alike (h ∷ hs) [] z = absurd z
  all-beside-alike (h ∷ hs) (g ∷ gs) z = zip-both Alike (beside_if h) (flat_map beside_if hs) (beside_if g) (flat_map beside_if gs) (beside-alike z.0) (all-beside-alike hs gs z.1)

  row-alike : (ss ts : List Site) (hs gs : List (Shape Site)) → AllZip Alike ss ts → AllZip (RelatedShape Alike) hs gs → AllZip Alike (asked_in_row ss hs) (asked_in_row ts gs)
  row-alike [] [] hs gs z w = tt
  row-alike [] (t ∷ ts) hs gs z w = absurd z
  row-alike (s ∷ ss) [] hs gs z w = absurd z
  row-alike (s ∷ ss) (t ∷ ts) hs gs z w = zip-both Alike (s ∷ ss) (flat_map beside_if hs) (t ∷ ts) (flat_map beside_if gs) z (all-beside-alike hs gs w)

  pub asked-alike : (rs qs : List Row) → AllZip (RowsAgree own) rs qs → AllZip Alike (asked_in rs) (asked_in qs)
  asked-alike [] [] z = tt
  asked-alike [] (q ∷ qs) z = absurd z
  asked-alike (r ∷ rs) [] z = absurd z
  asked-alike (r ∷ rs) (q ∷ qs) z =
      zip-both Alike (asked_in_row r.leads r.shapes) (asked_in rs) (asked_in_row q.leads q.shapes) (asked_in qs) (row-alike r.leads q.leads r.shapes q.shapes z.0.leads z.0.shapes) (asked-alike rs qs z.1)

  pub met-alike-all : (vs : List Visit) (ts us : List Site) → AllZip (MetOwn own) vs ts → AllZip Alike us ts → AllZip Met vs us
  met-alike-all [] [] [] z w = tt
  met-alike-all [] [] (u ∷ us) z w = absurd w
  met-alike-all [] (t ∷ ts) us z w = absurd z
  met-alike-all (v ∷ vs) [] us z w = absurd z
  met-alike-all (v ∷ vs) (t ∷ ts) [] z w = absurd w
  met-alike-all (v ∷ vs) (t ∷ ts) (u ∷ us) z w = (met-among own v u t z.0.0 w.0 z.0.1, met-alike-all vs ts us z.1 w.1)

  -- each visit found at a site stands for one that is asked at another that is alike
  pub asked-there : (s : Site) (rs qs : List Row) (ys : List Asking) (vs : List Visit) → ReadAs own s qs ys vs → AllZip (RowsAgree own) rs qs → AllZip Met vs (asked_in rs)
  asked-there s rs qs ys vs r z = met-alike-all vs (asked_in qs) (asked_in rs) (asked-met s qs ys vs r) (asked-alike rs qs z)

-- ---- what is asked is led to

module _ (Q : Site → Type 0) where
  listed-held : (o : Option Site) → IfSome o Q → (t : Site) → In t (listed o) → Q t
  listed-held None h t i = none-in i
  listed-held (Some s) h t i = subst Q (sym (in-one i)) h

  beside-held : (h : Shape Site) → Holds Q Q h → (t : Site) → In t (beside_if h) → Q t
  beside-held (condition s a b) h t i = by (in-either (listed a) (listed b) i)
    where
      by : In t (listed a) ⊎ In t (listed b) → Q t
      by (inl j) = listed-held a h.1 t j
      by (inr j) = listed-held b h.2 t j
  beside-held g h t i = none-in i

  row-led : (ss : List Site) (hs : List (Shape Site)) (t : Site) → In t (asked_in_row ss hs) → In t ss ⊎ In t (flat_map beside_if hs)
  row-led [] hs t i = none-in i
  row-led (s ∷ ss) hs t i = in-either (s ∷ ss) (flat_map beside_if hs) i

  row-held : (row : Row) → ((t : Site) → In t row.leads → Q t) → AllByRecursion (Holds Q Q) row.shapes → (t : Site) → In t (asked_in_row row.leads row.shapes) → Q t
  row-held row led held t i = by (row-led row.leads row.shapes t i)
    where
      by : In t row.leads ⊎ In t (flat_map beside_if row.shapes) → Q t
      by (inl j) = led t j
      by (inr j) = (let h = in-some beside_if row.shapes j in beside-held h.0 (each_in (Holds Q Q) row.shapes held h.0 h.1) t h.2)

module _ (own : List Document) (makes : List ℕ → Bool) where
  pub asked-led : (s t : Site) → In t (asked_from own makes s) → In t (led_from own makes s)
  asked-led s t i =
      let rows = rows_at own makes s in
      let led = λ (r : Row) (u : Site) (j : In r rows) (k : In u r.leads). in-all (λ (r : Row). r.leads) rows j k in
      let row = in-some (λ (r : Row). asked_in_row r.leads r.shapes) rows i in
      let held = shapes_led own makes s (λ u. In u (leads_in rows)) led in
      row-held (λ u. In u (leads_in rows)) row.0 (λ u k. led row.0 u row.1 k)
      (each_in (λ (r : Row). AllByRecursion (Holds (λ u. In u (leads_in rows)) (λ u. In u (leads_in rows))) r.shapes) rows held row.0 row.1) t row.2

  -- ---- where roads go is reached

  abbrev ReachedFromOne : List Site → Site → Type 0
  ReachedFromOne roots t = (root : Site) × In root roots × Reached own makes root t

  pub road-reaches : (roots : List Site) (p : List ℕ) (t : Site) → GoesTo (asked_from own makes) roots p t → ReachedFromOne roots t
  road-reaches roots _ _ (to_root i s e) = (s, in-place roots i s e, at_root)
  road-reaches roots _ _ (on_to {p = p} i s t h e) =
      let before = road-reaches roots p s h in
      let row = in-some (λ (r : Row). r.leads) (rows_at own makes s) (asked-led s t (in-place (asked_from own makes s) i t e)) in
      (before.0, before.1, by_keyword row.0 t before.2 row.1 row.2)

  abbrev causes_each : List Row → List (List BuildCause)
  causes_each rows = map (λ r. r.causes) rows

  of-either : (c : BuildCause) (bs flat : List BuildCause) (lists : List (List BuildCause)) → (IsOfFirst c lists → In c flat) → IsOfFirst c (bs ∷ lists) → In c (bs ++ flat)
  of-either c [] flat lists f h = f h
  of-either c (b ∷ bs) flat lists f h = in-before (b ∷ bs) flat h

  of-first : (c : BuildCause) (rs : List Row) → IsOfFirst c (causes_each rs) → In c (causes_in rs)
  of-first c [] h = absurd h
  of-first c (r ∷ rs) h = of-either c r.causes (causes_in rs) (causes_each rs) (λ k. of-first c rs k) h

  first-there : (c : BuildCause) (s : Site) → IsOfFirst c (causes_apart own makes s) → In c (causes_at own makes s)
  first-there c s h = (let rs = rows_at own makes s in of-either c (identifier_causes s) (causes_in rs) (causes_each rs) (λ k. of-first c rs k) h)

  -- the first cause stands at what is reached
  pub first-from-one : (roots : List Site) (e : refused.BuildCause) → IsFirstCause own makes roots e → IsFromOne own makes roots e
  first-from-one roots e h =
      let r = road-reaches roots h.road h.site h.goes in
      record { root = r.0; listed = r.1; cause = h.cause; named = h.named; stands = record { site = h.site; reached = r.2; wrong = first-there h.cause h.site h.first } }
