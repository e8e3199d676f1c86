-- Nodes filled by what was found.
use Rattle.std.proofs.Common.{◌≡◌, ◌∙◌, ℕ, List, [], ◌∷◌, ◌++◌, Bool, true, true≢false, Option, map, refl, sym, ap, subst, arith, length}
use Rattle.std.proofs.lemmas.List.{length-append}
use Rattle.std.specs.List.{AllZip}
use Rattle.serde_json.specs.Data.{Data, Members, no_members, member}
use Rattle.serde_json.specs.View.{members_view}
use Rattle.json_values.specs.Parts.{Part}
use Rattle.schema_meaning.specs.Members.{In, first, later}
use Rattle.schema_meaning.specs.Keywords.{Shape, asserts, asks_every, pattern}
use Rattle.schema_definitions.specs.Bearers.{Document, Documents}
use Rattle.schema_definitions.specs.Rows.{BuildCause, Row, member_names, rows_at}
use Rattle.schema_definitions.specs.Sites.{Site, below}
use Rattle.applicators.specs.Applied.{name_of, combining_of, asks_of}
use Rattle.applicators.specs.Asks.{form_by}
use Rattle.applicators.specs.Bare.{bare}
use Rattle.applicators.specs.Forms.{stands, shape_by}
use Rattle.applicators.specs.Lent as lent
use Rattle.applicators.specs.Shapes as applied
use Rattle.applicators.specs.Sites.{sites_of_map}
use Rattle.applicators.specs.declared.asks.AsksOf.TheVariants as asks
use Rattle.applicators.specs.declared.combining.Combining.{Combining}
use Rattle.applicators.specs.declared.combining.Combining.TheVariants as combining
use Rattle.reading_laws.specs.Asked.{patterns_of}
use Rattle.schema_patterns.specs.Tables.{texts_of_table}
use Rattle.schema_patterns.specs.declared.table.PatternTable.{PatternTable}
use Rattle.schema_sites.specs.Read.{row_of, shapes_of}
use Rattle.schema_sites.specs.declared.keyword.Keyword as read
use Rattle.schema_sites.specs.declared.keyword.Keyword.TheVariants as reads
use Rattle.compiled_keywords.specs.declared.keyword.Keyword.{Keyword}
use Rattle.keyword_compilers.specs.Patterns.{patterns_asked, patterns_needed, patterns_in, AreHeld, AreEntries}
use Rattle.keyword_compilers.proofs.Numbering.{entries_stay}
use Rattle.reached_sites.specs.Led.{causes_in}
use Rattle.reached_sites.specs.Patterns.{written, Holds, IsFront}
use Rattle.reached_sites.specs.Visits.{Met, Matches}
use Rattle.reached_sites.specs.Visits as visits
use Rattle.reached_sites.specs.declared.visit.Visit.{Visit}
use Rattle.reached_sites.proofs.Listing.{in-all, in-before, in-behind, in-none, none-in}
use Rattle.reached_sites.proofs.Writing.{site-written}
use Rattle.compiled_graphs.specs.Asked.{asked_by}
use Rattle.compiled_graphs.specs.Filled.{total, Compiled, AreReached, Means}
use Rattle.compiled_graphs.specs.Filled as filled
use Rattle.compiled_graphs.specs.Graphs.{IsVisited}
use Rattle.marked_nodes.specs.declared.graph.Edge.{Edge}
use Rattle.reached_sites.specs.Growing.{StandsAt}
use Rattle.compiled_graphs.specs.Linked.{edge, StandsFor}
use Rattle.compiled_graphs.specs.Read as found
use Rattle.compiled_graphs.specs.declared.asking.Asking.{Asking}
use Rattle.compiled_graphs.proofs.Growing.{visited-later}

-- ---- counts

pub read-total : (own : List Document) (s : Site) (rows : List Row) (ys : List Asking) (vs : List Visit) → found.ReadAs own s rows ys vs → total ys ≡ length vs
read-total own s _ _ _ found.none = refl
read-total own s _ _ _ (found.refuses {rows = rows} {ys = ys} {vs = vs} row is r) = read-total own s rows ys vs r
read-total own s _ _ _ (found.asks {rows = rows} {ys = ys} {vs = vs} row k n mine is answered m count r) =
    let rest = read-total own s rows ys vs r in
    let all = length-append mine vs in
    omega (arith, rest, all, count)
read-total own s _ _ _ (found.wrong {rows = rows} {ys = ys} {vs = vs} row c i nowhere r) = read-total own s rows ys vs r

-- ---- numbers

module _ {A B : Type 0} (R : A → B → Type 0) where
  pub zip-split : (xs ys : List A) (ns ms : List B) → length xs ≡ length ns → AllZip R (xs ++ ys) (ns ++ ms) → AllZip R xs ns × AllZip R ys ms
  zip-split [] ys [] ms e h = (tt, h)
  zip-split [] ys (n ∷ ns) ms e h = absurd (omega (arith, e))
  zip-split (x ∷ xs) ys [] ms e h = absurd (omega (arith, e))
  zip-split (x ∷ xs) ys (n ∷ ns) ms e h = (let rest = zip-split xs ys ns ms (omega (arith, e)) h.1 in ((h.0, rest.0), rest.1))

module _ (own : List Document) (i : ℕ) (vs : List Visit) (es : List Edge) where
  -- what stands at a number for a visit is visited there
  abbrev pub AreThere : List Visit → Type 0
  AreThere leads = (w : Visit) → In w leads → (n : ℕ) → StandsAt vs n w → (t : Site) → Met w t → IsVisited vs n t

  pub all-visited : {leads : List Visit} {ss : List Site} (ns : List ℕ) → Matches own leads ss → AllZip (StandsFor i vs es) leads ns → AreThere leads → AreReached i vs es ss ns
  all-visited [] visits.none z there = tt
  all-visited (n ∷ ns) visits.none z there = absurd z
  all-visited [] (visits.both b m rest) z there = absurd z
  all-visited (n ∷ ns) (visits.both {v = v} {s = s} b m rest) z there = ((there v first n z.0.0 s m, z.0.1), all-visited ns rest z.1 (λ w i. there w (later i)))

-- ---- the patterns that a keyword needs are those of its shape

names-of : (site : List Part → Data → Site) (k : List ℕ) (ms : Members) → map (λ q. q.0) (sites_of_map site k ms) ≡ member_names ms
names-of site k no_members = refl
names-of site k (member n d ms) = ap (λ ns. n ∷ ns) (names-of site k ms)

module _ (site : List Part → Data → Site) (k p : List ℕ) where
  form-shown : (f : lent.Asks) → In p (patterns_asked f) → In p (patterns_of (asks_every k (form_by site k f)))
  form-shown (asks.MatchingMembers schemas) i = subst (λ ns. In p ns) (sym (names-of site k (members_view schemas.now.entries))) i
  form-shown (asks.OtherMembers declared schema) i = i
  form-shown f i = none-in i

  pub asked-shown : (c : Combining) (f : lent.Asks) → stands k c (bare f) ≡ true → In p (patterns_asked f) → In p (patterns_of (shape_by k c (form_by site k f)))
  asked-shown combining.Every f e i = form-shown f i
  asked-shown combining.Together f e i = form-shown f i
  asked-shown combining.SomeBranch f e i = form-shown f i
  asked-shown combining.OneBranch f e i = form-shown f i
  asked-shown combining.EachNamed (asks.Names schema) e i = none-in i
  asked-shown combining.Refusal (asks.Value schema) e i = none-in i
  asked-shown (combining.Counted least most) (asks.ItemsFrom start schema) e i = none-in i
  asked-shown combining.Conditional (asks.Condition condition then_schema else_schema) e i = none-in i
  asked-shown c f e i = absurd (true≢false (sym e))

module _ (docs : Documents) (s : Site) where
  abbrev InShapes : read.Keyword → List ℕ → Type 0
  InShapes k p = (shape : Shape Site) × In shape (shapes_of docs s k) × In p (patterns_of shape)

  pub needed-shown : (k : read.Keyword) (p : List ℕ) → In p (patterns_needed k) → InShapes k p
  needed-shown reads.Nothing p i = none-in i
  needed-shown (reads.Assertion a) p i = none-in i
  needed-shown (reads.Pattern text) p i = (asserts (pattern text.now), first, i)
  needed-shown (reads.If c t e) p i = none-in i
  needed-shown (reads.Consequent k d) p i = none-in i
  needed-shown (reads.Applicator a) p i =
      (applied.shape_of (below docs s) a, first, asked-shown (below docs s) (name_of a) p (combining_of a) (asks_of a) a.stands i)
  needed-shown (reads.Reference keyword text target) p i = none-in i

-- where none has a cause, a table has the patterns that the keywords of a site need
pub all-held : {M : Type 0} (own : List Document) (makes : List ℕ → Bool) (s : Site) (table : PatternTable M) → Holds table (written s) → (k : read.Keyword) → In (row_of own s k) (rows_at own makes s)
    → AreHeld (texts_of_table table) (patterns_needed k)
all-held own makes s table holds k i = record {
  each = λ p j.
      let x = needed-shown own s k p j in
      holds p (site-written own makes s x.0 (in-all (λ (r : Row). r.shapes) (rows_at own makes s) i x.1) p x.2);
}

-- ---- rows without a cause

pub no-first : (xs ys : List BuildCause) → xs ++ ys ≡ [] → (xs ≡ []) × (ys ≡ [])
no-first [] ys e = (refl, e)
no-first (x ∷ xs) ys e = absurd (cc (e))

module _ (own : List Document) (makes : List ℕ → Bool) (s : Site) (i : ℕ) (vs : List Visit) (es : List Edge) (texts : List (List ℕ)) (held : (k : read.Keyword) → In (row_of own s k) (rows_at own makes s) → AreHeld texts (patterns_needed k)) where
  pub means-of : (rows : List Row) (ys : List Asking) (leads : List Visit) (ns : List ℕ) (ks : List Keyword) → found.ReadAs own s rows ys leads → ((r : Row) → In r rows → In r (rows_at own makes s))
      → causes_in rows ≡ [] → Compiled texts ys ns ks → AllZip (StandsFor i vs es) leads ns → AreThere own i vs es leads → Means own s i vs es texts rows ks
  means-of _ _ _ _ _ found.none among clear filled.none z there = filled.none
  means-of _ _ _ _ _ (found.refuses {rows = rows} {ys = ys} {vs = leads} row is r) among clear (filled.refuses {ns = ns} {ks = ks} c) z there =
      filled.refuses row is (means-of rows ys leads ns ks r (λ q j. among q (later j)) (no-first row.causes (causes_in rows) clear).1 c z there)
  means-of _ _ _ _ _ (found.asks {rows = rows} {ys = ys} {vs = leads} row k n mine is answered m count r) among clear (filled.asks {ns = ns} {ks = ks} _ _ numbers o length_is compiled c) z there =
      let parts = zip-split (StandsFor i vs es) mine leads numbers ns (count ∙ sym length_is) z in
      let row_there = subst (λ q. In q (rows_at own makes s)) is (among row first) in
      filled.asks row k numbers o is answered (all-visited own i vs es numbers m parts.0 (λ w j. there w (in-before mine leads j))) compiled.over (compiled.entries (held k row_there))
      (means-of rows ys leads ns ks r (λ q j. among q (later j)) (no-first row.causes (causes_in rows) clear).1 c parts.1 (λ w j. there w (in-behind mine leads j)))
  means-of _ _ _ _ _ (found.wrong {rows = rows} row cause j nowhere r) among clear c z there = in-none row.causes (no-first row.causes (causes_in rows) clear).0 j

-- ---- they stay

module _ (own : List Document) (s : Site) (i : ℕ) (old new added : List Visit) (grown : new ≡ old ++ added) (es fs : List Edge) (edges_kept : (e : Edge) → In e es → In e fs) (texts more : List (List ℕ)) (front : IsFront texts more) where
  visited-more : (ss : List Site) (ns : List ℕ) → AreReached i old es ss ns → AreReached i new fs ss ns
  visited-more [] [] z = tt
  visited-more [] (n ∷ ns) z = absurd z
  visited-more (t ∷ ss) [] z = absurd z
  visited-more (t ∷ ss) (n ∷ ns) z = ((visited-later old new added n t grown z.0.0, edges_kept (edge i n) z.0.1), visited-more ss ns z.1)

  entries-more : (o : Option Keyword) → AreEntries texts (patterns_in o) → AreEntries more (patterns_in o)
  entries-more o h = subst (λ (ts : List (List ℕ)). AreEntries ts (patterns_in o)) (sym front.is) (entries_stay texts front.behind (patterns_in o) h)

  pub means-stays : (rows : List Row) (ks : List Keyword) → Means own s i old es texts rows ks → Means own s i new fs more rows ks
  means-stays _ _ filled.none = filled.none
  means-stays _ _ (filled.refuses {rows = rows} {ks = ks} row is m) = filled.refuses row is (means-stays rows ks m)
  means-stays _ _ (filled.asks {rows = rows} {ks = ks} row k ns o is answered visited over entries m) =
      filled.asks row k ns o is answered (visited-more (asked_by own s k) ns visited) over (entries-more o entries) (means-stays rows ks m)
