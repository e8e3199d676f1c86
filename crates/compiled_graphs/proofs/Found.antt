-- What is found of the members of a schema.
use Rattle.std.proofs.Common.{◌≡◌, ◌∙◌, ◌⊎◌, ◌+◌, ℕ, List, [], ◌∷◌, ◌++◌, Bool, true, Option, Some, None, IfSome, map, refl, sym, ap, subst, inl, inr, arith, length, append-nil, append_assoc}
use Rattle.std.proofs.lemmas.List.{length-append}
use Rattle.serde_json.specs.Data.{Data, Members, no_members, member}
use Rattle.schema_meaning.specs.Members.{In, is_listed}
use Rattle.schema_definitions.specs.Bearers.{Document, Documents}
use Rattle.schema_definitions.specs.Words.{or_else}
use Rattle.schema_definitions.specs.Sites.{Site}
use Rattle.schema_definitions.specs.Rows as rows
use Rattle.schema_definitions.specs.Rows.{Row, rows_of}
use Rattle.reading_laws.proofs.WrongRows.{wrong-leads-nowhere}
use Rattle.applicators.specs.Made.{AreMade}
use Rattle.certificate_laws.proofs.Named.{listed_in}
use Rattle.schema_patterns.specs.Tables.{texts_of_table}
use Rattle.schema_patterns.specs.declared.table.PatternTable.{PatternTable}
use Rattle.schema_sites.specs.Read.{patterns_in, pattern_parts, row_of, IsRowOf, Finds}
use Rattle.schema_sites.specs.declared.keyword.Keyword as code
use Rattle.schema_sites.specs.declared.keyword.Keyword.TheVariants as keyword
use Rattle.schema_sites.specs.declared.site.Site as site
use Rattle.std.specs.Borrow.{Bor}
use Rattle.serde_json.specs.declared.value.Value.{Value}
use Rattle.reached_sites.specs.Causes.{NamesCause}
use Rattle.reached_sites.specs.Led.{causes_in}
use Rattle.reached_sites.specs.Patterns.{text_of, texts_of, written_members, Puts, Holds}
use Rattle.reached_sites.specs.Places.{place_in}
use Rattle.reached_sites.specs.Visits.{site_of, Adds}
use Rattle.reached_sites.specs.declared.cause.BuildCause as refused
use Rattle.reached_sites.specs.declared.pattern.Pattern.{Pattern}
use Rattle.reached_sites.specs.declared.visit.Visit.{Visit}
use Rattle.reached_sites.proofs.Listing.{in-before, in-behind, in-either, none-in}
use Rattle.reached_sites.proofs.Putting.{in-texts}
use Rattle.reached_sites.proofs.Walking.{own_of, context_of, row_here}
use Rattle.reached_sites.proofs.Writing.{every_text, all-made, member-shown}
use Rattle.compiled_graphs.specs.Asked.{beside_of, asked_by, IsAnswered}
use Rattle.compiled_graphs.specs.Read.{ReadAs, none, asks, wrong, TellsOne, IsOfFirst, TellsOfFirst, RowRead, RowsRead, IsUnmade, written_at}
use Rattle.compiled_graphs.specs.declared.asking.Asking.{Asking}
use Rattle.compiled_graphs.specs.declared.asking.Asking.TheVariants.{Keyword}
use Rattle.compiled_graphs.specs.declared.reading.Found.{Found}

pub none-of : {A : Type 0} (o : Option A) → ((x : A) → o ≡ Some x → ⊥) → o ≡ None
none-of None h = refl
none-of (Some x) h = absurd (h x refl)

-- only an `if` has something beside
pub none-beside : (docs : Documents) (s : Site) (k : code.Keyword) → ((c : Bor Value) (t e : Option (Bor Value)) → k ≡ keyword.If c t e → ⊥) → beside_of docs s k ≡ []
none-beside docs s keyword.Nothing h = refl
none-beside docs s (keyword.Assertion a) h = refl
none-beside docs s (keyword.Pattern p) h = refl
none-beside docs s (keyword.If c t e) h = absurd (h c t e refl)
none-beside docs s (keyword.Consequent k d) h = refl
none-beside docs s (keyword.Applicator a) h = refl
none-beside docs s (keyword.Reference k text target) h = refl

pub answered-of : (c : site.Site) (d : Data) (k : code.Keyword) → Finds c d k → IsAnswered k
answered-of c d keyword.Nothing h = tt
answered-of c d (keyword.Assertion a) h = tt
answered-of c d (keyword.Pattern p) h = tt
answered-of c d (keyword.If x t e) h = tt
answered-of c d (keyword.Consequent k y) h = tt
answered-of c d (keyword.Applicator a) h = h
answered-of c d (keyword.Reference k text target) h = tt

-- ---- one row

module _ (own : List Document) (s : Site) (row : Row) (old : Found) where
  added-count : (xs ys zs : List Visit) (n : ℕ) → zs ≡ xs ++ ys → length zs ≡ length xs + n → length ys ≡ n
  added-count xs ys zs n e count = (let one = ap length e ∙ length-append xs ys in omega (arith, one, count))

  pub row-right : (new : Found) (k : code.Keyword) (n : ℕ) → row ≡ row_of own s k → IsAnswered k → Adds own old.visits.items new.visits.items (asked_by own s k)
      → length new.visits.items ≡ length old.visits.items + n → new.askings.items ≡ old.askings.items ++ Keyword k n ∷ [] → RowRead own s row old new None
  row-right new k n is answered a count pushed = record {
    adds = record {
      askings = Keyword k n ∷ [];
      visits = a.added;
      asked = pushed;
      visited = a.grown;
      reads = λ rows ys vs h. asks row k n a.added is answered a.met (added-count old.visits.items a.added new.visits.items n a.grown count) h;
    };
    tells = ap (λ (r : Row). r.causes) is;
  }

  -- one with a cause leads nowhere, and nothing is found of it
  pub row-wrong : (c : rows.BuildCause) (e : refused.BuildCause) → In c row.causes → row.leads ≡ [] → NamesCause c e → RowRead own s row old old (Some e)
  row-wrong c e i nowhere names = record {
    adds = record {
      askings = [];
      visits = [];
      asked = sym (append-nil old.askings.items);
      visited = sym (append-nil old.visits.items);
      reads = λ rows ys vs h. wrong row c i nowhere h;
    };
    tells = (c, names, i);
  }

-- ---- one member

module _ (v : Visit) (makes : List ℕ → Bool) (all : Members) (k : List ℕ) (d : Data) (old : Found) where
  pub member-wrong : (c : rows.BuildCause) (e : refused.BuildCause) → In c (row_here v makes all k d).causes → NamesCause c e
      → RowRead (own_of v) (site_of v) (row_here v makes all k d) old old (Some e)
  member-wrong c e i names = row-wrong (own_of v) (site_of v) (row_here v makes all k d) old c e i (wrong-leads-nowhere (context_of v makes all) k d c i) names

  module _ (w : code.Keyword) (reads : IsRowOf (context_of v makes all) k (row_here v makes all k d) w) (fresh patterns : List Pattern) (empty : fresh ≡ [])
      (puts : Puts (place_in v.point.place) (pattern_parts w k) (patterns_in w) fresh patterns) where
    all-added : patterns ≡ puts.added
    all-added = puts.grown ∙ ap (λ (l : List Pattern). l ++ puts.added) empty

    pub put-texts : texts_of patterns ≡ patterns_in w
    put-texts = ap texts_of all-added ∙ puts.are

    pub member-right : (new : Found) (n : ℕ) → AreMade makes (texts_of patterns) → IsAnswered w → Adds (own_of v) old.visits.items new.visits.items (asked_by (own_of v) (site_of v) w)
        → length new.visits.items ≡ length old.visits.items + n → new.askings.items ≡ old.askings.items ++ Keyword w n ∷ []
        → RowRead (own_of v) (site_of v) (row_here v makes all k d) old new None
    member-right new n made answered a count pushed =
        row-right (own_of v) (site_of v) (row_here v makes all k d) old new w n (reads.made (subst (λ ts. AreMade makes ts) put-texts made)) answered a count pushed

    pub member-unmade : (e : refused.BuildCause) → IsUnmade makes patterns e → RowRead (own_of v) (site_of v) (row_here v makes all k d) old old (Some e)
    member-unmade e u =
        let q = u.0 in
        let there = subst (λ (l : List Pattern). In q l) all-added u.1 in
        let bad = reads.bad (text_of q) (subst (λ ts. In (text_of q) ts) put-texts (in-texts patterns u.1)) u.2 in
        let stands = subst (λ p. In (rows.bad_pattern p) (row_here v makes all k d).causes) (sym (puts.places q there)) bad in
        member-wrong (rows.bad_pattern (place_in q.place)) e stands u.3

-- what a member writes is among the patterns that its keyword has
pub member-written : {M : Type 0} (v : Visit) (all : Members) (k : List ℕ) (d : Data) (table : PatternTable M) (w : code.Keyword)
    → ((f : List ℕ → Bool) → IsRowOf (context_of v f all) k (row_here v f all k d) w) → Holds table (patterns_in w) → Holds table (written_at (site_of v).dialect all k d)
member-written v all k d table w reads holds p i = holds p (member-shown (context_of v every_text all) k p d w ((reads every_text).made (all-made (patterns_in w))) i)

-- ---- all members

abbrev causes_each : List Row → List (List rows.BuildCause)
causes_each rs = map (λ r. r.causes) rs

pub of-here : (c : rows.BuildCause) (cs : List rows.BuildCause) (lists : List (List rows.BuildCause)) → In c cs → IsOfFirst c (cs ∷ lists)
of-here c [] lists i = none-in i
of-here c (b ∷ bs) lists i = i

-- the members behind some of all, and what was found of those
pub record Going (v : Visit) (makes : List ℕ → Bool) (all rest : Members) (old now : Found) (cause : Option refused.BuildCause) : Type 0 where
  pub askings : List Asking
  pub visits : List Visit
  pub asked : now.askings.items ≡ old.askings.items ++ askings
  pub visited : now.visits.items ≡ old.visits.items ++ visits
  pub reads : (ys : List Asking) (vs : List Visit) → ReadAs (own_of v) (site_of v) (rows_of (context_of v makes all) rest) ys vs
      → ReadAs (own_of v) (site_of v) (rows_of (context_of v makes all) all) (askings ++ ys) (visits ++ vs)
  pub right : cause ≡ None → causes_in (rows_of (context_of v makes all) rest) ≡ [] → causes_in (rows_of (context_of v makes all) all) ≡ []
  pub wrong_one : IfSome cause (λ e. (c : rows.BuildCause) × NamesCause c e × In c (causes_in (rows_of (context_of v makes all) all)))
  pub causes : (c : rows.BuildCause) → In c (causes_in (rows_of (context_of v makes all) rest)) → In c (causes_in (rows_of (context_of v makes all) all))
  pub first_one : TellsOfFirst cause (map (λ r. r.causes) (rows_of (context_of v makes all) all))
  pub firsts : cause ≡ None → (c : rows.BuildCause) → IsOfFirst c (map (λ r. r.causes) (rows_of (context_of v makes all) rest)) → IsOfFirst c (map (λ r. r.causes) (rows_of (context_of v makes all) all))

pub going-begins : (v : Visit) (makes : List ℕ → Bool) (all : Members) (old : Found) → Going v makes all all old old None
going-begins v makes all old = record {
  askings = [];
  visits = [];
  asked = sym (append-nil old.askings.items);
  visited = sym (append-nil old.visits.items);
  reads = λ ys vs h. h;
  right = λ none c. c;
  wrong_one = tt;
  causes = λ c i. i;
  first_one = tt;
  firsts = λ none c i. i;
}

pub both-none : (one other : Option refused.BuildCause) → or_else one other ≡ None → (one ≡ None) × (other ≡ None)
both-none None other e = (refl, e)
both-none (Some x) other e = absurd (cc (e))

module _ (v : Visit) (makes : List ℕ → Bool) (all : Members) (k : List ℕ) (d : Data) (rest : Members) (old now next : Found) (cause more : Option refused.BuildCause)
    (g : Going v makes all (member k d rest) old now cause) (h : RowRead (own_of v) (site_of v) (row_here v makes all k d) now next more) where
  abbrev row : Row
  row = row_here v makes all k d

  abbrev left : List Row
  left = rows_of (context_of v makes all) rest

  abbrev every : List Row
  every = rows_of (context_of v makes all) all

  abbrev IsAmong : refused.BuildCause → Type 0
  IsAmong e = (c : rows.BuildCause) × NamesCause c e × In c (causes_in every)

  no-causes : (o : Option refused.BuildCause) → o ≡ None → TellsOne o row.causes → causes_in left ≡ [] → causes_in (row ∷ left) ≡ []
  no-causes None e t f = ap (λ (cs : List rows.BuildCause). cs ++ causes_in left) t ∙ f
  no-causes (Some x) e t f = absurd (cc (e))

  its-own : (o : Option refused.BuildCause) → TellsOne o row.causes → IfSome o IsAmong
  its-own None t = tt
  its-own (Some e) t = (t.0, t.1, g.causes t.0 (in-before row.causes (causes_in left) t.2))

  a-cause : (one other : Option refused.BuildCause) → IfSome one IsAmong → IfSome other IsAmong → IfSome (or_else one other) IsAmong
  a-cause None other h w = w
  a-cause (Some e) other h w = h

  pass-first : (o : Option refused.BuildCause) → o ≡ None → TellsOne o row.causes → (c : rows.BuildCause) → IsOfFirst c (causes_each left) → IsOfFirst c (causes_each (row ∷ left))
  pass-first None e t c i = subst (λ (l : List rows.BuildCause). IsOfFirst c (l ∷ causes_each left)) (sym t) i
  pass-first (Some x) e t c i = absurd (cc (e))

  first-goes : (one other : Option refused.BuildCause) → TellsOfFirst one (causes_each every) → (one ≡ None → (c : rows.BuildCause) → IsOfFirst c (causes_each (row ∷ left)) → IsOfFirst c (causes_each every))
      → TellsOne other row.causes → TellsOfFirst (or_else one other) (causes_each every)
  first-goes None None f on t = tt
  first-goes None (Some e) f on t = (t.0, t.1, on refl t.0 (of-here t.0 row.causes (causes_each left) t.2))
  first-goes (Some e) other f on t = f

  read-on : (ys : List Asking) (vs : List Visit) → ReadAs (own_of v) (site_of v) left ys vs → ReadAs (own_of v) (site_of v) every ((g.askings ++ h.adds.askings) ++ ys) ((g.visits ++ h.adds.visits) ++ vs)
  read-on ys vs r =
      subst (λ l. ReadAs (own_of v) (site_of v) every l ((g.visits ++ h.adds.visits) ++ vs)) (sym (append_assoc g.askings h.adds.askings ys))
      (subst (λ l. ReadAs (own_of v) (site_of v) every (g.askings ++ (h.adds.askings ++ ys)) l) (sym (append_assoc g.visits h.adds.visits vs))
      (g.reads (h.adds.askings ++ ys) (h.adds.visits ++ vs) (h.adds.reads left ys vs r)))

  pub going-goes : Going v makes all rest old next (or_else cause more)
  going-goes = record {
    askings = g.askings ++ h.adds.askings;
    visits = g.visits ++ h.adds.visits;
    asked = h.adds.asked ∙ ap (λ l. l ++ h.adds.askings) g.asked ∙ append_assoc old.askings.items g.askings h.adds.askings;
    visited = h.adds.visited ∙ ap (λ l. l ++ h.adds.visits) g.visited ∙ append_assoc old.visits.items g.visits h.adds.visits;
    reads = read-on;
    right = λ e f. (let both = both-none cause more e in g.right both.0 (no-causes more both.1 h.tells f));
    wrong_one = a-cause cause more g.wrong_one (its-own more h.tells);
    causes = λ c i. g.causes c (in-behind row.causes (causes_in left) i);
    first_one = first-goes cause more g.first_one g.firsts h.tells;
    firsts = λ e c i. (let both = both-none cause more e in g.firsts both.0 c (pass-first more both.1 h.tells c i));
  }

module _ (v : Visit) (makes : List ℕ → Bool) (all : Members) (old now : Found) where
  told : (o : Option refused.BuildCause) → Going v makes all no_members old now o → TellsOne o (causes_in (rows_of (context_of v makes all) all))
  told None g = g.right refl refl
  told (Some e) g = g.wrong_one

  pub going-ends : (o : Option refused.BuildCause) → Going v makes all no_members old now o → RowsRead (own_of v) (site_of v) (rows_of (context_of v makes all) all) old now o
  going-ends o g = record {
    askings = g.askings;
    visits = g.visits;
    asked = g.asked;
    visited = g.visited;
    reads = subst (λ l. ReadAs (own_of v) (site_of v) (rows_of (context_of v makes all) all) l g.visits) (append-nil g.askings)
        (subst (λ l. ReadAs (own_of v) (site_of v) (rows_of (context_of v makes all) all) (g.askings ++ []) l) (append-nil g.visits) (g.reads [] [] none));
    tells = told o g;
    first = g.first_one;
  }

-- ---- the patterns that members write

abbrev pub IsWritten : {M : Type 0} → Visit → Members → Members → PatternTable M → List ℕ → Type 0
IsWritten v all rest table p = (is_listed p (texts_of_table table) ≡ true) ⊎ In p (written_members (site_of v).dialect all rest)

abbrev pub AreWritten : {M : Type 0} → Visit → Members → Members → Option refused.BuildCause → PatternTable M → Type 0
AreWritten v all rest cause table = cause ≡ None → (p : List ℕ) → In p (written_members (site_of v).dialect all all) → IsWritten v all rest table p

pub written-begins : {M : Type 0} (v : Visit) (all : Members) (table : PatternTable M) → AreWritten v all all None table
written-begins v all table t p i = inr i

module _ {M : Type 0} (v : Visit) (all : Members) (k : List ℕ) (d : Data) (rest : Members) (cause more : Option refused.BuildCause) (table larger : PatternTable M) where
  written-left : Holds larger (texts_of_table table) → Holds larger (written_at (site_of v).dialect all k d) → (p : List ℕ) → IsWritten v all (member k d rest) table p → IsWritten v all rest larger p
  written-left kept here p (inl i) = inl (kept p (listed_in p (texts_of_table table) i))
  written-left kept here p (inr i) = by (in-either (written_at (site_of v).dialect all k d) (written_members (site_of v).dialect all rest) i)
    where
      by : In p (written_at (site_of v).dialect all k d) ⊎ In p (written_members (site_of v).dialect all rest) → IsWritten v all rest larger p
      by (inl j) = inl (here p j)
      by (inr j) = inr j

  pub written-goes : Holds larger (texts_of_table table) → (more ≡ None → Holds larger (written_at (site_of v).dialect all k d)) → AreWritten v all (member k d rest) cause table
      → AreWritten v all rest (or_else cause more) larger
  written-goes kept here w e p i = (let both = both-none cause more e in written-left kept (here both.1) p (w both.0 p i))

module _ {M : Type 0} (v : Visit) (all : Members) (cause : Option refused.BuildCause) (table : PatternTable M) where
  all-put : (p : List ℕ) → IsWritten v all no_members table p → is_listed p (texts_of_table table) ≡ true
  all-put p (inl i) = i
  all-put p (inr i) = none-in i

  pub written-ends : AreWritten v all no_members cause table → cause ≡ None → Holds table (written_members (site_of v).dialect all all)
  written-ends w t p i = all-put p (w t p i)
