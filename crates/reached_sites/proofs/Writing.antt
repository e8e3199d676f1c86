-- The patterns that a schema writes, and those of its keywords.
use Rattle.std.proofs.Common.{if◌then◌else◌, ◌≡◌, ◌∙◌, ℕ, ℤ, List, [], ◌∷◌, ◌++◌, map, Bool, true, false, codes, bytes_eq, Option, Some, None, Result, Ok, Err, refl, sym, ap, subst, append-nil, is_some, ◌||◌}
use Rattle.std.proofs.lemmas.Slice.Eq.{bytes_eq-Decides}
use Rattle.std.specs.List.{flat_map}
use Rattle.serde_json.specs.Data.{Data, null, boolean, number, string, array, object, Members, no_members, member}
use Rattle.serde_json.specs.Find.{as_str, get_member}
use Rattle.serde_json.specs.View.{members_view}
use Rattle.json_values.specs.Parts.{Part, name}
use Rattle.json_values.specs.Patterns.{literal_of}
use Rattle.schema_definitions.specs.Bearers.{Documents}
use Rattle.schema_drafts.specs.Counts.{counts}
use Rattle.schema_definitions.specs.Places.{Dialect, is_schema}
use Rattle.schema_definitions.specs.Words.{listed}
use Rattle.schema_meaning.specs.Members.{In, first, later}
use Rattle.schema_meaning.specs.Keywords.{Assertion, pattern, Form, by_pattern, of_others, Shape, never, asserts, asks_every, asks_together, asks_names, asks_some, asks_one, asks_no, contains, condition, reference, pattern_properties, additional_properties, no_additional_properties, no_properties}
use Rattle.schema_meaning.specs.Questions.{listed_members}
use Rattle.schema_definitions.specs.Plain.{keywords_at}
use Rattle.schema_definitions.specs.Sites.{Site, below}
use Rattle.schema_definitions.specs.Rows.{has_reference, BuildCause, bad_pattern, Row, nothing_read, refused, reads, Context, counts_here, beside, place_at, at, expected, subschema, and_more, named_result, each_named, row_of, sites_named, schema_map, assertion, is_made, pattern_row, member_names, names_of_object, is_alone, declared_beside, refuses_others, additional_properties_row, patterns_wrong, with_causes, pattern_properties_row, is_draft_4, readers, read_among, row_at, rows_of, rows_in, rows_at}
use Rattle.assertions.specs.Shapes.{assertion_of, bound_assertion, old_assertion, count_assertion}
use Rattle.assertions.specs.declared.keyword.Count.{Count}
use Rattle.assertions.specs.declared.keyword.Count.TheVariants as count
use Rattle.assertions.specs.declared.keyword.Limit.{Limit}
use Rattle.assertions.specs.declared.keyword.Limit.TheVariants as side
use Rattle.assertions.specs.declared.assertion.Bound.{Bound}
use Rattle.assertions.specs.declared.assertion.Bound.TheVariants as bound
use Rattle.assertions.specs.declared.assertion.Assertion.{Assertion as Asserted}
use Rattle.assertions.specs.declared.assertion.Assertion.TheVariants as asserted
use Rattle.applicators.specs.Made.{AreMade}
use Rattle.applicators.specs.Made as making
use Rattle.applicators.specs.Shapes as applied
use Rattle.applicators.specs.Applied.{Applicator}
use Rattle.applicators.specs.Combined.{name_of, combining_of, asks_of}
use Rattle.applicators.specs.Asks.{form_by, patterns_among}
use Rattle.applicators.specs.Forms.{shape_by}
use Rattle.applicators.specs.Lent.{Asks}
use Rattle.applicators.specs.declared.asks.AsksOf.TheVariants as asked
use Rattle.applicators.specs.declared.combining.Combining.{Combining}
use Rattle.applicators.proofs.FormLemmas.{IsKeyword, by_every}
use Rattle.applicators.proofs.CombinedLemmas.{is_keyword}
use Rattle.schema_sites.specs.Read as read
use Rattle.schema_sites.specs.declared.keyword.Keyword.{Keyword}
use Rattle.schema_sites.specs.declared.keyword.Keyword.TheVariants as keyword
use Rattle.reading_laws.specs.Asked.{pattern_in, patterns_in, patterns_of}
use Rattle.certificate_laws.specs.Words.{AsksPatternsBy, IsUnder, HasPatternsBy}
use Rattle.certificate_laws.proofs.BesideLed.{found_among}
use Rattle.certificate_laws.proofs.Listed.{each_in}
use Rattle.certificate_laws.proofs.Named.{shapes_are_under, shapes_have_patterns}
use Rattle.reached_sites.specs.Patterns.{written_by, written_members, written_in, written}
use Rattle.reached_sites.proofs.Listing.{in-before, in-behind, in-all, in-some, none-in}

-- ---- the patterns in a keyword's own value

abbrev pub shown_in : Form Site → List (List ℕ)
shown_in (by_pattern ps) = map (λ p. p.0) ps
shown_in form = []

abbrev pub shown : Shape Site → List (List ℕ)
shown never = []
shown (asserts a) = pattern_in a
shown (asks_every k form) = shown_in form
shown (asks_together k form) = shown_in form
shown (asks_names k s) = []
shown (asks_some k form) = shown_in form
shown (asks_one k form) = shown_in form
shown (asks_no k schema s) = []
shown (contains s least most) = []
shown (condition s t e) = []
shown (reference r s) = []

bound-shown : (b : Bound) (z : ℤ) → pattern_in (bound_assertion b z) ≡ []
bound-shown bound.Maximum z = refl
bound-shown bound.ExclusiveMaximum z = refl
bound-shown bound.Minimum z = refl
bound-shown bound.ExclusiveMinimum z = refl

old-shown : (l : Limit) (z : ℤ) (b : Bool) → pattern_in (old_assertion l z b) ≡ []
old-shown side.Maximum z b = refl
old-shown side.Minimum z b = refl

count-shown : (c : Count) (n : ℕ) → pattern_in (count_assertion c n) ≡ []
count-shown count.MaxLength n = refl
count-shown count.MinLength n = refl
count-shown count.MaxItems n = refl
count-shown count.MinItems n = refl
count-shown count.MaxProperties n = refl
count-shown count.MinProperties n = refl

assertion-shown : (a : Asserted) → pattern_in (assertion_of a) ≡ []
assertion-shown (asserted.Types names) = refl
assertion-shown (asserted.Enumeration options) = refl
assertion-shown (asserted.Constant e) = refl
assertion-shown (asserted.MultipleOf divisor) = refl
assertion-shown (asserted.Limit b limit) = bound-shown b _
assertion-shown (asserted.LimitOfDraft4 l limit strict) = old-shown l _ strict
assertion-shown (asserted.Count c limit) = count-shown c limit
assertion-shown asserted.UniqueItems = refl
assertion-shown (asserted.Required names) = refl
assertion-shown (asserted.DependentRequired entries) = refl

names-below : (site : List Part → Data → Site) (k : List ℕ) (ms : Members) → map (λ p. p.0) (applied.sites_of_map site k ms) ≡ member_names ms
names-below site k no_members = refl
names-below site k (member n d ms) = ap (λ (ns : List (List ℕ)). n ∷ ns) (names-below site k ms)

form-shown : (k : List ℕ) (c : Combining) (f : Form Site) → IsKeyword k c f → shown (shape_by k c f) ≡ shown_in f
form-shown _ _ _ (by_every k f asks) = refl
form-shown _ _ _ is = refl

patterns-are : (site : List Part → Data → Site) (k : List ℕ) (f : Asks) → shown_in (form_by site k f) ≡ patterns_among f
patterns-are site k (asked.MatchingMembers schemas) = names-below site k (members_view schemas.now.entries)
patterns-are site k f = refl

applied-shown : (site : List Part → Data → Site) (a : Applicator) → shown (applied.shape_of site a) ≡ making.patterns_in a
applied-shown site a =
    form-shown (name_of a) (combining_of a) (form_by site (name_of a) (asks_of a)) (is_keyword site a) ∙ patterns-are site (name_of a) (asks_of a)

-- the patterns of a keyword as it was read are those of its shapes
keyword-shown : (docs : Documents) (s : Site) (k : Keyword) → flat_map shown (read.shapes_of docs s k) ≡ read.patterns_in k
keyword-shown docs s keyword.Nothing = refl
keyword-shown docs s (keyword.Assertion a) = ap (λ (ps : List (List ℕ)). ps ++ []) (assertion-shown a)
keyword-shown docs s (keyword.Pattern p) = refl
keyword-shown docs s (keyword.If schema then_schema else_schema) = refl
keyword-shown docs s (keyword.Consequent k schema) = refl
keyword-shown docs s (keyword.Applicator a) = append-nil (shown (applied.shape_of (below docs s) a)) ∙ applied-shown (below docs s) a
keyword-shown docs s (keyword.Reference r text target) = refl

-- ---- the rows of `pattern` and `patternProperties`

abbrev ShownBy : Row → List ℕ → Type 0
ShownBy row p = In p (flat_map shown row.shapes)

-- with those that `additionalProperties` looks at
abbrev BorneBy : Row → List ℕ → Type 0
BorneBy row p = In p (flat_map patterns_of row.shapes)

-- nothing is wrong with a row, or nothing follows
not-right : {P : Type 0} (c : BuildCause) (cs : List BuildCause) → c ∷ cs ≡ [] → P
not-right c cs e = absurd (cc (e))

abbrev one_pattern : Context → List ℕ → Bool → Row
one_pattern x q b = if b then reads [] (assertion (pattern q)) else refused (bad_pattern (place_at x (at (codes "pattern"))) ∷ [])

pattern-shown : (x : Context) (p q : List ℕ) (b : Bool) → BorneBy (one_pattern x q b) p → In p (q ∷ [])
pattern-shown x p q true i = i
pattern-shown x p q false i = none-in i

of-pattern : (x : Context) (p : List ℕ) (o : Option (List ℕ)) → BorneBy (pattern_row x (codes "pattern") o) p → In p (listed o)
of-pattern x p None i = i
of-pattern x p (Some q) i = pattern-shown x p q (is_made x q) i

shows-pattern : (x : Context) (p q : List ℕ) (b : Bool) → (one_pattern x q b).causes ≡ [] → In p (q ∷ []) → ShownBy (one_pattern x q b) p
shows-pattern x p q true r i = i
shows-pattern x p q false r i = not-right (bad_pattern (place_at x (at (codes "pattern")))) [] r

in-pattern : (x : Context) (p : List ℕ) (o : Option (List ℕ)) → (pattern_row x (codes "pattern") o).causes ≡ [] → In p (listed o) → ShownBy (pattern_row x (codes "pattern") o) p
in-pattern x p None r i = i
in-pattern x p (Some q) r i = shows-pattern x p q (is_made x q) r i

abbrev Named : Type 0
Named = Result (List (List ℕ × Site)) (List BuildCause)

abbrev names_in : List (List ℕ × Site) → List (List ℕ)
names_in ps = map (λ p. p.0) ps

names-more : (n : List ℕ) (ns : List (List ℕ)) (r : Result Site (List BuildCause)) (rest : Named) (ps : List (List ℕ × Site)) → ((qs : List (List ℕ × Site)) → rest ≡ Ok qs → names_in qs ≡ ns)
    → and_more (named_result n r) rest ≡ Ok ps → names_in ps ≡ n ∷ ns
names-more n ns (Ok s) (Ok qs) ps h e = let same : (n, s) ∷ qs ≡ ps = cc in ap names_in (sym same) ∙ ap (λ (ms : List (List ℕ)). n ∷ ms) (h qs refl)
names-more n ns (Ok s) (Err more) ps h e = absurd (cc (e))
names-more n ns (Err w) (Ok qs) ps h e = absurd (cc (e))
names-more n ns (Err w) (Err more) ps h e = absurd (cc (e))

names-read : (x : Context) (k : List ℕ) (ms : Members) (ps : List (List ℕ × Site)) → each_named x k ms ≡ Ok ps → names_in ps ≡ member_names ms
names-read x k no_members ps e = let same : [] ≡ ps = cc in ap names_in (sym same)
names-read x k (member n d ms) ps e = names-more n (member_names ms) (subschema x (name n ∷ name k ∷ []) d) (each_named x k ms) ps (λ qs is. names-read x k ms qs is) e

-- what is wrong with one is a cause
abbrev one_schema_at : Context → List ℕ → List ℕ → Data → Bool → Result Site (List BuildCause)
one_schema_at x k n d b = if b then Ok (below x.documents x.site (name n ∷ name k ∷ []) d) else Err (expected x (name n ∷ name k ∷ []) (codes "schema"))

wrong-more : (x : Context) (k n : List ℕ) (d : Data) (b : Bool) (rest : Named) (cs : List BuildCause) → ((more : List BuildCause) → rest ≡ Err more → more ≡ [] → ⊥)
    → and_more (named_result n (one_schema_at x k n d b)) rest ≡ Err cs → cs ≡ [] → ⊥
wrong-more x k n d true (Ok qs) cs h e none = absurd (cc (e))
wrong-more x k n d true (Err more) cs h e none = let same : more ≡ cs = cc in h more refl (same ∙ none)
wrong-more x k n d false (Ok qs) cs h e none = let same : expected x (name n ∷ name k ∷ []) (codes "schema") ≡ cs = cc in not-right _ _ (same ∙ none)
wrong-more x k n d false (Err more) cs h e none = let same : expected x (name n ∷ name k ∷ []) (codes "schema") ++ more ≡ cs = cc in not-right _ _ (same ∙ none)

wrong-some : (x : Context) (k : List ℕ) (ms : Members) (cs : List BuildCause) → each_named x k ms ≡ Err cs → cs ≡ [] → ⊥
wrong-some x k no_members cs e none = absurd (cc (e))
wrong-some x k (member n d ms) cs e none = wrong-more x k n d (is_schema d) (each_named x k ms) cs (λ more is empty. wrong-some x k ms more is empty) e none

abbrev names_row : Named → Row
names_row r = row_of sites_named (λ ps. pattern_properties ps ∷ []) r

names-shown : (x : Context) (k p : List ℕ) (ms : Members) (r : Named) → each_named x k ms ≡ r → BorneBy (names_row r) p → In p (member_names ms)
names-shown x k p ms (Ok ps) e i = subst (λ (ns : List (List ℕ)). In p ns) (append-nil (names_in ps) ∙ names-read x k ms ps e) i
names-shown x k p ms (Err cs) e i = none-in i

shows-names : (x : Context) (k p : List ℕ) (ms : Members) (r : Named) → each_named x k ms ≡ r → (names_row r).causes ≡ [] → In p (member_names ms) → ShownBy (names_row r) p
shows-names x k p ms (Ok ps) e right i = subst (λ (ns : List (List ℕ)). In p ns) (sym (append-nil (names_in ps) ∙ names-read x k ms ps e)) i
shows-names x k p ms (Err cs) e right i = absurd (wrong-some x k ms cs e right)

of-map : (x : Context) (k p : List ℕ) (d : Data) → BorneBy (schema_map x k pattern_properties d) p → In p (names_of_object (Some d))
of-map x k p null i = i
of-map x k p (boolean b) i = i
of-map x k p (number n) i = i
of-map x k p (string t) i = i
of-map x k p (array ds) i = i
of-map x k p (object ms) i = names-shown x k p ms (each_named x k ms) refl i

in-map : (x : Context) (k p : List ℕ) (d : Data) → (schema_map x k pattern_properties d).causes ≡ [] → In p (names_of_object (Some d)) → ShownBy (schema_map x k pattern_properties d) p
in-map x k p null r i = i
in-map x k p (boolean b) r i = i
in-map x k p (number n) r i = i
in-map x k p (string t) r i = i
in-map x k p (array ds) r i = i
in-map x k p (object ms) r i = shows-names x k p ms (each_named x k ms) refl r i

of-causes : (cs : List BuildCause) (row : Row) (p : List ℕ) → BorneBy (with_causes cs row) p → BorneBy row p
of-causes [] row p i = i
of-causes (c ∷ cs) row p i = none-in i

in-causes : (cs : List BuildCause) (row : Row) (p : List ℕ) → (with_causes cs row).causes ≡ [] → (row.causes ≡ [] → ShownBy row p) → ShownBy (with_causes cs row) p
in-causes [] row p r h = h r
in-causes (c ∷ cs) row p r h = not-right c (cs ++ row.causes) r

of-patterns : (x : Context) (p : List ℕ) (d : Data) → BorneBy (pattern_properties_row x (codes "patternProperties") d) p → In p (names_of_object (Some d))
of-patterns x p d i =
    let k = codes "patternProperties" in
    of-map x k p d (of-causes (patterns_wrong x k (names_of_object (Some d))) (schema_map x k pattern_properties d) p i)

in-patterns : (x : Context) (p : List ℕ) (d : Data) → (pattern_properties_row x (codes "patternProperties") d).causes ≡ [] → In p (names_of_object (Some d))
    → ShownBy (pattern_properties_row x (codes "patternProperties") d) p
in-patterns x p d r i =
    let k = codes "patternProperties" in
    in-causes (patterns_wrong x k (names_of_object (Some d))) (schema_map x k pattern_properties d) p r (λ own. in-map x k p d own i)

-- ---- a member's patterns are written there

abbrev pub item : Dialect → Members → List ℕ → Data → List (List ℕ)
item y all k d = if counts y (has_reference all) k then written_by k d else []

written-among : (y : Dialect) (all ms : Members) (k p : List ℕ) (d : Data) → In (k, d) (listed_members ms) → In p (item y all k d) → In p (written_members y all ms)
written-among y all no_members k p d i j = none-in i
written-among y all (member _ _ ms) k p d first j = in-before (item y all k d) (written_members y all ms) j
written-among y all (member l e ms) k p d (later i) j = in-behind (item y all l e) (written_members y all ms) (written-among y all ms k p d i j)

abbrev counted_row : Context → List ℕ → Data → Bool → Row
counted_row x k d b = if b then read_among readers x k d else nothing_read

module _ (x : Context) (p : List ℕ) where
  pattern-item : (d : Data) (b : Bool) → BorneBy (counted_row x (codes "pattern") d b) p → In p (if b then written_by (codes "pattern") d else [])
  pattern-item d true i = of-pattern x p (as_str d) i
  pattern-item d false i = none-in i

  names-item : (d : Data) (b : Bool) → BorneBy (counted_row x (codes "patternProperties") d b) p → In p (if b then written_by (codes "patternProperties") d else [])
  names-item d true i = of-patterns x p d i
  names-item d false i = none-in i

  abbrev Beside : Type 0
  Beside = In p (names_of_object (beside x (codes "patternProperties")))

  others-alone : (s : Site) (b : Bool) → In p (patterns_of (if b then no_properties s else no_additional_properties (declared_beside x) s)) → Beside
  others-alone s true i = none-in i
  others-alone s false i = i

  own : (shape : Shape Site) → In p (flat_map patterns_of (shape ∷ [])) → In p (patterns_of shape)
  own shape i = subst (λ (ps : List (List ℕ)). In p ps) (append-nil (patterns_of shape)) i

  of-others : (d : Data) → BorneBy (additional_properties_row x (codes "additionalProperties") d) p → Beside
  of-others null i = none-in i
  of-others (boolean true) i = none-in i
  of-others (boolean false) i =
      let s = below x.documents x.site (at (codes "additionalProperties")) (boolean false) in
      others-alone s (is_alone x) (own (refuses_others x s) i)
  of-others (number n) i = none-in i
  of-others (string t) i = none-in i
  of-others (array ds) i = none-in i
  of-others (object ms) i = own (additional_properties (declared_beside x) (below x.documents x.site (at (codes "additionalProperties")) (object ms))) i

  others-item : (d : Data) (b : Bool) → BorneBy (counted_row x (codes "additionalProperties") d b) p → Beside
  others-item d true i = of-others d i
  others-item d false i = none-in i

  abbrev Written : Type 0
  Written = In p (written_members x.site.dialect x.members x.members)

  found-written : (b : Bool) (o : Option Data) → counts_here x (codes "patternProperties") ≡ b → get_member (codes "patternProperties") x.members ≡ o
      → In p (names_of_object (if b then o else None)) → Written
  found-written true None counts is i = none-in i
  found-written true (Some d) counts is i =
      written-among x.site.dialect x.members x.members (codes "patternProperties") p d (found_among (codes "patternProperties") d x.members is)
      (subst (λ (b : Bool). In p (if b then written_by (codes "patternProperties") d else [])) (sym counts) i)
  found-written false o counts is i = none-in i

  beside-written : Beside → Written
  beside-written i = found-written (counts_here x (codes "patternProperties")) (get_member (codes "patternProperties") x.members) refl refl i

  -- a keyword of a member
  module _ (k : List ℕ) (d : Data) (listed : In (k, d) (listed_members x.members)) where
    by-item : In p (item x.site.dialect x.members k d) → Written
    by-item i = written-among x.site.dialect x.members x.members k p d listed i

    of-asserted : codes "pattern" ≡ k → BorneBy (row_at x k d) p → Written
    of-asserted e i =
        by-item (subst (λ (n : List ℕ). BorneBy (row_at x n d) p → In p (item x.site.dialect x.members n d)) e (pattern-item d (counts_here x (codes "pattern"))) i)

    of-named : codes "patternProperties" ≡ k → BorneBy (row_at x k d) p → Written
    of-named e i =
        by-item (subst (λ (n : List ℕ). BorneBy (row_at x n d) p → In p (item x.site.dialect x.members n d)) e (names-item d (counts_here x (codes "patternProperties"))) i)

    of-declared : codes "additionalProperties" ≡ k → BorneBy (row_at x k d) p → Written
    of-declared e i =
        beside-written (subst (λ (n : List ℕ). BorneBy (row_at x n d) p → Beside) e (others-item d (counts_here x (codes "additionalProperties"))) i)

    abbrev Under : Shape Site → Type 0
    Under shape = IsUnder (is_draft_4 x.site.dialect.draft) k shape

    by-assertion : (a : Assertion) → Under (asserts a) → BorneBy (row_at x k d) p → In p (pattern_in a) → Written
    by-assertion (pattern q) u i j = of-asserted (u.back (codes "pattern") refl).of_member i
    by-assertion a u i j = none-in j

    by-form : (form : Form Site) → AsksPatternsBy k form → BorneBy (row_at x k d) p → In p (patterns_in form) → Written
    by-form (by_pattern ps) e i j = of-named e i
    by-form (of_others declared s) e i j = of-declared e i
    by-form form e i j = none-in j

    by-shape : (shape : Shape Site) → Under shape → HasPatternsBy k shape → BorneBy (row_at x k d) p → In p (patterns_of shape) → Written
    by-shape never u e i j = none-in j
    by-shape (asserts a) u e i j = by-assertion a u i j
    by-shape (asks_every n form) u e i j = by-form form e i j
    by-shape (asks_together n form) u e i j = by-form form e i j
    by-shape (asks_names n s) u e i j = none-in j
    by-shape (asks_some n form) u e i j = by-form form e i j
    by-shape (asks_one n form) u e i j = by-form form e i j
    by-shape (asks_no n schema s) u e i j = none-in j
    by-shape (contains s least most) u e i j = none-in j
    by-shape (condition s t f) u e i j = none-in j
    by-shape (reference r s) u e i j = none-in j

    member-written : (shape : Shape Site) → In shape (row_at x k d).shapes → In p (patterns_of shape) → Written
    member-written shape i j =
        let shapes = (row_at x k d).shapes in
        by-shape shape (each_in (IsUnder (is_draft_4 x.site.dialect.draft) k) shapes (shapes_are_under x k d) shape i)
        (each_in (HasPatternsBy k) shapes (shapes_have_patterns x k d) shape i) (in-all patterns_of shapes i j) j

-- ---- all that stands at a site

-- a row is that of a member
record OfMember (x : Context) (ms : Members) (row : Row) : Type 0 where
  name : List ℕ
  value : Data
  listed : In (name, value) (listed_members ms)
  is : row ≡ row_at x name value

one-more : (x : Context) (ms : Members) (k : List ℕ) (d : Data) (row : Row) → OfMember x ms row → OfMember x (member k d ms) row
one-more x ms k d row o = record { name = o.name; value = o.value; listed = later o.listed; is = o.is }

of-member : (x : Context) (ms : Members) (row : Row) → In row (rows_of x ms) → OfMember x ms row
of-member x no_members row i = none-in i
of-member x (member k d ms) _ first = record { name = k; value = d; listed = first; is = refl }
of-member x (member k d ms) row (later i) = one-more x ms k d row (of-member x ms row i)

abbrev context : Documents → (List ℕ → Bool) → Site → Members → Context
context docs makes s ms = record { documents = docs; makes = makes; site = s; members = ms }

object-written : (docs : Documents) (makes : List ℕ → Bool) (s : Site) (ms : Members) (shape : Shape Site)
    → In shape (flat_map (λ (r : Row). r.shapes) (rows_of (context docs makes s ms) ms)) → (p : List ℕ) → In p (patterns_of shape) → In p (written_members s.dialect ms ms)
object-written docs makes s ms shape i p j =
    let x = context docs makes s ms in
    let w = in-some (λ (r : Row). r.shapes) (rows_of x ms) i in
    let o = of-member x ms w.0 w.1 in
    member-written x p o.name o.value o.listed shape (subst (λ (r : Row). In shape r.shapes) o.is w.2) j

never-patterned : {P : Type 0} (shape : Shape Site) (p : List ℕ) → In shape (never ∷ []) → In p (patterns_of shape) → P
never-patterned _ p first j = none-in j
never-patterned shape p (later i) j = none-in i

abbrev shapes_here : Documents → (List ℕ → Bool) → Site → Data → List (Shape Site)
shapes_here docs makes s d = flat_map (λ (r : Row). r.shapes) (rows_in s (context docs makes s) d)

contents-written : (docs : Documents) (makes : List ℕ → Bool) (s : Site) (d : Data) (shape : Shape Site) → In shape (shapes_here docs makes s d)
    → (p : List ℕ) → In p (patterns_of shape) → In p (written_in s.dialect d)
contents-written docs makes s null shape h p j = none-in h
contents-written docs makes s (boolean true) shape h p j = none-in h
contents-written docs makes s (boolean false) shape h p j = never-patterned shape p h j
contents-written docs makes s (number n) shape h p j = none-in h
contents-written docs makes s (string t) shape h p j = none-in h
contents-written docs makes s (array ds) shape h p j = none-in h
contents-written docs makes s (object ms) shape h p j = object-written docs makes s ms shape h p j

-- the patterns of the keywords of a site are written there
pub site-written : (docs : Documents) (makes : List ℕ → Bool) (s : Site) (shape : Shape Site) → In shape (keywords_at docs makes s) → (p : List ℕ) → In p (patterns_of shape)
    → In p (written s)
unfolding rows_at
site-written docs makes s shape i p j = contents-written docs makes s s.contents shape i p j

-- ---- what a member writes is a pattern of the keyword as it was read

abbrev pub every_text : List ℕ → Bool
every_text p = true

true-behind : (b : Bool) → (b || true) ≡ true
true-behind true = refl
true-behind false = refl

pub all-made : (ps : List (List ℕ)) → AreMade every_text ps
all-made ps = record { each = λ p i. true-behind (is_some (literal_of p)) }

module _ (x : Context) (k p : List ℕ) (d : Data) where
  abbrev Shows : List ℕ → Type 0
  Shows n = (read_among readers x n d).causes ≡ [] → ShownBy (read_among readers x n d) p

  by-name : (c e : Bool) → bytes_eq k (codes "pattern") ≡ c → bytes_eq k (codes "patternProperties") ≡ e
      → In p (if c then listed (as_str d) else (if e then names_of_object (Some d) else [])) → Shows k
  by-name true e is other i = subst Shows (sym ((bytes_eq-Decides k (codes "pattern")).0 is)) (λ r. in-pattern x p (as_str d) r i)
  by-name false true is other i = subst Shows (sym ((bytes_eq-Decides k (codes "patternProperties")).0 other)) (λ r. in-patterns x p d r i)
  by-name false false is other i = none-in i

  item-shown : (b : Bool) → (counted_row x k d b).causes ≡ [] → In p (if b then written_by k d else []) → ShownBy (counted_row x k d b) p
  item-shown true r i = by-name (bytes_eq k (codes "pattern")) (bytes_eq k (codes "patternProperties")) refl refl i r
  item-shown false r i = none-in i

  pub member-shown : (w : Keyword) → row_at x k d ≡ read.row_of x.documents x.site w → In p (item x.site.dialect x.members k d) → In p (read.patterns_in w)
  member-shown w made i =
      let right : (row_at x k d).causes ≡ [] = ap (λ (r : Row). r.causes) made in
      subst (λ (ps : List (List ℕ)). In p ps) (ap (λ (r : Row). flat_map shown r.shapes) made ∙ keyword-shown x.documents x.site w) (item-shown (counts_here x k) right i)
