-- What is found at a visit, at the sites for which it stands.
use Rattle.std.proofs.Common.{◌≡◌, ◌∙◌, ◌⊎◌, ℕ, List, [], ◌∷◌, ◌++◌, Bool, true, false, true≢false, Option, Some, None, IfSome, is_none, map, option_map, codes, refl, sym, subst, inl, inr}
use Rattle.std.specs.List.{AllByRecursion, AllZip}
use Rattle.std.specs.Borrow.{Bor}
use Rattle.serde_json.specs.View.{view}
use Rattle.serde_json.specs.declared.value.Value.{Value}
use Rattle.schema_meaning.specs.Members.{In, first, later}
use Rattle.schema_definitions.specs.Bearers.{Document}
use Rattle.schema_definitions.specs.BuildCauses.{causes_at}
use Rattle.schema_definitions.specs.Rows as rows
use Rattle.schema_definitions.specs.Rows.{Row, rows_at}
use Rattle.schema_definitions.specs.Sites.{Site}
use Rattle.reading_laws.proofs.Asked.{Holds}
use Rattle.reading_laws.proofs.Elements.{each_in}
use Rattle.reading_laws.proofs.Reached.{shapes_led}
use Rattle.reading_laws.proofs.Reaching.{in_step, same_causes, same_identifiers}
use Rattle.reading_laws.proofs.Reading.{read_alike}
use Rattle.reading_laws.proofs.Alike.{turned}
use Rattle.reading_laws.specs.SiteLaws.{AreAlike, RowsAgree}
use Rattle.schema_sites.specs.Read.{leads_of, row_of, site_at}
use Rattle.schema_sites.specs.declared.keyword.Keyword as code
use Rattle.schema_sites.specs.declared.keyword.Keyword.TheVariants as keyword
use Rattle.reached_sites.specs.Led.{leads_in}
use Rattle.reached_sites.specs.Visits.{site_of, Met, Belongs, Matches}
use Rattle.reached_sites.specs.declared.cause.BuildCause as refused
use Rattle.reached_sites.specs.declared.visit.Visit.{Visit}
use Rattle.reached_sites.proofs.Listing.{in-all, in-before, in-behind, in-either, in-one, none-in}
use Rattle.reached_sites.proofs.Matching.{visit-of, site-of, belongs-of}
use Rattle.reached_sites.proofs.Mirrored.{alike-leads}
use Rattle.compiled_graphs.specs.Asked.{site_beside, beside_of, asked_by}
use Rattle.compiled_graphs.specs.Graphs.{IsLed}
use Rattle.compiled_graphs.specs.Read.{ReadAs, none, refuses, asks, wrong, TellsOne, IsFound}
use Rattle.compiled_graphs.specs.Told.{causes_apart}
use Rattle.compiled_graphs.specs.declared.asking.Asking.{Asking}
use Rattle.compiled_graphs.specs.declared.reading.Found.{Found}
use Rattle.compiled_graphs.proofs.Visits.{met-among}

-- ---- what is asked

module _ (Q : Site → Type 0) (t : Site) where
  either-known : (xs ys : List Site) → (In t xs → Q t) → (In t ys → Q t) → In t xs ⊎ In t ys → Q t
  either-known xs ys f g (inl j) = f j
  either-known xs ys f g (inr j) = g j

module _ (own : List Document) (s : Site) (Q : Site → Type 0) where
  one-beside : (k : List ℕ) (o : Option (Bor Value)) → IfSome (option_map (λ v. site_at own s k (view v.now)) o) Q → (t : Site) → In t (site_beside own s k o) → Q t
  one-beside k None g t j = none-in j
  one-beside k (Some v) g t j = subst Q (sym (in-one j)) g

  -- what stands beside an `if` is known where all that its shape asks is
  beside-known : (k : code.Keyword) → AllByRecursion (Holds Q Q) (row_of own s k).shapes → (t : Site) → In t (beside_of own s k) → Q t
  beside-known keyword.Nothing h t i = none-in i
  beside-known (keyword.Assertion a) h t i = none-in i
  beside-known (keyword.Pattern p) h t i = none-in i
  beside-known (keyword.If c a b) h t i =
      let xs = site_beside own s (codes "then") a in
      let ys = site_beside own s (codes "else") b in
      either-known Q t xs ys (λ j. one-beside (codes "then") a h.0.1 t j) (λ j. one-beside (codes "else") b h.0.2 t j) (in-either xs ys i)
  beside-known (keyword.Consequent k d) h t i = none-in i
  beside-known (keyword.Applicator a) h t i = none-in i
  beside-known (keyword.Reference k text target) h t i = none-in i

  asked-known : (k : code.Keyword) → ((t : Site) → In t (leads_of own s k) → Q t) → AllByRecursion (Holds Q Q) (row_of own s k).shapes → (t : Site) → In t (asked_by own s k) → Q t
  asked-known k led h t i = either-known Q t (leads_of own s k) (beside_of own s k) (led t) (beside-known k h t) (in-either (leads_of own s k) (beside_of own s k) i)

  abbrev pub MetIn : Visit → Type 0
  MetIn w = (t : Site) × Q t × Met w t

  abbrev pub AllLed : List Row → Type 0
  AllLed rows = (row : Row) → In row rows → ((t : Site) → In t row.leads → Q t) × AllByRecursion (Holds Q Q) row.shapes

  its-asked : (row : Row) (k : code.Keyword) (mine : List Visit) → row ≡ row_of own s k → Matches own mine (asked_by own s k) → ((t : Site) → In t row.leads → Q t) × AllByRecursion (Holds Q Q) row.shapes
      → (w : Visit) → In w mine → MetIn w
  its-asked row k mine is m h w i =
      let x = site-of own m i in
      let led = subst (λ (r : Row). (t : Site) → In t r.leads → Q t) is h.0 in
      let shapes = subst (λ (r : Row). AllByRecursion (Holds Q Q) r.shapes) is h.1 in
      (x.0, asked-known k led shapes x.0 x.1, x.2)

  met-either : (w : Visit) (xs ys : List Visit) → (In w xs → MetIn w) → (In w ys → MetIn w) → In w xs ⊎ In w ys → MetIn w
  met-either w xs ys f g (inl i) = f i
  met-either w xs ys f g (inr i) = g i

  -- each visit that was found stands for a site that is known, where those of the rows are
  pub all-asked : (rows : List Row) (ys : List Asking) (vs : List Visit) → ReadAs own s rows ys vs → AllLed rows → (w : Visit) → In w vs → MetIn w
  all-asked _ _ _ none known w i = none-in i
  all-asked _ _ _ (refuses {rows = rows} {ys = ys} {vs = vs} row is r) known w i = all-asked rows ys vs r (λ q j. known q (later j)) w i
  all-asked _ _ _ (asks {rows = rows} {ys = ys} {vs = vs} row k n mine is answered m count r) known w i =
      met-either w mine vs (λ j. its-asked row k mine is m (known row first) w j) (λ j. all-asked rows ys vs r (λ q l. known q (later l)) w j) (in-either mine vs i)
  all-asked _ _ _ (wrong {rows = rows} {ys = ys} {vs = vs} row c i nowhere r) known w j = all-asked rows ys vs r (λ q l. known q (later l)) w j

-- each belongs to the documents
belongs-either : (own : List Document) (w : Visit) (xs ys : List Visit) → (In w xs → Belongs own w) → (In w ys → Belongs own w) → In w xs ⊎ In w ys → Belongs own w
belongs-either own w xs ys f g (inl i) = f i
belongs-either own w xs ys f g (inr i) = g i

pub all-belong : (own : List Document) (s : Site) (rows : List Row) (ys : List Asking) (vs : List Visit) → ReadAs own s rows ys vs → (w : Visit) → In w vs → Belongs own w
all-belong own s _ _ _ none w i = none-in i
all-belong own s _ _ _ (refuses {rows = rows} {ys = ys} {vs = vs} row is r) w i = all-belong own s rows ys vs r w i
all-belong own s _ _ _ (asks {rows = rows} {ys = ys} {vs = vs} row k n mine is answered m count r) w i =
    belongs-either own w mine vs (λ j. belongs-of own m j) (λ j. all-belong own s rows ys vs r w j) (in-either mine vs i)
all-belong own s _ _ _ (wrong {rows = rows} {ys = ys} {vs = vs} row c j nowhere r) w i = all-belong own s rows ys vs r w i

-- and each site that a row leads to has one
module _ (own : List Document) (s t : Site) where
  abbrev HasVisit : List Visit → Type 0
  HasVisit vs = (w : Visit) × In w vs × Met w t

  met-before : (mine vs : List Visit) → HasVisit mine → HasVisit (mine ++ vs)
  met-before mine vs h = (h.0, in-before mine vs h.1, h.2)

  met-behind : (mine vs : List Visit) → HasVisit vs → HasVisit (mine ++ vs)
  met-behind mine vs h = (h.0, in-behind mine vs h.1, h.2)

  has-either : (vs : List Visit) (xs ys : List Site) → (In t xs → HasVisit vs) → (In t ys → HasVisit vs) → In t xs ⊎ In t ys → HasVisit vs
  has-either vs xs ys f g (inl i) = f i
  has-either vs xs ys f g (inr i) = g i

  pub all-visited : (rows : List Row) (ys : List Asking) (vs : List Visit) → ReadAs own s rows ys vs → In t (leads_in rows) → HasVisit vs
  all-visited _ _ _ none i = none-in i
  all-visited _ _ _ (refuses {rows = rows} {ys = ys} {vs = vs} row is r) i =
      all-visited rows ys vs r (subst (λ (q : Row). In t (q.leads ++ leads_in rows)) is i)
  all-visited _ _ _ (asks {rows = rows} {ys = ys} {vs = vs} row k n mine is answered m count r) i =
      has-either (mine ++ vs) row.leads (leads_in rows)
      (λ j. met-before mine vs (visit-of own m (in-before (leads_of own s k) (beside_of own s k) (subst (λ (q : Row). In t q.leads) is j))))
      (λ j. met-behind mine vs (all-visited rows ys vs r j)) (in-either row.leads (leads_in rows) i)
  all-visited _ _ _ (wrong {rows = rows} {ys = ys} {vs = vs} row c j nowhere r) i =
      all-visited rows ys vs r (subst (λ (l : List Site). In t (l ++ leads_in rows)) nowhere i)

-- ---- at a site that is alike

module _ (own : List Document) (makes : List ℕ → Bool) (v : Visit) (found : Found) (cause : Option refused.BuildCause) (f : IsFound own makes (site_of v) found cause) where
  abbrev here : List Row
  here = rows_at own makes (site_of v)

  led-here : AllLed own (site_of v) (λ t. In t (leads_in here)) here
  led-here row i =
      let led = λ (r : Row) (t : Site) (j : In r here) (k : In t r.leads). in-all (λ (r : Row). r.leads) here j k in (
        λ t j. led row t i j,
        each_in (λ (r : Row). AllByRecursion (Holds (λ t. In t (leads_in here)) (λ t. In t (leads_in here))) r.shapes) here
            (shapes_led own makes (site_of v) (λ t. In t (leads_in here)) (λ r t j k. led r t j k)) row i,
      )

  first-tells : (o : Option refused.BuildCause) (causes : List rows.BuildCause) → TellsOne o causes → is_none o ≡ false → (c : rows.BuildCause) × In c causes
  first-tells None causes h e = absurd (true≢false e)
  first-tells (Some x) causes h e = (h.0, h.2)

  none-tells : (o : Option refused.BuildCause) (causes : List rows.BuildCause) → TellsOne o causes → is_none o ≡ true → causes ≡ []
  none-tells None causes h e = h
  none-tells (Some x) causes h e = absurd (true≢false (sym e))

  module _ (s : Site) (a : AreAlike own s (site_of v)) where
    abbrev there : List Row
    there = rows_at own makes s

    rows-agree : AllZip (RowsAgree own) there here
    rows-agree = (read_alike own makes s (site_of v) a).rows

    rows-agree-back : AllZip (RowsAgree own) here there
    rows-agree-back = (read_alike own makes (site_of v) s (turned own s (site_of v) a)).rows

    site-for : (w : Visit) → In w found.visits.items → (t : Site) × In t (leads_in there) × Met w t
    site-for w i =
        let x = all-asked own (site_of v) (λ t. In t (leads_in here)) here found.askings.items found.visits.items f.reads led-here w i in
        let y = in_step (AreAlike own) x.0 (leads_in here) (leads_in there) (alike-leads own here there rows-agree-back) x.1 in
        (y.0, y.1, met-among own w y.0 x.0 (all-belong own (site_of v) here found.askings.items found.visits.items f.reads w i) (turned own x.0 y.0 y.2) x.2)

    visit-for : (t : Site) → In t (leads_in there) → (w : Visit) × In w found.visits.items × Met w t
    visit-for t i =
        let y = in_step (AreAlike own) t (leads_in there) (leads_in here) (alike-leads own there here rows-agree) i in
        let x = all-visited own (site_of v) y.0 here found.askings.items found.visits.items f.reads y.1 in
        (x.0, x.1, met-among own x.0 t y.0 (all-belong own (site_of v) here found.askings.items found.visits.items f.reads x.0 x.1) y.2 x.2)

    pub all-causes : causes_at own makes s ≡ causes_at own makes (site_of v)
    all-causes = same_causes own makes s (site_of v) a

    pub is-led : IsLed own makes s found.visits.items (is_none cause)
    is-led = record {
      belongs = λ w i. all-belong own (site_of v) here found.askings.items found.visits.items f.reads w i;
      site_for = site-for;
      visit_for = visit-for;
      right = λ e. all-causes ∙ none-tells cause (causes_at own makes (site_of v)) f.tells e;
      wrong = λ e. (let c = first-tells cause (causes_at own makes (site_of v)) f.tells e in (c.0, subst (λ cs. In c.0 cs) (sym all-causes) c.1));
    }

-- ---- what is wrong, apart

same-apart : (own : List Document) (rs qs : List Row) → AllZip (RowsAgree own) rs qs → map (λ (r : Row). r.causes) rs ≡ map (λ (r : Row). r.causes) qs
same-apart own [] [] z = refl
same-apart own [] (q ∷ qs) z = absurd z
same-apart own (r ∷ rs) [] z = absurd z
same-apart own (r ∷ rs) (q ∷ qs) z = cc (z.0.causes, same-apart own rs qs z.1)

module _ (own : List Document) (makes : List ℕ → Bool) where
  pub alike-apart : (s t : Site) → AreAlike own s t → causes_apart own makes s ≡ causes_apart own makes t
  alike-apart s t a = cc (same_identifiers own s t a, same-apart own (rows_at own makes s) (rows_at own makes t) (read_alike own makes s t a).rows)
