-- Whether a member of a schema accepts, by its keyword.
use Rattle.std.proofs.Common.{◌≡◌, ◌<◌, ◌≤◌, ◌&&◌, ℕ, zero, suc, List, [], ◌∷◌, Bool, true, false, Bor, Option, refl, sym, ap, ◌∙◌, arith, subst}
use Rattle.std.specs.List.{flat_map}
use Rattle.serde_json.specs.Data.{Data, null, boolean, number, string, array, object, Members}
use Rattle.serde_json.specs.View.{view}
use Rattle.serde_json.specs.declared.value.Value.{Value}
use Rattle.json_values.specs.Parts.{Part}
use Rattle.schema_meaning.specs.Faults.{Pattern}
use Rattle.schema_meaning.specs.Members.{In, is_empty}
use Rattle.schema_meaning.specs.Places.{Key}
use Rattle.schema_meaning.specs.Questions.{at, listed_members}
use Rattle.schema_meaning.specs.Keywords.{Shape, Reference, Assertion, pattern, reference, never, wrong, unless, reference_name}
use Rattle.schema_meaning.specs.Readings.{verdicts}
use Rattle.schema_meaning.specs.Cut.{cut_within}
use Rattle.schema_definitions.specs.Bearers.{Documents}
use Rattle.schema_definitions.specs.Lookup.{Target}
use Rattle.schema_patterns.specs.Read.{reads}
use Rattle.schema_definitions.specs.Sites.{Site, below, target_site}
use Rattle.applicators.specs.Shapes.{shape_of}
use Rattle.applicators.specs.Combined.{is_every, notes_by, name_of as applicator_name}
use Rattle.applicators.specs.Applied.{Applicator}
use Rattle.applicators.proofs.CombinedLemmas.{every_rule}
use Rattle.plain_reader.specs.Spots.{Spots}
use Rattle.plain_reader.specs.Applied.{applied_leads, applied_shapes, applied_questions}
use Rattle.schema_definitions.specs.Rows.{Row, Context, row_at, assertion, rows_in}
use Rattle.schema_definitions.specs.Plain.{keywords_at}
use Rattle.schema_sites.specs.Passed.{scope_of}
use Rattle.schema_sites.specs.Seen.{documents_at, Stands}
use Rattle.schema_sites.specs.Read.{leads_of, row_of, context_at, IsRowOf}
use Rattle.schema_sites.specs.Refused.{Refuses}
use Rattle.schema_sites.specs.declared.site.Site as code
use Rattle.schema_sites.specs.declared.keyword.Keyword.{Keyword}
use Rattle.schema_sites.specs.declared.keyword.Keyword.TheVariants as keyword
use Rattle.schema_sites.specs.declared.keyword.Refusal.{Refusal}
use Rattle.schema_sites.specs.declared.keyword.Refusal.TheVariants as refusal
use Rattle.plain_reader.specs.Settings.{Setting, reading_in, accepts_in, all_accept, all_yes}
use Rattle.plain_reader.specs.Verdicts.{Fits, AreRead, Accepts, ShapesAccept, AreYes, room}
use Rattle.plain_reader.specs.Shapes.{no_leads, context_in, shapes_at, shapes_among, keyword_leads, keyword_shapes}
use Rattle.plain_reader.specs.Choices.{choice_leads, choice_shapes}
use Rattle.plain_reader.specs.Targets.{reference_leads, reference_questions}
use Rattle.plain_reader.proofs.VerdictLemmas.{all_accept-none, all_accept-asserts, all_accept-never, all_accept-every, all_accept-reference, accepts_deeper}
use Rattle.plain_reader.proofs.ChoiceReading.{choice_read}
use Rattle.plain_reader.proofs.Reading.{right_here, read_on, row_here, keywords-of}

module _ (c : code.Site) (whole : Spots) (d : Data) (path : List Part) (progress : List Key) where
  pub nothing_accepts : (leads : Setting → List Site) (shapes : Setting → List (Shape Site)) → ((x : Setting) → Fits c d path progress x → shapes x ≡ [])
      → ShapesAccept c whole d path progress leads shapes true
  nothing_accepts leads shapes e = record { is = λ x fits read deep. ap (all_accept x) (e x fits) ∙ all_accept-none x }

  -- ---- a keyword, by its shapes

  pub assertion_accepts : (k : Keyword) (a : Assertion) (b : Bool) → ((x : Setting) → keyword_shapes k x ≡ assertion a) → ((matches : List ℕ → List ℕ → Bool) → b ≡ is_empty (wrong matches a d))
      → ShapesAccept c whole d path progress (keyword_leads k) (keyword_shapes k) b
  assertion_accepts k a b e same = record {
    is = λ x fits read deep.
        ap (all_accept x) (e x) ∙ all_accept-asserts x a ∙ ap (λ w. is_empty (wrong x.matches a w.value)) fits.spot ∙ sym (same x.matches);
  }

  pub pattern_accepts : (k : Keyword) (p : List ℕ) (b : Bool) → ((x : Setting) → keyword_shapes k x ≡ assertion (pattern p)) → wrong (reads c.matches.now) (pattern p) d ≡ unless b (Pattern p) d
      → ShapesAccept c whole d path progress (keyword_leads k) (keyword_shapes k) b
  pattern_accepts k p b e same = record {
    is = λ x fits read deep.
        ap (all_accept x) (e x) ∙ all_accept-asserts x (pattern p) ∙ ap (λ w. is_empty (wrong x.matches (pattern p) w.value)) fits.spot
        ∙ ap (λ (m : List ℕ → List ℕ → Bool). is_empty (wrong m (pattern p) d)) fits.matches ∙ ap is_empty same ∙ empty_so b;
  }
    where
      empty_so : (v : Bool) → is_empty (unless v (Pattern p) d) ≡ v
      empty_so true = refl
      empty_so false = refl

  -- what it notes of the value, and then its questions
  every_is : (a : Applicator) (b : Bool) → is_every a ≡ true → (x : Setting) → Fits c d path progress x
      → all_accept x (applied_shapes a x) ≡ (is_empty (notes_by a d) && all_yes x (applied_questions a d x))
  every_is a b every x fits =
      let site = below x.documents x.site in
      all_accept-every x (shape_of site a) (at (applicator_name a)) (notes_by a x.spot.value) (every_rule a every site x.matches x.spot.value)
      ∙ ap (λ w. is_empty (notes_by a w.value) && all_yes x (applied_questions a w.value x)) fits.spot

  pub noted_refuses : (a : Applicator) → is_every a ≡ true → is_empty (notes_by a d) ≡ false → ShapesAccept c whole d path progress (applied_leads a) (applied_shapes a) false
  noted_refuses a every noted = record {
    is = λ x fits read deep. every_is a false every x fits ∙ ap (λ v. v && all_yes x (applied_questions a d x)) noted;
  }

  pub every_accepts : (a : Applicator) (b : Bool) → is_every a ≡ true → is_empty (notes_by a d) ≡ true → AreYes c whole d path progress (applied_leads a) (applied_questions a d) b
      → ShapesAccept c whole d path progress (applied_leads a) (applied_shapes a) b
  every_accepts a b every plain answer = record {
    is = λ x fits read deep. every_is a b every x fits ∙ ap (λ v. v && all_yes x (applied_questions a d x)) plain ∙ answer.is x fits read deep;
  }

  pub applicator_accepts : (k : Keyword) (a : Applicator) (b : Bool) → k ≡ keyword.Applicator a → ShapesAccept c whole d path progress (applied_leads a) (applied_shapes a) b
      → ShapesAccept c whole d path progress (keyword_leads k) (keyword_shapes k) b
  applicator_accepts k a b is answer = subst (λ (k : Keyword). ShapesAccept c whole d path progress (keyword_leads k) (keyword_shapes k) b) (sym is) answer

  pub reference_accepts : (k : Keyword) (kind : Reference) (text : List ℕ) (target : Target) (b : Bool) → ((x : Setting) → keyword_leads k x ≡ reference_leads text target x)
      → ((x : Setting) → keyword_shapes k x ≡ reference kind (target_site x.site text target) ∷ [])
      → AreYes c whole d path progress (reference_leads text target) (reference_questions (reference_name kind) text target) b
      → ShapesAccept c whole d path progress (keyword_leads k) (keyword_shapes k) b
  reference_accepts k kind text target b led shaped answer = record {
    is = λ x fits read deep.
        ap (all_accept x) (shaped x) ∙ all_accept-reference x kind (target_site x.site text target)
        ∙ answer.is x fits (λ t i. read t (subst (In t) (sym (led x)) i)) deep;
  }

  pub choice_accepts : (k : Keyword) (schema : Bor Value) (then_schema else_schema : Option (Bor Value)) (b : Bool) → k ≡ keyword.If schema then_schema else_schema
      → ShapesAccept c whole d path progress (choice_leads schema then_schema else_schema) (choice_shapes schema then_schema else_schema) b
      → ShapesAccept c whole d path progress (keyword_leads k) (keyword_shapes k) b
  choice_accepts k schema then_schema else_schema b is answer =
      subst (λ (k : Keyword). ShapesAccept c whole d path progress (keyword_leads k) (keyword_shapes k) b) (sym is) answer

  -- ---- a member, by its keyword

  -- the sites that it asks are read
  asked_read : (ms : Members) (k : List ℕ) (e : Data) (word : Keyword) → view c.contents.now ≡ object ms → In (k, e) (listed_members ms) → (x : Setting) → Fits c d path progress x
      → row_at (context_in ms x) k e ≡ row_of x.documents x.site word → (t : Site) → In t (keyword_leads word x) → AreRead x.documents x.makes t
  asked_read ms k e word is listed x fits row t i = by word row i
    where
      led : (w : Keyword) → row_at (context_in ms x) k e ≡ row_of x.documents x.site w → In t (leads_of x.documents x.site w) → AreRead x.documents x.makes t
      led w row i =
          let lies = row_here x.documents x.makes x.site ms k e (fits.stands.contents ∙ is) listed in
          read_on x.documents x.makes x.site (row_at (context_in ms x) k e) t fits.read lies (subst (λ r. In t r.leads) (sym row) i)

      by : (w : Keyword) → row_at (context_in ms x) k e ≡ row_of x.documents x.site w → In t (keyword_leads w x) → AreRead x.documents x.makes t
      by keyword.Nothing row i = led keyword.Nothing row i
      by (keyword.Assertion a) row i = led (keyword.Assertion a) row i
      by (keyword.Pattern p) row i = led (keyword.Pattern p) row i
      by (keyword.If schema then_schema else_schema) row i = choice_read x ms k e schema then_schema else_schema (fits.stands.contents ∙ is) listed fits.read row t i
      by (keyword.Consequent n schema) row i = elim i [ ]
      by (keyword.Applicator a) row i = led (keyword.Applicator a) row i
      by (keyword.Reference r text target) row i = led (keyword.Reference r text target) row i

  pub member_accepts : (ms : Members) (k : List ℕ) (e : Data) (word : Keyword) (b : Bool) → view c.contents.now ≡ object ms → In (k, e) (listed_members ms)
      → ((makes : List ℕ → Bool) (s : Site) → Stands c s → s.scope ≡ scope_of c.resolver → IsRowOf (context_at c ms makes s) k (row_at (context_at c ms makes s) k e) word)
      → ShapesAccept c whole d path progress (keyword_leads word) (keyword_shapes word) b
      → ShapesAccept c whole d path progress no_leads (shapes_at ms k e) b
  member_accepts ms k e word b is listed row_is answer = record {
    is = λ x fits none deep.
        let is_row : IsRowOf (context_in ms x) k (row_at (context_in ms x) k e) word =
        subst (λ (docs : Documents). IsRowOf (record { documents = docs; makes = x.makes; site = x.site; members = ms }) k (row_at (record { documents = docs; makes = x.makes; site = x.site; members = ms }) k e) word) (sym fits.documents) (row_is x.makes x.site fits.stands fits.scope) in
        let right = right_here x.documents x.makes x.site _ fits.read (row_here x.documents x.makes x.site ms k e (fits.stands.contents ∙ is) listed) in
        let row : row_at (context_in ms x) k e ≡ row_of x.documents x.site word = is_row.made (is_row.right right) in
        let read : (t : Site) → In t (keyword_leads word x) → AreRead x.documents x.makes t = λ t i. asked_read ms k e word is listed x fits row t i in
        ap (λ r. all_accept x r.shapes) row ∙ answer.is x fits read deep;
  }

-- ---- a member that is refused

refused_shapes : (x : Context) (k : List ℕ) (d : Data) (row : Row) (r : Refusal) → Refuses x k d row r → (r ≡ refusal.Memory → ⊥) → row.shapes ≡ []
refused_shapes x k d row (refusal.Value expected) h other = h.alone
refused_shapes x k d row (refusal.Entry n expected) h other = h.alone
refused_shapes x k d row (refusal.Element i expected) h other = h.alone
refused_shapes x k d row (refusal.Target target) h other = h.alone
refused_shapes x k d row (refusal.Reference error) h other = h.2.alone
refused_shapes x k d row refusal.LeftOut h other = h.alone
refused_shapes x k d row refusal.Memory h other = absurd (other refl)

module _ (c : code.Site) (whole : Spots) (d : Data) (path : List Part) (progress : List Key) where
  pub refused_accepts : (ms : Members) (k : List ℕ) (e : Data) (r : Refusal) → (r ≡ refusal.Memory → ⊥)
      → ((makes : List ℕ → Bool) (s : Site) → Stands c s → s.scope ≡ scope_of c.resolver → Refuses (context_at c ms makes s) k e (row_at (context_at c ms makes s) k e) r)
      → ShapesAccept c whole d path progress no_leads (shapes_at ms k e) true
  refused_accepts ms k e r other refuses = nothing_accepts c whole d path progress no_leads (shapes_at ms k e)
      λ x fits.
      let none = refused_shapes (context_at c ms x.makes x.site) k e (row_at (context_at c ms x.makes x.site) k e) r (refuses x.makes x.site fits.stands fits.scope) other in
      subst (λ docs. (row_at (record { documents = docs; makes = x.makes; site = x.site; members = ms }) k e).shapes ≡ []) (sym fits.documents) none

-- ---- a site

-- with questions going so deep
abbrev pub down_to : Setting → ℕ → Setting
down_to x n = record { documents = x.documents; makes = x.makes; matches = x.matches; depth = n; keys = x.keys; site = x.site; spot = x.spot }

accepts_down : (x : Setting) (n : ℕ) → x.depth ≡ suc n → accepts_in x ≡ all_accept (down_to x n) (keywords_at x.documents x.makes x.site)
accepts_down x n e = ap (λ k. cut_within verdicts (reading_in x) k x.keys x.site x.spot) e ∙ accepts_deeper (down_to x n)

record Below (k r : ℕ) : Type 0 where
  before : ℕ
  is : k ≡ suc before
  enough : r ≤ before

depth_below : (k r : ℕ) → r < k → Below k r
depth_below zero r h = absurd (omega arith)
depth_below (suc n) r h = record { before = n; is = refl; enough = omega arith }

module _ (c : code.Site) (whole : Spots) (d : Data) (path : List Part) (progress : List Key) where
  pub schema_accepts : (shapes : Setting → List (Shape Site)) (b : Bool) → ((x : Setting) → Fits c d path progress x → keywords_at x.documents x.makes x.site ≡ shapes x)
      → ShapesAccept c whole d path progress no_leads shapes b → Accepts c whole d path progress b
  schema_accepts shapes b same answer = record {
    is = λ x fits deep.
        let below = depth_below x.depth (room (documents_at c) whole progress (view c.contents.now)) deep in
        let y = down_to x below.before in
        let fits_too : Fits c d path progress y =
        record { documents = fits.documents; stands = fits.stands; scope = fits.scope; spot = fits.spot; keys = fits.keys; matches = fits.matches; read = fits.read } in
        accepts_down x below.before below.is ∙ ap (all_accept y) (same y fits_too) ∙ answer.is y fits_too (λ t i. elim i [ ]) below.enough;
  }

  pub object_accepts : (ms : Members) (b : Bool) → view c.contents.now ≡ object ms → ShapesAccept c whole d path progress no_leads (shapes_among ms ms) b
      → Accepts c whole d path progress b
  object_accepts ms b is answer = schema_accepts (shapes_among ms ms) b (λ x fits. keywords-of x.documents x.makes x.site (object ms) (fits.stands.contents ∙ is)) answer

  pub false_refuses : view c.contents.now ≡ boolean false → Accepts c whole d path progress false
  false_refuses is = schema_accepts (λ x. never ∷ []) false (λ x fits. keywords-of x.documents x.makes x.site (boolean false) (fits.stands.contents ∙ is))
      (record { is = λ x fits read deep. all_accept-never x })

  asserts_nothing : (s : Site) (rows : Members → Context) (e : Data) → (e ≡ boolean false → ⊥) → ((ms : Members) → e ≡ object ms → ⊥) → flat_map (λ r. r.shapes) (rows_in s rows e) ≡ []
  asserts_nothing s rows null not_false no_object = refl
  asserts_nothing s rows (boolean true) not_false no_object = refl
  asserts_nothing s rows (boolean false) not_false no_object = absurd (not_false refl)
  asserts_nothing s rows (number n) not_false no_object = refl
  asserts_nothing s rows (string t) not_false no_object = refl
  asserts_nothing s rows (array ds) not_false no_object = refl
  asserts_nothing s rows (object ms) not_false no_object = absurd (no_object ms refl)

  pub other_accepts : (view c.contents.now ≡ boolean false → ⊥) → ((ms : Members) → view c.contents.now ≡ object ms → ⊥) → Accepts c whole d path progress true
  other_accepts not_false no_object = schema_accepts (λ x. []) true
      (λ x fits. keywords-of x.documents x.makes x.site (view c.contents.now) fits.stands.contents
      ∙ asserts_nothing x.site (λ ms. record { documents = x.documents; makes = x.makes; site = x.site; members = ms }) (view c.contents.now) not_false no_object)
      (nothing_accepts c whole d path progress no_leads (λ x. []) (λ x fits. refl))
