-- Where references come back below keywords.
use Rattle.std.proofs.Common.{◌≡◌, ◌∙◌, ℕ, List, [], ◌∷◌, Bool, true, codes, Bor, None, Option, Some, refl, sym, ap, ap₂, subst}
use Rattle.std.specs.Prelude.{option_map}
use Rattle.serde_json.specs.Data.{Data, object, string, Members}
use Rattle.serde_json.specs.View.{view}
use Rattle.serde_json.specs.declared.value.Value.{Value}
use Rattle.json_values.specs.Parts.{Part, name, index}
use Rattle.schema_meaning.specs.Members.{In, first, later}
use Rattle.schema_meaning.specs.Places.{Spot, Key, stay, whole, value_after, path_after, called_after}
use Rattle.schema_meaning.specs.Questions.{Question, at, here, listed_members}
use Rattle.schema_meaning.specs.Rules.{asks}
use Rattle.schema_meaning.specs.Keywords.{Shape, Reference, rule, reference, reference_name, condition}
use Rattle.schema_meaning.specs.Readings.{Asks}
use Rattle.schema_meaning.specs.Cut.{is_in_progress}
use Rattle.schema_definitions.specs.Bearers.{Documents}
use Rattle.schema_definitions.specs.Lookup.{Target}
use Rattle.schema_definitions.specs.Sites.{Site, below, target_site}
use Rattle.schema_definitions.specs.Rows.{Row, row_at, rows_of}
use Rattle.schema_definitions.specs.Plain.{keywords_at}
use Rattle.meaning_laws.proofs.Obliged.{in_map}
use Rattle.document_laws.proofs.Listed.{in_flat_map}
use Rattle.document_laws.specs.TargetLaws.{place_of}
use Rattle.reading_laws.proofs.Elements.{in_mapped}
use Rattle.schema_patterns.specs.Read.{reads}
use Rattle.schema_patterns.specs.declared.matches.Matches.{Matches}
use Rattle.applicators.specs.Shapes.{shape_of, added_at}
use Rattle.applicators.specs.Questions.{step_of, question_of, questions_of}
use Rattle.applicators.specs.Applied.{Applicator}
use Rattle.applicators.specs.declared.question.Asked.{Asked}
use Rattle.applicators.specs.declared.question.Asked.TheVariants as asked
use Rattle.applicators.specs.declared.question.Question as asking_of
use Rattle.schema_sites.specs.Passed.{base_of, scope_of}
use Rattle.schema_sites.specs.Seen.{documents_at, Stands}
use Rattle.schema_sites.specs.Read.{row_of, context_at, site_at, IsRowOf}
use Rattle.schema_sites.specs.declared.keyword.Keyword.{Keyword}
use Rattle.schema_sites.specs.declared.keyword.Keyword.TheVariants as keyword
use Rattle.schema_sites.specs.declared.site.Site as code
use Rattle.plain_reader.specs.Keys.{key}
use Rattle.plain_reader.specs.Settings.{Setting, reading_in, uncalled}
use Rattle.plain_reader.specs.Verdicts.{Fits, value_at}
use Rattle.plain_reader.specs.Returns.{ComesBack, Returns, ReturnsCalled, ShapesReturn, AskedReturn}
use Rattle.plain_reader.specs.Sites.{SiteReturns}
use Rattle.plain_reader.specs.Applied.{applied_questions, one_question, AreAsked}
use Rattle.plain_reader.specs.Choices.{asking, site_in, asks_at, beside_questions, choice_shapes}
use Rattle.plain_reader.specs.Shapes.{context_in, shapes_among, shapes_at, keyword_shapes}
use Rattle.plain_reader.specs.Targets.{reference_questions}
use Rattle.plain_reader.proofs.Reading.{right_here, row_here, row_listed, keywords-of}
use Rattle.plain_reader.proofs.ChildVerdicts.{Child, child_fits}
use Rattle.plain_reader.proofs.QuestionVerdicts.{asked_there}
use Rattle.plain_reader.proofs.VerdictLemmas.{led_to, key_of}
use Rattle.plain_reader.proofs.ReturnLemmas.{back_inside, back_followed, back_here, asked_read, alone, back_at_name, back_circular}

-- ---- what a keyword of the schema asks

asks_by : (x : Setting) (shape : Shape Site) (q : Question Site) → In shape (keywords_at x.documents x.makes x.site) → In q (asks (rule x.matches x.spot.value shape))
    → Asks (reading_in x) x.site x.spot q
asks_by x shape q i j = record {
  keyword = rule x.matches x.spot.value shape;
  stands = in_map (rule x.matches x.spot.value) shape (keywords_at x.documents x.makes x.site) i;
  asked = j;
}

module _ (c : code.Site) (d : Data) (path : List Part) (progress : List Key) where
  -- ---- a schema, its members, and one of them

  pub of_object : (ms : Members) → view c.contents.now ≡ object ms → ShapesReturn c d path progress (shapes_among ms ms) → Returns c d path progress
  of_object ms is shapes = record {
    back = λ x fits.
        shapes.back x fits (λ shape i. subst (λ (ks : List (Shape Site)). In shape ks) (sym (keywords-of x.documents x.makes x.site (object ms) (fits.stands.contents ∙ is))) i);
  }

  pub of_members : (ms : Members) (k : List ℕ) (e : Data) → In (k, e) (listed_members ms) → ShapesReturn c d path progress (shapes_at ms k e) → ShapesReturn c d path progress (shapes_among ms ms)
  of_members ms k e listed one = record {
    back = λ x fits stand.
        one.back x fits
        (λ shape i. stand shape (in_flat_map (λ (r : Row). r.shapes) (row_at (context_in ms x) k e) (rows_of (context_in ms x) ms) shape (row_listed (context_in ms x) ms k e listed) i));
  }

  pub of_keyword : (ms : Members) (k : List ℕ) (e : Data) (word : Keyword) → view c.contents.now ≡ object ms → In (k, e) (listed_members ms)
      → ((makes : List ℕ → Bool) (s : Site) → Stands c s → s.scope ≡ scope_of c.resolver → IsRowOf (context_at c ms makes s) k (row_at (context_at c ms makes s) k e) word)
      → ShapesReturn c d path progress (keyword_shapes word) → ShapesReturn c d path progress (shapes_at ms k e)
  of_keyword ms k e word is listed row_is shapes = record {
    back = λ x fits stand.
        let is_row : IsRowOf (context_in ms x) k (row_at (context_in ms x) k e) word =
        subst (λ (docs : Documents). IsRowOf (record { documents = docs; makes = x.makes; site = x.site; members = ms }) k (row_at (record { documents = docs; makes = x.makes; site = x.site; members = ms }) k e) word) (sym fits.documents) (row_is x.makes x.site fits.stands fits.scope) in
        let right = right_here x.documents x.makes x.site _ fits.read (row_here x.documents x.makes x.site ms k e (fits.stands.contents ∙ is) listed) in
        let row : row_at (context_in ms x) k e ≡ row_of x.documents x.site word = is_row.made (is_row.right right) in
        shapes.back x fits (λ shape i. stand shape (subst (λ (r : Row). In shape r.shapes) (sym row) i));
  }

  -- ---- keywords

  pub of_applicator : (k : Keyword) (a : Applicator) → k ≡ keyword.Applicator a → AskedReturn c d path progress (applied_questions a d) → ShapesReturn c d path progress (keyword_shapes k)
  of_applicator k a is asked = subst (λ (w : Keyword). ShapesReturn c d path progress (keyword_shapes w)) (sym is) (record {
    back = λ x fits stand.
        let shape = shape_of (below x.documents x.site) a in
        asked.back x fits
        (λ q i. asks_by x shape q (stand shape first) (subst (λ (w : Spot). In q (asks (rule x.matches w.value shape))) (sym fits.spot) i));
  })

  pub of_reference : (k : Keyword) (kind : Reference) (text : List ℕ) (target : Target) → ((x : Setting) → keyword_shapes k x ≡ reference kind (target_site x.site text target) ∷ [])
      → AskedReturn c d path progress (reference_questions (reference_name kind) text target) → ShapesReturn c d path progress (keyword_shapes k)
  of_reference k kind text target shaped asked = record {
    back = λ x fits stand.
        let shape = reference kind (target_site x.site text target) in
        asked.back x fits (λ q i. asks_by x shape q (stand shape (subst (λ (ks : List (Shape Site)). In shape ks) (sym (shaped x)) first)) i);
  }

  -- ---- `if`, and what stands beside

  abbrev choice_at : Bor Value → Option (Bor Value) → Option (Bor Value) → Setting → Shape Site
  choice_at schema t e x =
      condition (site_in (codes "if") schema x) (option_map (λ v. site_at x.documents x.site (codes "then") (view v.now)) t)
      (option_map (λ v. site_at x.documents x.site (codes "else") (view v.now)) e)

  pub of_condition : (k : Bor (List ℕ)) (schema : Bor Value) (t e : Option (Bor Value)) (q : asking_of.Question) → k.now ≡ codes "if" → q ≡ asking k schema
      → AskedReturn c d path progress (one_question q) → ShapesReturn c d path progress (choice_shapes schema t e)
  of_condition k schema t e q named is asked = record {
    back = λ x fits stand.
        let site = below x.documents x.site in
        let same : question_of site q ≡ asks_at (codes "if") schema x =
        ap (λ (p : asking_of.Question). question_of site p) is ∙ ap (λ (n : List ℕ). here n (site_at x.documents x.site n (view schema.now))) named in
        asked.back x fits
        (λ p i. asks_by x (choice_at schema t e x) p (stand (choice_at schema t e x) first) (one x p (subst (λ (u : Question Site). In p (u ∷ [])) same i)));
  }
    where
      one : (x : Setting) (p : Question Site) → In p (asks_at (codes "if") schema x ∷ []) → In p (asks (rule x.matches x.spot.value (choice_at schema t e x)))
      one x p first = first
      one x p (later i) = elim i [ ]

  then_asked : (x : Setting) (schema : Bor Value) (t e : Option (Bor Value)) (q : Question Site) → In q (beside_questions (codes "then") t x)
      → In q (asks (rule x.matches x.spot.value (choice_at schema t e x)))
  then_asked x schema None e q i = elim i [ ]
  then_asked x schema (Some t) e q first = later first
  then_asked x schema (Some t) e q (later i) = elim i [ ]

  else_asked : (x : Setting) (schema : Bor Value) (t e : Option (Bor Value)) (q : Question Site) → In q (beside_questions (codes "else") e x)
      → In q (asks (rule x.matches x.spot.value (choice_at schema t e x)))
  else_asked x schema t None q i = elim i [ ]
  else_asked x schema None (Some e) q first = later first
  else_asked x schema (Some t) (Some e) q first = later (later first)
  else_asked x schema t (Some e) q (later i) = elim i [ ]

  pub of_then : (schema : Bor Value) (t e : Option (Bor Value)) → AskedReturn c d path progress (beside_questions (codes "then") t) → ShapesReturn c d path progress (choice_shapes schema t e)
  of_then schema t e asked = record {
    back = λ x fits stand. asked.back x fits (λ q i. asks_by x (choice_at schema t e x) q (stand (choice_at schema t e x) first) (then_asked x schema t e q i));
  }

  pub of_else : (schema : Bor Value) (t e : Option (Bor Value)) → AskedReturn c d path progress (beside_questions (codes "else") e) → ShapesReturn c d path progress (choice_shapes schema t e)
  of_else schema t e asked = record {
    back = λ x fits stand. asked.back x fits (λ q i. asks_by x (choice_at schema t e x) q (stand (choice_at schema t e x) first) (else_asked x schema t e q i));
  }

  pub of_beside : (k : Bor (List ℕ)) (schema : Bor Value) (o : Option (Bor Value)) (q : asking_of.Question) → o ≡ Some schema → q ≡ asking k schema
      → AskedReturn c d path progress (one_question q) → AskedReturn c d path progress (beside_questions k.now o)
  of_beside k schema o q there is asked =
      subst (λ (p : Option (Bor Value)). AskedReturn c d path progress (beside_questions k.now p)) (sym there)
      (subst (λ (p : asking_of.Question). AskedReturn c d path progress (one_question p)) is asked)

  -- ---- questions

  -- one of the questions of an applicator
  pub of_one : (a : Applicator) (all : List asking_of.Question) → AreAsked (reads c.matches.now) a d all → (q : asking_of.Question) → In q all → AskedReturn c d path progress (one_question q)
      → AskedReturn c d path progress (applied_questions a d)
  of_one a all are q i asked = record {
    back = λ x fits asks_them.
        let site = below x.documents x.site in
        asked.back x fits
        (λ p j. asks_them p (subst (λ (ks : List (Question Site)). In p ks) (asked_there c [] d path progress a all are x fits) (one x p j)));
  }
    where
      one : (x : Setting) (p : Question Site) → In p (one_question q x) → In p (questions_of (below x.documents x.site) all)
      one x p first = in_mapped (question_of (below x.documents x.site)) q all i
      one x p (later j) = elim j [ ]

  pub of_question : (q : asking_of.Question) (b : code.Site) → Child c b (view q.subschema.schema.now)
      → ReturnsCalled b (value_after d (step_of q.asked)) (path_after path (step_of q.asked)) progress (called_after None (step_of q.asked)) → AskedReturn c d path progress (one_question q)
  of_question q b child inner = record {
    back = λ x fits asks_it.
        let p = question_of (below x.documents x.site) q in
        let a : Asks (reading_in x) x.site x.spot p = asks_it p first in
        back_inside x p a refl
        (inner.back (led_to x p x.keys)
        (child_fits c b (view q.subschema.schema.now) [] d path progress (added_at q.subschema.keyword.now q.subschema.entry) (step_of q.asked) x child fits (asked_read x p a fits.read))
        (ap (λ (w : Spot). called_after w.called (step_of q.asked)) fits.spot));
  }

  -- ---- what is asked of

  uncalled_returns : Returns c d path progress → ReturnsCalled c d path progress None
  uncalled_returns returns = record {
    back = λ x fits called.
        let w = x.spot in
        let same : uncalled x ≡ x =
        ap (λ (o : Option (List ℕ)). record { documents = x.documents; makes = x.makes; matches = x.matches; depth = x.depth; keys = x.keys; site = x.site; spot = record { value = w.value; path = w.path; called = o; road = w.road } }) (sym called) in
        subst (λ (y : Setting). ComesBack y) same (returns.back (uncalled x) fits);
  }

module _ (c : code.Site) (d : Data) (path : List Part) (progress : List Key) where
  abbrev AskedOf : Asked → Type 0
  AskedOf a = ReturnsCalled c (value_after d (step_of a)) (path_after path (step_of a)) progress (called_after None (step_of a))

  pub of_value : (a : Asked) → a ≡ asked.Value → Returns c d path progress → AskedOf a
  of_value a is returns = subst AskedOf (sym is) (uncalled_returns c d path progress returns)

  pub of_item : (a : Asked) (i : ℕ) (e : Bor Value) (at : List Part) → a ≡ asked.Item i e → at ≡ index i ∷ path → Returns c (view e.now) at progress → AskedOf a
  of_item a i e at is there returns =
      subst AskedOf (sym is) (uncalled_returns c (view e.now) (index i ∷ path) progress (subst (λ (p : List Part). Returns c (view e.now) p progress) there returns))

  pub of_member : (a : Asked) (k : Bor (List ℕ)) (e : Bor Value) (at : List Part) → a ≡ asked.Member k e → at ≡ name k.now ∷ path → Returns c (view e.now) at progress → AskedOf a
  of_member a k e at is there returns =
      subst AskedOf (sym is) (uncalled_returns c (view e.now) (name k.now ∷ path) progress (subst (λ (p : List Part). Returns c (view e.now) p progress) there returns))

  pub of_name : (a : Asked) (k : Bor (List ℕ)) → a ≡ asked.Name k → ReturnsCalled c (string k.now) path progress (Some k.now) → AskedOf a
  of_name a k is returns = subst AskedOf (sym is) returns

  pub of_text : (k : List ℕ) (text : Data) → text ≡ string k → Returns c text path [] → ReturnsCalled c (string k) path progress (Some k)
  of_text k text is returns = record {
    back = λ x fits called.
        let fits_too : Fits c text path [] (alone x) = record {
          documents = fits.documents;
          stands = fits.stands;
          scope = fits.scope;
          spot = fits.spot ∙ ap (λ (e : Data). value_at e path x.spot.road) (sym is);
          keys = refl;
          matches = fits.matches;
          read = fits.read;
        } in
        back_at_name x k (ap (λ (w : Spot). w.value) fits.spot) called (returns.back (alone x) fits_too);
  }

  -- ---- a whole value

  pub of_site : path ≡ [] → progress ≡ [] → Returns c d path progress → SiteReturns c d
  of_site nowhere nothing returns = record {
    circular = λ makes s stands scope read.
        let x : Setting = record { documents = documents_at c; makes = makes; matches = reads c.matches.now; depth = 0; keys = []; site = s; spot = whole d } in
        let fits : Fits c d path progress x = record {
          documents = refl;
          stands = stands;
          scope = scope;
          spot = ap (λ (p : List Part). value_at d p []) (sym nowhere);
          keys = sym nothing;
          matches = refl;
          read = read;
        } in
        back_circular x refl (returns.back x fits);
  }

-- ---- a reference

module _ (c : code.Site) (d : Data) (path : List Part) (progress : List Key) (k text : List ℕ) (t : Target) where
  abbrev the_question : Setting → Question Site
  the_question x = record { site = target_site x.site text t; step = stay; added = at k; follows = true }

  same_key : (x : Setting) → Fits c d path progress x → key_of x (the_question x) ≡ key t.document t.path path
  same_key x fits = ap (λ (w : Spot). record { target = place_of t; path = w.path; called = w.called }) fits.spot

  pub of_return : (b : Bool) → b ≡ is_in_progress (key t.document t.path path) progress → b ≡ true → AskedReturn c d path progress (reference_questions k text t)
  of_return b is back = record {
    back = λ x fits asks_it.
        back_here x (the_question x) (asks_it (the_question x) first) refl (ap₂ is_in_progress (same_key x fits) fits.keys ∙ sym is ∙ back);
  }

  pub of_target : (inner : code.Site) (u : List ℕ) (p : List Part) → u ≡ t.document → p ≡ t.path → documents_at inner ≡ documents_at c → inner.matches ≡ c.matches
      → ((s : Site) → Stands inner (target_site s text t))
      → ((s : Site) → s.base ≡ base_of c.resolver → s.scope ≡ scope_of c.resolver → (target_site s text t).scope ≡ scope_of inner.resolver)
      → Returns inner d path (key u p path ∷ progress) → AskedReturn c d path progress (reference_questions k text t)
  of_target inner u p document place same_documents same_matches stands scopes returns = record {
    back = λ x fits asks_it.
        let q = the_question x in
        let a : Asks (reading_in x) x.site x.spot q = asks_it q first in
        let child : Setting = led_to x q (key_of x q ∷ x.keys) in
        let same : key_of x q ≡ key u p path = same_key x fits ∙ ap₂ (λ (v : List ℕ) (r : List Part). key v r path) (sym document) (sym place) in
        let child_fits : Fits inner d path (key u p path ∷ progress) child = record {
          documents = fits.documents ∙ sym same_documents;
          stands = stands x.site;
          scope = scopes x.site fits.stands.base fits.scope;
          spot = ap (λ (w : Spot). record { value = w.value; path = w.path; called = w.called; road = name k ∷ w.road }) fits.spot;
          keys = ap₂ (λ (one : Key) (ks : List Key). one ∷ ks) same fits.keys;
          matches = fits.matches ∙ ap (λ (m : Bor Matches). reads m.now) (sym same_matches);
          read = asked_read x q a fits.read;
        } in
        back_followed x q a refl (returns.back child child_fits);
  }
