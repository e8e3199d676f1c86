-- The answers to the questions of applicators.
use Rattle.std.proofs.Common.{◌≡◌, ◌<◌, ◌≤◌, ◌&&◌, ◌++◌, ℕ, List, [], ◌∷◌, Bool, true, false, Bor, None, Some, refl, sym, ap, subst, ◌∙◌}
use Rattle.std.proofs.Math.Logic.{∥∥₁_map}
use Rattle.serde_json.specs.Data.{Data, object, string, depth, Members}
use Rattle.serde_json.specs.View.{view}
use Rattle.serde_json.specs.declared.value.Value.{Value}
use Rattle.json_values.specs.Parts.{Part, name, index}
use Rattle.schema_meaning.specs.Members.{In, first, later}
use Rattle.schema_meaning.specs.Places.{Key, whole, value_after, path_after, called_after}
use Rattle.schema_meaning.specs.Questions.{at, listed_members}
use Rattle.schema_meaning.specs.Rules.{asks}
use Rattle.schema_meaning.specs.Keywords.{rule}
use Rattle.schema_meaning.specs.Readings.{Asks}
use Rattle.schema_definitions.specs.Bearers.{meta}
use Rattle.schema_definitions.specs.Places.{by_schema, schema_in_force}
use Rattle.schema_definitions.specs.Sites.{Site, below}
use Rattle.schema_definitions.specs.Rows.{Row, row_at, rows_at}
use Rattle.schema_definitions.specs.Plain.{plain}
use Rattle.meaning_laws.proofs.Obliged.{in_map}
use Rattle.document_laws.proofs.Depths.{placed_contents}
use Rattle.reading_laws.proofs.Elements.{in_mapped}
use Rattle.reading_laws.proofs.Nested.{all_known}
use Rattle.certificate_laws.proofs.Begun.{rules_stand}
use Rattle.applicators.specs.Shapes.{shape_of, added_at}
use Rattle.applicators.specs.Made.{patterns_in}
use Rattle.applicators.specs.Combined.{is_by_answers}
use Rattle.applicators.specs.Questions.{step_of, question_of, questions_of}
use Rattle.applicators.specs.Applied.{Applicator}
use Rattle.applicators.specs.declared.question.Asked.{Asked}
use Rattle.applicators.specs.declared.question.Asked.TheVariants as asked
use Rattle.applicators.specs.declared.question.Question.{Question}
use Rattle.plain_reader.specs.Sound.{IsSound}
use Rattle.plain_reader.proofs.Sound.{questions_are_sound}
use Rattle.schema_patterns.specs.Read.{reads}
use Rattle.schema_sites.specs.Passed.{base_of, scope_of}
use Rattle.schema_sites.specs.Read.{row_of, context_at, Finds, IsRowOf}
use Rattle.schema_sites.specs.Seen.{documents_at, Stands}
use Rattle.schema_sites.specs.declared.keyword.Keyword.{Keyword}
use Rattle.schema_sites.specs.declared.keyword.Keyword.TheVariants as keyword
use Rattle.schema_dialects.specs.Dialects.{dialect_of}
use Rattle.schema_sites.specs.declared.site.Site as code
use Rattle.plain_reader.specs.Spots.{Spots, Within}
use Rattle.plain_reader.specs.Settings.{Setting, answer_in, all_yes}
use Rattle.plain_reader.specs.Verdicts.{AreRead, Fits, Accepts, AcceptsCalled, AreYes, room}
use Rattle.plain_reader.specs.Applied.{applied_leads, applied_questions, AreAsked, question_leads, one_question, EachInside, AsksInside, IsPart}
use Rattle.plain_reader.proofs.Reading.{row_here, all_made, none_to_make}
use Rattle.plain_reader.proofs.ChoiceReading.{are_inside}
use Rattle.plain_reader.proofs.VerdictLemmas.{all_yes-one, all_yes-more, all_yes-none}
use Rattle.plain_reader.proofs.ChildVerdicts.{Child, child_accepts, accepts_uncalled}
use Rattle.plain_reader.proofs.Left.{QuestionsLeft}

-- ---- one of the code's questions

-- the site of the schema that the code's stands for, wherever it is
abbrev here : code.Site → Site
here c = record {
  document = [];
  path = [];
  contents = view c.contents.now;
  base = base_of c.resolver;
  dialect = dialect_of c.dialect;
  scope = scope_of c.resolver;
  schema_path = [];
}

module _ (matches : List ℕ → List ℕ → Bool) (a : Applicator) (d : Data) (qs : List Question) (are : AreAsked matches a d qs) (by_answers : is_by_answers a ≡ true) (q : Question) (i : In q qs) where
  one_asked : (site : List Part → Data → Site) → In (question_of site q) (asks (rule matches d (shape_of site a)))
  one_asked site = subst (λ ks. In (question_of site q) ks) (are site) (in_mapped (question_of site) q qs i)

  pub question_sound : (site : List Part → Data → Site) → IsSound site a d (question_of site q)
  question_sound site = questions_are_sound site matches d a by_answers (question_of site q) (one_asked site)

  pub question_led : (x : Setting) (t : Site) → In t (question_leads q x) → In t (applied_leads a x)
  question_led x t first = (question_sound (below x.documents x.site)).led
  question_led x t (later i) = elim i [ ]

  pub question_part : (c : code.Site) → IsPart d q.asked
  question_part c = let sound = question_sound (λ added e. here c) in record { spots = sound.spots; named = sound.named }

  pub question_inside : (c : code.Site) → EachInside c a → depth (view q.subschema.schema.now) < depth (view c.contents.now)
  question_inside c each =
      let site = below (documents_at c) (here c) in
      let added = added_at q.subschema.keyword.now q.subschema.entry in
      let h = each.each (here c) (record { contents = refl; base = refl; dialect = refl }) refl matches d (question_of site q) (one_asked site) in
      subst (λ (e : Data). depth e < depth (view c.contents.now))
      (placed_contents (base_of c.resolver) (dialect_of c.dialect) (added ++ []) (view q.subschema.schema.now) (by_schema (meta (documents_at c)) (dialect_of c.dialect) (schema_in_force (dialect_of c.dialect).siblings false (view q.subschema.schema.now)))) h

-- ---- what is asked of

pub part_within : (d : Data) (whole : Spots) (path inner : List Part) (a b : Asked) → IsPart d a → a ≡ b → inner ≡ path_after path (step_of b) → ∥ Within d path whole ∥₁ → ∥ Within (value_after d (step_of b)) inner whole ∥₁
part_within d whole path inner a b part is at within =
    ∥∥₁_map within
    (λ w. subst (λ (p : List Part). Within (value_after d (step_of b)) p whole) (sym at)
    (subst (λ (x : Asked). Within (value_after d (step_of x)) (path_after path (step_of x)) whole) is (record { spots = λ s h. w.spots s (part.spots path s h) })))

module _ (c : code.Site) (whole : Spots) (d : Data) (path : List Part) (keys : List Key) (b : Bool) where
  -- whether the schema accepts what is asked of
  abbrev AcceptsAsked : Asked → Type 0
  AcceptsAsked a = AcceptsCalled c whole (value_after d (step_of a)) (path_after path (step_of a)) keys (called_after None (step_of a)) b

  pub of_value : (a : Asked) → a ≡ asked.Value → Accepts c whole d path keys b → AcceptsAsked a
  of_value a is answer = subst AcceptsAsked (sym is) (accepts_uncalled c whole d path keys b answer)

  pub of_item : (a : Asked) (i : ℕ) (e : Bor Value) (at : List Part) → a ≡ asked.Item i e → at ≡ index i ∷ path → Accepts c whole (view e.now) at keys b → AcceptsAsked a
  of_item a i e at is there answer =
      subst AcceptsAsked (sym is) (accepts_uncalled c whole (view e.now) (index i ∷ path) keys b (subst (λ p. Accepts c whole (view e.now) p keys b) there answer))

  pub of_member : (a : Asked) (k : Bor (List ℕ)) (e : Bor Value) (at : List Part) → a ≡ asked.Member k e → at ≡ name k.now ∷ path → Accepts c whole (view e.now) at keys b
      → AcceptsAsked a
  of_member a k e at is there answer =
      subst AcceptsAsked (sym is) (accepts_uncalled c whole (view e.now) (name k.now ∷ path) keys b (subst (λ p. Accepts c whole (view e.now) p keys b) there answer))

  pub of_name : (a : Asked) (k : Bor (List ℕ)) → a ≡ asked.Name k → AcceptsCalled c whole (string k.now) path keys (Some k.now) b → AcceptsAsked a
  of_name a k is answer = subst AcceptsAsked (sym is) answer

-- ---- a question

module _ (c : code.Site) (whole : Spots) (d : Data) (path : List Part) (keys : List Key) (q : Question) (v : Bool) where
  pub question_accepts : (b : code.Site) → Child c b (view q.subschema.schema.now) → depth (view q.subschema.schema.now) < depth (view c.contents.now)
      → AcceptsCalled b whole (value_after d (step_of q.asked)) (path_after path (step_of q.asked)) keys (called_after None (step_of q.asked)) v
      → AreYes c whole d path keys (question_leads q) (one_question q) v
  question_accepts b child inside answer = record {
    is = λ x fits read enough.
        all_yes-one x (question_of (below x.documents x.site) q)
        ∙ child_accepts c b (view q.subschema.schema.now) whole d path keys (added_at q.subschema.keyword.now q.subschema.entry) (step_of q.asked) v child inside answer x fits
        (read _ first) enough;
  }

  pub answered : AreYes c whole d path keys (question_leads q) (one_question q) v → (x : Setting) → Fits c d path keys x
      → ((t : Site) → In t (question_leads q x) → AreRead x.documents x.makes t) → room (documents_at c) whole keys (view c.contents.now) ≤ x.depth
      → answer_in x (question_of (below x.documents x.site) q) ≡ v
  answered answer x fits read enough = sym (all_yes-one x (question_of (below x.documents x.site) q)) ∙ answer.is x fits read enough

-- ---- one question after another

module _ (c : code.Site) (whole : Spots) (d : Data) (path : List Part) (keys : List Key) (a : Applicator) (all : List Question) (are : AreAsked (reads c.matches.now) a d all) where
  -- at the matches that were read
  pub asked_there : (x : Setting) → Fits c d path keys x → questions_of (below x.documents x.site) all ≡ applied_questions a d x
  asked_there x fits =
      let site = below x.documents x.site in are site ∙ ap (λ (m : List ℕ → List ℕ → Bool). asks (rule m d (shape_of site a))) (sym fits.matches)

  pub questions_init : QuestionsLeft c whole d path keys a all all
  questions_init = record { among = λ q i. i; left = λ x fits read enough. ap (all_yes x) (sym (asked_there x fits)) }

  pub questions_done : QuestionsLeft c whole d path keys a all [] → AreYes c whole d path keys (applied_leads a) (applied_questions a d) true
  questions_done l = record { is = λ x fits read enough. l.left x fits read enough ∙ all_yes-none x }

  module _ (by_answers : is_by_answers a ≡ true) (rest : List Question) (q : Question) where
    pub led_by : (x : Setting) → In q all → ((t : Site) → In t (applied_leads a x) → AreRead x.documents x.makes t) → (t : Site) → In t (question_leads q x)
        → AreRead x.documents x.makes t
    led_by x i read t j = read t (question_led (reads c.matches.now) a d all are by_answers q i x t j)

    -- this answer and the others
    one_first : (b : Bool) → QuestionsLeft c whole d path keys a all (q ∷ rest) → AreYes c whole d path keys (question_leads q) (one_question q) b
        → (x : Setting) → Fits c d path keys x → ((t : Site) → In t (applied_leads a x) → AreRead x.documents x.makes t)
        → room (documents_at c) whole keys (view c.contents.now) ≤ x.depth
        → all_yes x (applied_questions a d x) ≡ (b && all_yes x (questions_of (below x.documents x.site) rest))
    one_first b l answer x fits read enough =
        let more = questions_of (below x.documents x.site) rest in
        l.left x fits read enough ∙ all_yes-more x (question_of (below x.documents x.site) q) more
        ∙ ap (λ v. v && all_yes x more) (answered c whole d path keys q b answer x fits (led_by x (l.among q first) read) enough)

    pub questions_step : (b : Bool) → b ≡ true → QuestionsLeft c whole d path keys a all (q ∷ rest) → AreYes c whole d path keys (question_leads q) (one_question q) b
        → QuestionsLeft c whole d path keys a all rest
    questions_step b said_yes l answer = record {
      among = λ p i. l.among p (later i);
      left = λ x fits read enough. one_first b l answer x fits read enough ∙ ap (λ v. v && all_yes x (questions_of (below x.documents x.site) rest)) said_yes;
    }

    pub questions_refused : (b : Bool) → b ≡ false → QuestionsLeft c whole d path keys a all (q ∷ rest) → AreYes c whole d path keys (question_leads q) (one_question q) b
        → AreYes c whole d path keys (applied_leads a) (applied_questions a d) false
    questions_refused b said_no l answer = record {
      is = λ x fits read enough. one_first b l answer x fits read enough ∙ ap (λ v. v && all_yes x (questions_of (below x.documents x.site) rest)) said_no;
    }

-- ---- the schemas that a keyword asks

pub asks_inside : (c : code.Site) (ms : Members) (k : List ℕ) (e : Data) (word : Keyword) → view c.contents.now ≡ object ms → In (k, e) (listed_members ms)
    → ((makes : List ℕ → Bool) (s : Site) → Stands c s → s.scope ≡ scope_of c.resolver → IsRowOf (context_at c ms makes s) k (row_at (context_at c ms makes s) k e) word) → Finds c e word → AsksInside c word
asks_inside c ms k e keyword.Nothing is listed read found = tt
asks_inside c ms k e (keyword.Assertion a) is listed read found = tt
asks_inside c ms k e (keyword.Pattern p) is listed read found = tt
asks_inside c ms k e (keyword.Reference by text target) is listed read found = tt
asks_inside c ms k e (keyword.If schema then_schema else_schema) is listed read found = are_inside c ms k e schema then_schema else_schema is listed (λ makes s stands scope. (read makes s stands scope).made none_to_make)
asks_inside c ms k e (keyword.Consequent n schema) is listed read found = tt
asks_inside c ms k e (keyword.Applicator a) is listed read found = record {
  each = λ s stands scope matches d q i.
      let docs = documents_at c in
      let makes = λ (t : List ℕ). true in
      let shape = shape_of (below docs s) a in
      let row = row_at (context_at c ms makes s) k e in
      let same : row ≡ row_of docs s (keyword.Applicator a) = (read makes s stands scope).made (all_made (patterns_in a)) in
      let lies : In row (rows_at docs makes s) = row_here docs makes s ms k e (stands.contents ∙ is) listed in
      let there : In shape row.shapes = subst (λ (r : Row). In shape r.shapes) (sym same) first in
      let asks_it : Asks (plain docs makes matches) s (whole d) q = record {
        keyword = rule matches d shape;
        stands = rules_stand docs makes matches s row d lies (rule matches d shape) (in_map (rule matches d) shape row.shapes there);
        asked = i;
      } in
      let known = all_known docs makes matches s (whole d) q asks_it in
      subst (λ (f : Data). depth q.site.contents < depth f) stands.contents ((known.within (questions_are_sound (below docs s) matches d a found q i).within).is);
}
