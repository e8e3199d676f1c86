-- Steps by `propertyNames`, and walks at the names of an object.
use Rattle.std.proofs.Common.{◌≡◌, ◌∙◌, ◌++◌, ◌<◌, ℕ, List, [], ◌∷◌, map, Bool, true, false, Bor, refl, sym, ap, subst}
use Rattle.serde_json.specs.Data.{Data, null, string, object, depth, Members, no_members, member}
use Rattle.serde_json.specs.View.{view}
use Rattle.serde_json.specs.declared.value.Value.{Value}
use Rattle.json_values.specs.Parts.{Part}
use Rattle.json_values.specs.Pointers.{escape}
use Rattle.schema_meaning.specs.Members.{In, first, later}
use Rattle.schema_meaning.specs.Places.{value_after, path_after, to_name}
use Rattle.schema_meaning.specs.Questions.{Question, question, at, each_name, names_of, listed_members}
use Rattle.schema_meaning.specs.Rules.{asks, obliged, refuses_at}
use Rattle.schema_meaning.specs.Keywords.{rule}
use Rattle.schema_definitions.specs.Sites.{Site, below}
use Rattle.schema_definitions.specs.PathTexts.{path_text}
use Rattle.applicators.specs.Shapes.{shape_of, site_of}
use Rattle.applicators.specs.Asks.{form_by, leads_by, are_names}
use Rattle.applicators.specs.Combined.{name_of, combining_of, asks_of}
use Rattle.applicators.specs.Applied.{Applicator}
use Rattle.applicators.specs.Bare.{bare}
use Rattle.applicators.specs.Combining.{counts_answers}
use Rattle.applicators.specs.Forms.{shape_by, stands}
use Rattle.applicators.specs.declared.combining.Combining.{Combining}
use Rattle.applicators.specs.declared.combining.Combining.TheVariants as combining
use Rattle.applicators.specs.Lent.{Asks}
use Rattle.applicators.specs.declared.asks.AsksOf.TheVariants as asking
use Rattle.applicators.specs.declared.question.Asked.TheVariants as asked
use Rattle.applicators.specs.declared.question.Question as questions
use Rattle.applicators.specs.declared.subschema.Entry.TheVariants as entry
use Rattle.certificate_laws.specs.Spelled.{AreSpelled}
use Rattle.certificate_laws.proofs.Answers.{answers_there}
use Rattle.certificate_laws.specs.Words.{Bears}
use Rattle.certificate_laws.proofs.Begun.{rules_stand}
use Rattle.certificate_laws.proofs.Listed.{in_mapped}
use Rattle.reading_laws.proofs.Elements as elements
use Rattle.fault_paths.specs.Texts.{text_left}
use Rattle.fault_paths.proofs.TextFacts.{tail_is, behind_same}
use Rattle.fault_checks.specs.Passed.{EachInside}
use Rattle.fault_checks.specs.Passed as seen
use Rattle.fault_checks.specs.Scenes.{Scene, reading_of, IsRight, Meets, IsStraight}
use Rattle.fault_checks.specs.Rows.{applied_row}
use Rattle.fault_checks.specs.Verdicts.{IsDecided}
use Rattle.fault_checks.proofs.Passed.{Child, question_inside}
use Rattle.fault_checks.proofs.Right.{told_there, right_on, asked_back}
use Rattle.fault_checks.proofs.Children.{meets_shallow, child_meets}
use Rattle.fault_checks.specs.declared.walk.AtNames.{AtNames}
use Rattle.fault_checks.specs.declared.walk.Walk.{Walk}
use Rattle.fault_checks.specs.declared.walk.Step.TheVariants.{Answered, Named}
use Rattle.fault_checks.specs.Steps.{names_site, IsLeftAt, SomeLeft, IsLeft, IsMore, Passes, PassesThrough}
use Rattle.fault_checks.specs.NamedSteps.{IsAtName, IsLeftAtName, IsLeftAtSome}
use Rattle.fault_checks.proofs.Going.{going_by, gone_by, name_text, not_named}

-- ---- the keywords of names

-- their questions, all of which oblige, and the name under which they refuse
pub record AreOfNamesBy (keyword k : List ℕ) (c : Combining) (f : Asks) (schema : Data) : Type 0 where
  pub led : (site : List Part → Data → Site) → In (site_of site keyword schema) (leads_by site k f)
  pub asked : (site : List Part → Data → Site) (matches : List ℕ → List ℕ → Bool) (d : Data)
      → asks (rule matches d (shape_by k c (form_by site k f))) ≡ each_name (at keyword) (site_of site keyword schema) (names_of d)
  pub obliged_all : (site : List Part → Data → Site) (matches : List ℕ → List ℕ → Bool) (d : Data) (bs : List Bool)
      → obliged (rule matches d (shape_by k c (form_by site k f))) bs ≡ each_name (at keyword) (site_of site keyword schema) (names_of d)
  pub own : (site : List Part → Data → Site) (matches : List ℕ → List ℕ → Bool) (d : Data) (bs : List Bool)
      → refuses_at (rule matches d (shape_by k c (form_by site k f))) bs ≡ at keyword
  pub named : (site : List Part → Data → Site) (n : List ℕ) → Bears n (shape_by k c (form_by site k f)) → keyword ≡ n
  pub counts : counts_answers c ≡ true

abbrev pub AreOfNames : List ℕ → Applicator → Data → Type 0
AreOfNames keyword a schema = AreOfNamesBy keyword (name_of a) (combining_of a) (asks_of a) schema

abbrev names_asked : Bor Value → Asks
names_asked schema = asking.Names schema

of_names : (k : List ℕ) (c : Combining) (schema : Bor Value) → stands k c (bare (names_asked schema)) ≡ true → AreOfNamesBy k k c (asking.Names schema) (view schema.now)
of_names k combining.Together schema h = record {
  led = λ site. first;
  asked = λ site matches d. refl;
  obliged_all = λ site matches d bs. refl;
  own = λ site matches d bs. refl;
  named = λ site k is. is;
  counts = refl;
}
of_names k combining.EachNamed schema h = record {
  led = λ site. first;
  asked = λ site matches d. refl;
  obliged_all = λ site matches d bs. refl;
  own = λ site matches d bs. refl;
  named = λ site k is. is;
  counts = refl;
}
of_names k c schema h = absurd (cc)

-- those that ask names
pub are_of_names : (a : Applicator) (schema : Bor Value) → asks_of a ≡ asking.Names schema → AreOfNames (name_of a) a (view schema.now)
are_of_names a schema is =
    subst (λ (f : Asks). AreOfNamesBy (name_of a) (name_of a) (combining_of a) f (view schema.now)) (sym is)
    (of_names (name_of a) (combining_of a) schema (subst (λ (f : Asks). stands (name_of a) (combining_of a) (bare f) ≡ true) is a.stands))

pub asks_none : (f : Asks) → ((schema : Bor Value) → f ≡ asking.Names schema → ⊥) → are_names f ≡ false
asks_none (asking.Names schema) other = absurd (other schema refl)
asks_none f other = refl

-- ---- the schema of names lies in the one around, as the question of a name says

one_member : Data
one_member = object (member [] null no_members)

abbrev of_a_name : List ℕ → Bor Value → questions.Question
of_a_name k schema = record {
  subschema = record { keyword = record { ref_ptr = (0, 0); now = k }; entry = entry.Whole; schema = schema };
  asked = asked.Name (record { ref_ptr = (0, 0); now = [] });
}

pub lies_inside : (c : seen.Site) (a : Applicator) (schema : Bor Value) → asks_of a ≡ asking.Names schema → EachInside c a → depth (view schema.now) < depth (view c.contents.now)
unfolding one_member
lies_inside c a schema is each =
    let of = are_of_names a schema is in
    let asked = of_a_name (name_of a) schema in
    question_inside (λ p t. false) a one_member (asked ∷ []) (λ site. sym (of.asked site (λ p t. false) one_member)) of.counts asked first c each

-- ---- the step

module _ (n : AtNames) (a : Applicator) (of : AreOfNames n.keyword.now a (view n.schema.now)) (more : IsMore n.walk.instance n.evaluation) where
  abbrev d : Data
  d = view n.walk.value.now

  abbrev keyword : List ℕ
  keyword = n.keyword.now

  abbrev asks_it : Scene → Site → List ℕ → Question Site
  asks_it x s k = question (names_site x n s) (to_name k) (at keyword)

  pub at_names : PassesThrough n.walk (applied_row a) n.evaluation (Named n)
  at_names = record {
    outcome = λ x s name stage.
        let site = below x.documents s in
        let inner = names_site x n s in
        let the = rule x.matches d (shape_of site a) in
        let qs = each_name (at keyword) inner (names_of d) in
        let row = applied_row a x s in
        let i = text_left n.walk.instance in
        let after = text_left n.evaluation in
        let plain : escape name ≡ name = stage.plain _ first in
        let begins : path_text (at keyword) ≡ 47 ∷ name = name_text keyword name (of.named site name stage.named.0) plain in
        let decided = told_there x s d (meets_shallow n.walk.site x s stage.meets n.walk.shallow) stage.straight in
        let bs = answers_there (reading_of x) s d _ decided the (rules_stand x.documents x.makes x.matches s row d stage.stands the first) in
        let among : (k : List ℕ) → In k (names_of d) → In (asks_it x s k) qs = λ k j. elements.in_mapped (asks_it x s) k (names_of d) j in
        record {
          site = s;
          meets = stage.meets;
          right = right_on x s row inner stage.meets.right stage.stands (of.led site);
          back = λ k j circular.
              asked_back x s row d (shape_of site a) (asks_it x s k) stage.stands first (subst (λ ps. In (asks_it x s k) ps) (sym (of.asked site x.matches d)) (among k j)) circular;
          to = λ h.
              let own = λ (cs : List Bool) (none : i ≡ []) (is : 47 ∷ (name ++ after) ≡ path_text (refuses_at the cs)).
              not_named n.walk.instance n.evaluation name keyword more plain none (is ∙ ap path_text (of.own site x.matches d cs)) in
              let g = going_by (reading_of x) d the qs i (47 ∷ (name ++ after)) (of.obliged_all site x.matches d) own h in
              let m = in_mapped (asks_it x s) (names_of d) g.asked in
              let at_i : i ≡ g.instance = g.at_instance ∙ ap (λ (p : Question Site). path_text (path_after [] p.step) ++ g.instance) (sym m.2) in
              let on_e : 47 ∷ (name ++ after) ≡ 47 ∷ (name ++ g.evaluation) =
              g.on_evaluation ∙ ap (λ (p : Question Site). path_text p.added ++ g.evaluation) (sym m.2) ∙ ap (λ t. t ++ g.evaluation) begins in
              let same : after ≡ g.evaluation = behind_same name after g.evaluation (tail_is 47 _ _ on_e) in
              let under : AreSpelled (reading_of x) inner (string m.0) g.instance g.evaluation =
              subst (λ (p : Question Site). AreSpelled (reading_of x) p.site (value_after d p.step) g.instance g.evaluation) (sym m.2) g.under in
              (m.0, m.1, subst (λ t. AreSpelled (reading_of x) inner (string m.0) t after) (sym at_i) (subst (λ t. AreSpelled (reading_of x) inner (string m.0) g.instance t) (sym same) under));
          from = λ some.
              gone_by (reading_of x) d the qs i (47 ∷ (name ++ after)) bs.0 (of.obliged_all site x.matches d) bs.1
              (record {
                question = asks_it x s some.0;
                asked = among some.0 some.1;
                instance = i;
                evaluation = after;
                under = some.2;
                at_instance = refl;
                on_evaluation = ap (λ t. t ++ after) (sym begins);
              });
        };
  }

-- ---- the walks

pub passes_named : (w : Walk) (n : AtNames) (b : Bool) → Passes w (Named n) → IsLeftAtSome n b → Passes w (Answered b)
passes_named w n true p some = record {
  outcome = λ x s meets straight.
      let g = p.outcome x s meets straight in
      g.from (some.decides x g.site g.meets g.right (λ k i circular. straight (g.back k i circular)));
}
passes_named w n false p some = record {
  outcome = λ x s meets straight h.
      let g = p.outcome x s meets straight in
      some.decides x g.site g.meets g.right (λ k i circular. straight (g.back k i circular)) (g.to h);
}

-- the walk at one name
pub at_one_name : (n : AtNames) (k : List ℕ) (v : Walk) (b : Bool) → IsAtName n (string k) v → Passes v (Answered b) → IsLeftAtName n k b
at_one_name n k v b there p = record {
  decides = λ x s meets right straight.
      let inner = names_site x n s in
      let child : Child n.walk.site v.site (view n.schema.now) = record {
        contents = there.contents;
        documents = there.documents;
        scope = there.scope;
        stands = λ t added. there.stands t added;
        matches = there.matches;
      } in
      let here = child_meets n.walk.site v.site (view n.schema.now) (at n.keyword.now) x s child meets right in
      let left : IsLeft x v inner ≡ IsLeftAt x n s k =
      ap (λ f. AreSpelled (reading_of x) inner f (text_left v.instance) (text_left v.evaluation)) there.value
      ∙ ap (λ t. AreSpelled (reading_of x) inner (string k) (text_left t) (text_left v.evaluation)) there.instance
      ∙ ap (λ t. AreSpelled (reading_of x) inner (string k) (text_left n.walk.instance) (text_left t)) there.evaluation in
      subst (IsDecided b) left (p.outcome x inner here (subst (IsStraight x inner) (sym there.value) straight));
}

-- ---- one name after another

abbrev pub names_in : Members → List (List ℕ)
names_in ms = map (λ m. m.0) (listed_members ms)

-- where what is left is spelled at none of the rest, it is at none
pub record NamesLeft (n : AtNames) (rest : Members) : Type 0 where
  pub among : (k : List ℕ) → In k (names_in rest) → In k (names_of (view n.walk.value.now))
  pub none : (x : Scene) (s : Site) → Meets n.walk.site x s → IsRight x (names_site x n s)
      → ((k : List ℕ) → In k (names_of (view n.walk.value.now)) → IsStraight x (names_site x n s) (string k))
      → ((k : List ℕ) → In k (names_in rest) → IsLeftAt x n s k → ⊥) → SomeLeft x n s → ⊥

pub names_first : (n : AtNames) (ms : Members) → view n.walk.value.now ≡ object ms → NamesLeft n ms
names_first n ms is = record {
  among = λ k i. subst (λ f. In k (names_of f)) (sym is) i;
  none = λ x s meets right straight h some. h some.0 (subst (λ f. In some.0 (names_of f)) is some.1) some.2;
}

pub names_more : (n : AtNames) (k : List ℕ) (e : Data) (ms : Members) → IsLeftAtName n k false → NamesLeft n (member k e ms) → NamesLeft n ms
names_more n k e ms refused l = record {
  among = λ j i. l.among j (later i);
  none = λ x s meets right straight h. l.none x s meets right straight (λ j i. either x s meets right straight h j i);
}
  where
    either : (x : Scene) (s : Site) → Meets n.walk.site x s → IsRight x (names_site x n s)
        → ((j : List ℕ) → In j (names_of (view n.walk.value.now)) → IsStraight x (names_site x n s) (string j))
        → ((j : List ℕ) → In j (names_in ms) → IsLeftAt x n s j → ⊥) → (j : List ℕ) → In j (names_in (member k e ms)) → IsLeftAt x n s j → ⊥
    either x s meets right straight h _ first = refused.decides x s meets right (straight k (l.among k first))
    either x s meets right straight h j (later i) = h j i

pub names_found : (n : AtNames) (k : List ℕ) (e : Data) (ms : Members) → IsLeftAtName n k true → NamesLeft n (member k e ms) → IsLeftAtSome n true
names_found n k e ms spelled l = record { decides = λ x s meets right straight. (k, l.among k first, spelled.decides x s meets right (straight k (l.among k first))) }

pub names_none : (n : AtNames) → NamesLeft n no_members → IsLeftAtSome n false
names_none n l = record { decides = λ x s meets right straight. l.none x s meets right straight (λ k i. elim i [ ]) }
