-- Steps by `if`: into the schema that it chooses, and into no other.
use Rattle.std.proofs.Common.{◌≡◌, ◌∙◌, ◌++◌, ℕ, List, [], ◌∷◌, Bool, false, Bor, Option, None, Some, length, codes, refl, sym, ap, subst, append-nil, arith}
use Rattle.serde_json.specs.Data.{Data}
use Rattle.serde_json.specs.View.{view}
use Rattle.serde_json.specs.declared.value.Value.{Value}
use Rattle.json_values.specs.Pointers.{escape}
use Rattle.schema_meaning.specs.Members.{In, first, later}
use Rattle.schema_meaning.specs.Places.{whole, value_after, path_after}
use Rattle.schema_meaning.specs.Circular.{IsCircular}
use Rattle.schema_meaning.specs.Questions.{Question, at, here}
use Rattle.schema_meaning.specs.Rules.{Rule, obliged, refuses_at}
use Rattle.schema_meaning.specs.Certificates.{AreAnswers}
use Rattle.schema_definitions.specs.Sites.{Site}
use Rattle.schema_definitions.specs.Rows.{Row}
use Rattle.schema_definitions.specs.PathTexts.{path_text}
use Rattle.applicators.specs.declared.question.Asked.TheVariants as asked
use Rattle.applicators.specs.declared.subschema.Entry.TheVariants as entry
use Rattle.fault_paths.specs.declared.ahead.Ahead.{Ahead}
use Rattle.certificate_laws.specs.Spelled.{AreSpelled, AreSpelledBy, refuses, goes}
use Rattle.certificate_laws.specs.Words.{IsRest}
use Rattle.certificate_laws.proofs.Cuts.{rest_of}
use Rattle.fault_paths.specs.Texts.{text_left}
use Rattle.fault_checks.specs.Passed as code
use Rattle.fault_checks.specs.Scenes.{Scene, reading_of, Stage}
use Rattle.fault_checks.specs.Verdicts.{IsInnerVerdict, chosen_of}
use Rattle.fault_checks.proofs.Passed.{Child}
use Rattle.fault_checks.proofs.Children.{child_meets}
use Rattle.fault_checks.proofs.Choices.{name_of}
use Rattle.fault_checks.proofs.Chosen.{the_row, the_rule, part_site, if_answers, part_right, refuses_under, added_under, none_obliged, one_obliged, part_back}
use Rattle.fault_checks.specs.declared.walk.Walk.{Walk}
use Rattle.fault_checks.specs.declared.walk.Step.{Step}
use Rattle.fault_checks.specs.declared.walk.Step.TheVariants.{Answered, On, Named}
use Rattle.fault_checks.specs.Steps.{IsLeft, IsMore, IsNotLonger, GoesInto, LeadsInto, PassesBy}
use Rattle.fault_checks.proofs.Going.{not_named, one_begun}

-- what the walk goes on with: the schema at its keyword, and the value itself
abbrev pub into_part : Walk → Bor (List ℕ) → Bor Value → Option (Bor (List ℕ)) → Ahead
into_part w k part after =
    record { question = record { subschema = record { keyword = k; entry = entry.Whole; schema = part }; asked = asked.Value }; instance = w.instance; evaluation = after }

module _ (w : Walk) (schema : Bor Value) (then_schema else_schema : Option (Bor Value)) (n : List ℕ) (after : Option (Bor (List ℕ))) (more : IsMore w.instance after) (b : Bool)
    (verdict : IsInnerVerdict w.site (view w.value.now) (codes "if") (view schema.now) b) where
  abbrev d : Data
  d = view w.value.now

  abbrev e : List ℕ
  e = 47 ∷ (n ++ text_left after)

  abbrev row : Scene → Site → Row
  row x s = the_row w.site d schema then_schema else_schema w.shallow x s

  abbrev if_rule : Scene → Site → Rule Site
  if_rule x s = the_rule w.site d schema then_schema else_schema w.shallow x s

  abbrev Staged : Scene → Site → Type 0
  Staged x s = Stage w.site d n (row x s) x s

  abbrev Spelled : Scene → Site → Type 0
  Spelled x s = AreSpelledBy (reading_of x) d (if_rule x s ∷ []) (text_left w.instance) e

  -- behind the name of what is chosen
  begun_by : (x : Scene) (s : Site) → Staged x s → (bs : List Bool) → AreAnswers (reading_of x) (whole d) (if_rule x s) bs → (q : Question Site) → In q (obliged (if_rule x s) bs)
      → (i rest : List ℕ) → AreSpelled (reading_of x) q.site (value_after d q.step) i rest → e ≡ path_text q.added ++ rest → (n ≡ name_of b) × (text_left after ≡ rest)
  begun_by x s stage bs are q o i rest under on_e =
      let added = added_under w.site d schema then_schema else_schema w.shallow n x s stage b verdict bs are q o in
      one_begun n (name_of b) rest after (stage.plain _ first) (subst IsRest (sym under.evaluation_text) (rest_of _))
      (on_e ∙ ap (λ ps. path_text ps ++ rest) added ∙ ap (λ t. 47 ∷ (t ++ rest)) (append-nil (escape (name_of b))))

  no_end : (x : Scene) (s : Site) → Staged x s → (bs : List Bool) → AreAnswers (reading_of x) (whole d) (if_rule x s) bs → text_left w.instance ≡ []
      → e ≡ path_text (refuses_at (if_rule x s) bs) → ⊥
  no_end x s stage bs are at_i on_e =
      not_named w.instance after n (name_of b) more (stage.plain _ first) at_i
      (on_e ∙ ap path_text (refuses_under w.site d schema then_schema else_schema w.shallow n x s stage b verdict bs are))

  -- where nothing that is obliged stands at the name
  stops : ((x : Scene) (s : Site) → Staged x s → (bs : List Bool) → AreAnswers (reading_of x) (whole d) (if_rule x s) bs → (q : Question Site) → In q (obliged (if_rule x s) bs)
      → n ≡ name_of b → ⊥) → PassesBy w (code.If schema then_schema else_schema) n after (Answered false)
  stops none = record { outcome = λ x s stage h. by x s stage h }
    where
      by : (x : Scene) (s : Site) → Staged x s → Spelled x s → ⊥
      by x s stage (refuses _ bs first are wrong at_i on_e) = no_end x s stage bs are at_i on_e
      by x s stage (refuses k bs (later j) are wrong at_i on_e) = elim j [ ]
      by x s stage (goes _ bs q i rest first are o under at_i on_e) = none x s stage bs are q o (begun_by x s stage bs are q o i rest under on_e).0
      by x s stage (goes k bs q i rest (later j) are o under at_i on_e) = elim j [ ]

  pub other_name : (name_of b ≡ n → ⊥) → PassesBy w (code.If schema then_schema else_schema) n after (Answered false)
  other_name other = stops (λ x s stage bs are q o same. other (sym same))

  pub no_part : chosen_of b then_schema else_schema ≡ None → PassesBy w (code.If schema then_schema else_schema) n after (Answered false)
  no_part none =
      stops (λ x s stage bs are q o same.
      elim (subst (λ qs. In q qs) (none_obliged w.site d schema then_schema else_schema w.shallow n x s stage b verdict bs are none) o) [ ])

  module _ (part : Bor Value) (chooses : chosen_of b then_schema else_schema ≡ Some part) (same : name_of b ≡ n) where
    abbrev site : Scene → Site → Site
    site x s = part_site w.site d schema then_schema else_schema w.shallow (name_of b) x s part

    abbrev asks_it : Scene → Site → Question Site
    asks_it x s = here (name_of b) (site x s)

    one_is : (x : Scene) (s : Site) → Staged x s → (bs : List Bool) → AreAnswers (reading_of x) (whole d) (if_rule x s) bs → obliged (if_rule x s) bs ≡ asks_it x s ∷ []
    one_is x s stage bs are = one_obliged w.site d schema then_schema else_schema w.shallow n x s stage b verdict bs are part chooses

    only_one : (p q : Question Site) → In q (p ∷ []) → q ≡ p
    only_one p q first = refl
    only_one p q (later i) = elim i [ ]

    -- what is left is spelled from the schema that is chosen
    onward : (x : Scene) (s : Site) → Staged x s → Spelled x s → AreSpelled (reading_of x) (site x s) d (text_left w.instance) (text_left after)
    onward x s stage (refuses _ bs first are wrong at_i on_e) = absurd (no_end x s stage bs are at_i on_e)
    onward x s stage (refuses k bs (later j) are wrong at_i on_e) = elim j [ ]
    onward x s stage (goes _ bs q i rest first are o under at_i on_e) =
        let one = only_one (asks_it x s) q (subst (λ qs. In q qs) (one_is x s stage bs are) o) in
        let left = (begun_by x s stage bs are q o i rest under on_e).1 in
        let there : text_left w.instance ≡ i = at_i ∙ ap (λ (p : Question Site). path_text (path_after [] p.step) ++ i) one in
        subst (λ t. AreSpelled (reading_of x) (site x s) d t (text_left after)) (sym there)
        (subst (λ t. AreSpelled (reading_of x) (site x s) d i t) (sym left)
        (subst (λ (p : Question Site). AreSpelled (reading_of x) p.site (value_after d p.step) i rest) one under))
    onward x s stage (goes k bs q i rest (later j) are o under at_i on_e) = elim j [ ]

    back : (x : Scene) (s : Site) → Staged x s → AreSpelled (reading_of x) (site x s) d (text_left w.instance) (text_left after) → Spelled x s
    back x s stage under =
        let bs = if_answers w.site d schema then_schema else_schema w.shallow n x s stage in
        goes (if_rule x s) bs.0 (asks_it x s) (text_left w.instance) (text_left after) first bs.1 (subst (λ qs. In (asks_it x s) qs) (sym (one_is x s stage bs.0 bs.1)) first) under refl
        (ap (λ t. 47 ∷ (t ++ text_left after)) (sym (stage.plain _ first) ∙ ap escape (sym same) ∙ sym (append-nil (escape (name_of b)))))

    pub into_chosen : (v : Walk) (k : Bor (List ℕ)) → k.now ≡ name_of b → GoesInto w (into_part w k part after) v → PassesBy w (code.If schema then_schema else_schema) n after (On v)
    into_chosen v k named into = record {
      outcome = λ x s stage.
          let bs = if_answers w.site d schema then_schema else_schema w.shallow n x s stage in
          let inner = site x s in
          let child : Child w.site v.site (view part.now) = record { contents = into.contents; documents = into.documents; scope = into.scope; stands = λ t added. into.stands t added; matches = into.matches } in
          let right = part_right w.site d schema then_schema else_schema w.shallow n x s stage b part chooses in
          let meets = child_meets w.site v.site (view part.now) (at (name_of b)) x s child stage.meets right in
          let left : IsLeft x v inner ≡ AreSpelled (reading_of x) inner d (text_left w.instance) (text_left after) =
          ap (λ f. AreSpelled (reading_of x) inner f (text_left v.instance) (text_left v.evaluation)) (into.value refl)
          ∙ ap (λ t. AreSpelled (reading_of x) inner d (text_left t) (text_left v.evaluation)) into.instance
          ∙ ap (λ t. AreSpelled (reading_of x) inner d (text_left w.instance) (text_left t)) into.evaluation in
          record {
            site = inner;
            meets = meets;
            back = λ circular.
                part_back w.site d schema then_schema else_schema w.shallow n x s stage b verdict bs.0 bs.1 part chooses
                (subst (λ f. IsCircular (reading_of x) inner (whole f)) (into.value refl) circular);
            to = λ h. subst (λ P. P) (sym left) (onward x s stage h);
            from = λ under. back x s stage (subst (λ P. P) left under);
          };
    }

    pub to_chosen : (step : Step) (k : Bor (List ℕ)) → k.now ≡ name_of b → LeadsInto w (into_part w k part after) step → PassesBy w (code.If schema then_schema else_schema) n after step
    to_chosen (Answered r) k named into = absurd into
    to_chosen (Named m) k named into = absurd into
    to_chosen (On v) k named into = into_chosen v k named into

pub chosen_shorter : (w : Walk) (k : Bor (List ℕ)) (part : Bor Value) (after : Option (Bor (List ℕ))) (step : Step) → LeadsInto w (into_part w k part after) step → IsNotLonger after step
chosen_shorter w k part after (Answered r) into = absurd into
chosen_shorter w k part after (Named m) into = absurd into
chosen_shorter w k part after (On v) into =
    let same : length (text_left v.evaluation) ≡ length (text_left after) = ap (λ t. length (text_left t)) into.evaluation in omega (arith, same)
