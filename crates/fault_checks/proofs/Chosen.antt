-- Whether `if` refuses, by the verdicts of its schema and of the one that it chooses.
use Rattle.std.proofs.Common.{◌≡◌, ◌∙◌, ◌≤◌, ℕ, List, [], ◌∷◌, Bool, true, false, true≢false, not, codes, Bor, Option, Some, None, IfSome, option_map, sym, ap, subst}
use Rattle.serde_json.specs.Data.{Data, depth}
use Rattle.serde_json.specs.View.{view}
use Rattle.serde_json.specs.declared.value.Value.{Value}
use Rattle.schema_meaning.specs.Members.{In, first, later}
use Rattle.schema_meaning.specs.Places.{whole}
use Rattle.schema_meaning.specs.Questions.{Question, at, here}
use Rattle.schema_meaning.specs.Rules.{Rule, asks, accepts, obliged, refuses_at}
use Rattle.schema_meaning.specs.Keywords.{Shape, condition}
use Rattle.schema_meaning.specs.Readings.{verdicts, IsTold}
use Rattle.schema_meaning.specs.Certificates.{AreAnswers}
use Rattle.schema_meaning.specs.Circular.{IsCircular}
use Rattle.schema_definitions.specs.Sites.{Site}
use Rattle.schema_definitions.specs.Rows.{Row}
use Rattle.schema_definitions.specs.Plain.{deepest}
use Rattle.certificate_laws.proofs.Answers.{answers_there}
use Rattle.plain_reader.specs.Passed.{documents_at, row_of, site_at}
use Rattle.plain_reader.specs.Passed as code
use Rattle.plain_reader.specs.Choices.{IsInside, AreInside}
use Rattle.plain_reader.proofs.ChildVerdicts.{Child}
use Rattle.certificate_laws.proofs.Begun.{rules_stand}
use Rattle.fault_checks.specs.Scenes.{Scene, reading_of, IsRight, Stage}
use Rattle.fault_checks.specs.Verdicts.{IsVerdict, IsRefusalAt, IsInnerVerdict, chosen_of}
use Rattle.fault_checks.proofs.Right.{told_there, right_on, asked_back}
use Rattle.fault_checks.proofs.Children.{meets_shallow, child_meets}
use Rattle.fault_checks.proofs.Beside.{then_right, else_right}
use Rattle.fault_checks.proofs.Choices.{name_of, the_choice, asked_of, added_so, refuses_so, obliges_so, obliges_one, none_so, one_so, asks_one}

one_part : (k n : List ℕ) → at k ≡ at n → k ≡ n
one_part k n e = cc

module _ (c : code.Site) (d : Data) (schema : Bor Value) (then_schema else_schema : Option (Bor Value)) (shallow : depth (view c.contents.now) ≤ deepest (documents_at c)) where
  abbrev pub the_row : Scene → Site → Row
  the_row x s = row_of x.documents s (code.If schema then_schema else_schema)

  abbrev pub condition_site : Scene → Site → Site
  condition_site x s = site_at x.documents s (codes "if") (view schema.now)

  abbrev pub part_site : List ℕ → Scene → Site → Bor Value → Site
  part_site k x s part = site_at x.documents s k (view part.now)

  abbrev pub then_site : Scene → Site → Option Site
  then_site x s = option_map (λ v. site_at x.documents s (codes "then") (view v.now)) then_schema

  abbrev pub else_site : Scene → Site → Option Site
  else_site x s = option_map (λ v. site_at x.documents s (codes "else") (view v.now)) else_schema

  abbrev pub the_shape : Scene → Site → Shape Site
  the_shape x s = condition (condition_site x s) (then_site x s) (else_site x s)

  abbrev pub the_rule : Scene → Site → Rule Site
  the_rule x s = the_choice (condition_site x s) (then_site x s) (else_site x s)

  -- the site of what is chosen
  site_chosen : (b : Bool) (x : Scene) (s : Site) (part : Bor Value) → chosen_of b then_schema else_schema ≡ Some part
      → chosen_of b (then_site x s) (else_site x s) ≡ Some (part_site (name_of b) x s part)
  site_chosen true x s part e = ap (option_map (λ (v : Bor Value). site_at x.documents s (codes "then") (view v.now))) e
  site_chosen false x s part e = ap (option_map (λ (v : Bor Value). site_at x.documents s (codes "else") (view v.now))) e

  none_chosen : (b : Bool) (x : Scene) (s : Site) → chosen_of b then_schema else_schema ≡ None → chosen_of b (then_site x s) (else_site x s) ≡ None
  none_chosen true x s e = ap (option_map (λ (v : Bor Value). site_at x.documents s (codes "then") (view v.now))) e
  none_chosen false x s e = ap (option_map (λ (v : Bor Value). site_at x.documents s (codes "else") (view v.now))) e

  module _ (n : List ℕ) (x : Scene) (s : Site) (stage : Stage c d n (the_row x s) x s) where
    -- each of its questions has an answer
    pub if_answers : (bs : List Bool) × AreAnswers (reading_of x) (whole d) (the_rule x s) bs
    if_answers =
        let decided = told_there x s d (meets_shallow c x s stage.meets shallow) stage.straight in
        answers_there (reading_of x) s d _ decided (the_rule x s) (rules_stand x.documents x.makes x.matches s (the_row x s) d stage.stands (the_rule x s) first)

    pub part_right : (b : Bool) (part : Bor Value) → chosen_of b then_schema else_schema ≡ Some part → IsRight x (part_site (name_of b) x s part)
    part_right true part e =
        then_right x s stage.meets.right (condition_site x s) (then_site x s) (else_site x s) stage.stands (part_site (codes "then") x s part) (site_chosen true x s part e)
    part_right false part e =
        else_right x s stage.meets.right (condition_site x s) (then_site x s) (else_site x s) stage.stands (part_site (codes "else") x s part) (site_chosen false x s part e)

    module _ (b : Bool) (verdict : IsInnerVerdict c d (codes "if") (view schema.now) b) where
      condition_told : IsTold verdicts (reading_of x) (condition_site x s) (whole d) b
      condition_told =
          verdict.told x s stage.meets (right_on x s (the_row x s) (condition_site x s) stage.meets.right stage.stands first)
          (λ circular. stage.straight (asked_back x s (the_row x s) d (the_shape x s) (here (codes "if") (condition_site x s)) stage.stands first first circular))

      module _ (bs : List Bool) (are : AreAnswers (reading_of x) (whole d) (the_rule x s) bs) where
        pub refuses_under : refuses_at (the_rule x s) bs ≡ at (name_of b)
        refuses_under = refuses_so (reading_of x) d (condition_site x s) (then_site x s) (else_site x s) bs are b condition_told

        -- what is obliged stands at the name
        pub added_under : (q : Question Site) → In q (obliged (the_rule x s) bs) → q.added ≡ at (name_of b)
        added_under q i =
            added_so (name_of b) (chosen_of b (then_site x s) (else_site x s)) q
            (subst (λ qs. In q qs) (obliges_so (reading_of x) d (condition_site x s) (then_site x s) (else_site x s) bs are b condition_told) i)

        pub none_obliged : chosen_of b then_schema else_schema ≡ None → obliged (the_rule x s) bs ≡ []
        none_obliged e =
            obliges_so (reading_of x) d (condition_site x s) (then_site x s) (else_site x s) bs are b condition_told ∙ ap (asked_of (name_of b)) (none_chosen b x s e)

        none_accepts : chosen_of b then_schema else_schema ≡ None → accepts (the_rule x s) bs ≡ true
        none_accepts e = none_so (reading_of x) d (condition_site x s) (then_site x s) (else_site x s) bs are b condition_told (none_chosen b x s e)

        module _ (part : Bor Value) (chooses : chosen_of b then_schema else_schema ≡ Some part) where
          abbrev the_site : Site
          the_site = part_site (name_of b) x s part

          pub one_obliged : obliged (the_rule x s) bs ≡ here (name_of b) the_site ∷ []
          one_obliged = obliges_one (reading_of x) d (condition_site x s) (then_site x s) (else_site x s) bs are b condition_told the_site (site_chosen b x s part chooses)

          one_asked : In (here (name_of b) the_site) (asks (the_rule x s))
          one_asked = asks_one (reading_of x) d (condition_site x s) (then_site x s) (else_site x s) bs are b condition_told the_site (site_chosen b x s part chooses)

          -- where references come back below what is chosen, they do at the site
          pub part_back : IsCircular (reading_of x) the_site (whole d) → IsCircular (reading_of x) s (whole d)
          part_back circular = asked_back x s (the_row x s) d (the_shape x s) (here (name_of b) the_site) stage.stands first one_asked circular

          part_accepts : (v : Bool) → IsInnerVerdict c d (name_of b) (view part.now) v → accepts (the_rule x s) bs ≡ v
          part_accepts v h =
              one_so (reading_of x) d (condition_site x s) (then_site x s) (else_site x s) bs are b condition_told the_site (site_chosen b x s part chooses) v
              (h.told x s stage.meets (part_right b part chooses) (λ circular. stage.straight (part_back circular)))

  -- ---- under a name

  module _ (n : List ℕ) (b : Bool) (verdict : IsInnerVerdict c d (codes "if") (view schema.now) b) where
    abbrev Decides : Bool → Type 0
    Decides v = IsRefusalAt c d (code.If schema then_schema else_schema) n v

    -- it refuses by none of its answers under the name
    never : ((x : Scene) (s : Site) → Stage c d n (the_row x s) x s → (bs : List Bool) → AreAnswers (reading_of x) (whole d) (the_rule x s) bs
        → accepts (the_rule x s) bs ≡ false → refuses_at (the_rule x s) bs ≡ at n → ⊥) → Decides false
    never none = record { decides = λ x s stage h. by x s stage h.0 h.1 h.2 h.3 h.4 h.5 }
      where
        by : (x : Scene) (s : Site) → Stage c d n (the_row x s) x s → (k : Rule Site) (bs : List Bool) → In k (the_rule x s ∷ []) → AreAnswers (reading_of x) (whole d) k bs
            → accepts k bs ≡ false → refuses_at k bs ≡ at n → ⊥
        by x s stage _ bs first are wrong named = none x s stage bs are wrong named
        by x s stage k bs (later i) are wrong named = elim i [ ]

    pub by_other_name : (name_of b ≡ n → ⊥) → Decides false
    by_other_name other = never (λ x s stage bs are wrong named. other (one_part (name_of b) n (sym (refuses_under n x s stage b verdict bs are) ∙ named)))

    pub by_no_part : chosen_of b then_schema else_schema ≡ None → Decides false
    by_no_part none = never (λ x s stage bs are wrong named. true≢false (sym (none_accepts n x s stage b verdict bs are none) ∙ wrong))

    pub by_part : (part : Bor Value) → chosen_of b then_schema else_schema ≡ Some part → name_of b ≡ n → (v : Bool) → IsInnerVerdict c d (name_of b) (view part.now) (not v) → Decides v
    by_part part chooses same true h = record {
      decides = λ x s stage.
          let w = if_answers n x s stage in
          (the_rule x s, w.0, first, w.1, part_accepts n x s stage b verdict w.0 w.1 part chooses false h, refuses_under n x s stage b verdict w.0 w.1 ∙ ap at same);
    }
    by_part part chooses same false h =
        never (λ x s stage bs are wrong named. true≢false (sym (part_accepts n x s stage b verdict bs are part chooses true h) ∙ wrong))

-- what is chosen lies in the schema
pub chosen_inside : (c : code.Site) (then_schema else_schema : Option (Bor Value)) → AreInside c then_schema else_schema → (b : Bool) (part : Bor Value)
    → chosen_of b then_schema else_schema ≡ Some part → IsInside c part
chosen_inside c then_schema else_schema h true part e = subst (λ (o : Option (Bor Value)). IfSome o (IsInside c)) e h.chosen
chosen_inside c then_schema else_schema h false part e = subst (λ (o : Option (Bor Value)). IfSome o (IsInside c)) e h.other

-- ---- the verdict of a schema at a keyword

pub inner_verdict : (c inner : code.Site) (d : Data) (k : List ℕ) (schema : Data) (b : Bool) → Child c inner schema → IsVerdict inner d b
    → IsInnerVerdict c d k schema b
inner_verdict c inner d k schema b child verdict = record {
  told = λ x s meets right straight.
      let there = site_at x.documents s k schema in
      let at_it = child_meets c inner schema (at k) x s child meets right in verdict.told x there at_it straight;
}
