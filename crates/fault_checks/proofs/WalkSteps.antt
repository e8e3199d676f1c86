-- One step of a walk, and walks of many.
use Rattle.std.proofs.Common.{◌≡◌, ◌∙◌, ◌++◌, ℕ, List, [], ◌∷◌, Bool, true, false, true≢false, Bor, Option, None, Some, map, refl, sym, ap, subst, append-nil}
use Rattle.std.specs.List.{AllByRecursion}
use Rattle.serde_json.specs.Data.{Data, null, boolean, number, string, array, object, Members}
use Rattle.serde_json.specs.Find.{get_member}
use Rattle.serde_json.specs.View.{view}
use Rattle.json_values.specs.Pointers.{escape}
use Rattle.schema_meaning.specs.Members.{In, first, later}
use Rattle.schema_meaning.specs.Places.{whole}
use Rattle.schema_meaning.specs.Circular.{IsCircular}
use Rattle.schema_meaning.specs.Questions.{at}
use Rattle.schema_meaning.specs.Keywords.{Shape, rule}
use Rattle.schema_definitions.specs.Sites.{Site}
use Rattle.schema_definitions.specs.Rows.{Row, is_draft_4, row_at, rows_at}
use Rattle.schema_definitions.specs.BuildCauses.{at_root}
use Rattle.fault_checks.specs.Passed.{scope_of}
use Rattle.schema_definitions.specs.Bearers.{Documents}
use Rattle.schema_definitions.specs.Places.{Dialect}
use Rattle.fault_checks.specs.Passed.{Stands, is_draft_4_at}
use Rattle.fault_checks.specs.Passed.{row_of, context_at, IsRowOf}
use Rattle.fault_checks.specs.Passed.{Refuses}
use Rattle.fault_checks.specs.Passed.{Keyword}
use Rattle.fault_checks.specs.Passed.{Refusal}
use Rattle.fault_checks.specs.PassedRefusals as refusal
use Rattle.json_values.specs.Rising.{are_rising}
use Rattle.schema_definitions.specs.PathTexts.{path_text}
use Rattle.certificate_laws.specs.Spelled.{AreSpelled, AreSpelledBy, refuses}
use Rattle.certificate_laws.proofs.Steps.{from_step}
use Rattle.certificate_laws.specs.Words.{Bears, IsUnder, member_of, cuts, cuts_behind}
use Rattle.certificate_laws.proofs.Cuts.{cut_is, cut_joined, escape_no_slash}
use Rattle.certificate_laws.proofs.Listed.{each_in, in_mapped}
use Rattle.certificate_laws.proofs.Named.{shapes_are_under}
use Rattle.certificate_laws.proofs.Begun.{Begun, begun, one_rule, context, rules_of, spelled_member, rules_stand, member_row, not_spelled, false_spelled, spelled_false}
use Rattle.fault_checks.specs.declared.walk.Walk.{Walk}
use Rattle.fault_checks.specs.declared.walk.Step.{Step}
use Rattle.fault_checks.specs.declared.walk.Step.TheVariants.{Answered, On, Named}
use Rattle.fault_paths.specs.Texts.{text_left}
use Rattle.fault_checks.specs.Steps.{Outcome, IsLeft, Passes, PassesAs, PassesBy}
use Rattle.fault_checks.specs.Names.{bears}
use Rattle.fault_checks.specs.Scenes.{Scene, reading_of, IsRight, Meets, IsStraight, Stage}
use Rattle.fault_checks.specs.Circles.{ComesBackBy, keyword_row, WalkComesBack}
use Rattle.fault_checks.specs.Verdicts.{SomeRefusesAt, rules_by, IsRefusalAt}
use Rattle.fault_checks.proofs.RefusedNames.{listed_found, found_listed}
use Rattle.fault_checks.proofs.Right.{right_read, no_cause}
use Rattle.fault_paths.proofs.ItemFacts.{some_one}
use Rattle.fault_paths.proofs.TextFacts.{rest_left, no_part}
use Rattle.fault_checks.proofs.Going.{name_text, one_begun}
use Rattle.fault_checks.proofs.OwnNames.{IsOwn, own_named, named_own, are_named}

in_map : {A B : Type 0} (f : A → B) (x : A) (xs : List A) → In x xs → In (f x) (map f xs)
in_map f x [] i = elim i [ ]
in_map f x (y ∷ xs) first = first
in_map f x (y ∷ xs) (later i) = later (in_map f x xs i)

-- nothing is wrong with a row of a schema that is right
row_right : (x : Scene) (s : Site) (row : Row) → IsRight x s → In row (rows_at x.documents x.makes s) → row.causes ≡ []
row_right x s row right stands = (right_read x s right).right s at_root row stands

-- ---- one step behind another

pub outcome_through : (x : Scene) (s t : Site) (d e : Data) (P Q : Type 0) (step : Step)
    → (IsCircular (reading_of x) t (whole e) → IsCircular (reading_of x) s (whole d)) → (P → Q) → (Q → P) → Outcome x t e Q step → Outcome x s d P step
outcome_through x s t d e P Q (Answered true) back to from o = from o
outcome_through x s t d e P Q (Answered false) back to from o = λ p. o (to p)
outcome_through x s t d e P Q (On w) back to from o =
    record { site = o.site; meets = o.meets; back = λ c. back (o.back c); to = λ p. o.to (to p); from = λ u. from (o.from u) }
outcome_through x s t d e P Q (Named n) back to from o =
    record { site = o.site; meets = o.meets; right = o.right; back = λ k i c. back (o.back k i c); to = λ p. o.to (to p); from = λ u. from (o.from u) }

pub passes_on : (w v : Walk) (step : Step) → Passes w (On v) → Passes v step → Passes w step
passes_on w v step p q = record {
  outcome = λ x s meets straight.
      let g = p.outcome x s meets straight in
      outcome_through x s g.site (view w.value.now) (view v.value.now) (IsLeft x w s) (IsLeft x v g.site) step g.back g.to g.from (q.outcome x g.site g.meets (λ c. straight (g.back c)));
}

pub passes_first : (w : Walk) → Passes w (On w)
passes_first w = record { outcome = λ x s meets straight. record { site = s; meets = meets; back = λ c. c; to = λ p. p; from = λ u. u } }

-- ---- the shape by whose rule a certificate begins

pub begun_among : (x : Scene) (d : Data) (shapes : List (Shape Site)) (P : Shape Site → Type 0) → ((shape : Shape Site) → P shape → (k : List ℕ) × Bears k shape) → AllByRecursion P shapes
    → (i e : List ℕ) → AreSpelledBy (reading_of x) d (map (rule x.matches d) shapes) i e → (shape : Shape Site) × In shape shapes × P shape × Begun (reading_of x) d shape e
begun_among x d shapes P named each i e h =
    let one = one_rule (reading_of x) d _ i e h in
    let shape = in_mapped (rule x.matches d) shapes one.1 in
    let holds = each_in P shapes each shape.0 shape.1 in
    let alone = one.2 (rule x.matches d shape.0 ∷ []) (subst (λ r. In r (rule x.matches d shape.0 ∷ [])) shape.2 first) in
    let bears_some = named shape.0 holds in
    (shape.0, shape.1, holds, begun (reading_of x) d bears_some.0 shape.0 bears_some.1 i e alone)

-- ---- nothing is left of the evaluation path

module _ (x : Scene) (s : Site) (d : Data) where
  abbrev of_draft_4 : Bool
  of_draft_4 = is_draft_4 s.dialect.draft

  -- the shape by whose rule a member's certificate begins, and the name under which it refuses
  under : (ms : Members) (k : List ℕ) (v : Data) (i e : List ℕ) → AreSpelledBy (reading_of x) d (rules_of x.documents x.makes x.matches s ms d k v) i e
      → (shape : Shape Site) × In shape (row_at (context x.documents x.makes x.matches s ms) k v).shapes × IsUnder of_draft_4 k shape × Begun (reading_of x) d shape e
  under ms k v i e h =
      begun_among x d (row_at (context x.documents x.makes x.matches s ms) k v).shapes (IsUnder of_draft_4 k) (λ shape u. (u.name, u.named)) (shapes_are_under (context x.documents x.makes x.matches s ms) k v) i e h

  ends_false : (i e : List ℕ) → e ≡ [] → AreSpelled (reading_of x) s d i e → (c : Data) → s.contents ≡ c → (c ≡ boolean false) × (i ≡ [])
  ends_false i e none h null is = absurd (not_spelled x.documents x.makes x.matches s null d i e is refl h)
  ends_false i e none h (boolean true) is = absurd (not_spelled x.documents x.makes x.matches s (boolean true) d i e is refl h)
  ends_false i e none h (boolean false) is = (refl, (false_spelled x.documents x.makes x.matches s d i e is h).0)
  ends_false i e none h (number n) is = absurd (not_spelled x.documents x.makes x.matches s (number n) d i e is refl h)
  ends_false i e none h (string t) is = absurd (not_spelled x.documents x.makes x.matches s (string t) d i e is refl h)
  ends_false i e none h (array ds) is = absurd (not_spelled x.documents x.makes x.matches s (array ds) d i e is refl h)
  ends_false i e none h (object ms) is =
      let m = spelled_member x.documents x.makes x.matches s ms d i e is h in
      let u = under ms m.0 m.1 i e m.3 in
      absurd (no_part 47 _ (sym u.3.text ∙ none))

  -- a part is left where there are no members
  abbrev IsObject : Data → Type 0
  IsObject c = (ms : Members) × (c ≡ object ms)

  pub needs_object : (i text : List ℕ) → AreSpelled (reading_of x) s d i (47 ∷ text) → (c : Data) → s.contents ≡ c → IsObject c
  needs_object i text h null is = absurd (not_spelled x.documents x.makes x.matches s null d i _ is refl h)
  needs_object i text h (boolean true) is = absurd (not_spelled x.documents x.makes x.matches s (boolean true) d i _ is refl h)
  needs_object i text h (boolean false) is = absurd (no_part 47 text (false_spelled x.documents x.makes x.matches s d i _ is h).1)
  needs_object i text h (number n) is = absurd (not_spelled x.documents x.makes x.matches s (number n) d i _ is refl h)
  needs_object i text h (string t) is = absurd (not_spelled x.documents x.makes x.matches s (string t) d i _ is refl h)
  needs_object i text h (array ds) is = absurd (not_spelled x.documents x.makes x.matches s (array ds) d i _ is refl h)
  needs_object i text h (object ms) is = (ms, refl)

  -- the member whose keyword refuses under the name by which the path goes on
  pub name_found : (ms : Members) (i text token : List ℕ) (after : Option (Bor (List ℕ))) → s.contents ≡ object ms → are_rising ms ≡ true
      → cuts text ≡ token ∷ cuts_behind (text_left after) → AreSpelled (reading_of x) s d i (47 ∷ text)
      → (v : Data) × (get_member (member_of of_draft_4 token) ms ≡ Some v)
      × AreSpelledBy (reading_of x) d (rules_of x.documents x.makes x.matches s ms d (member_of of_draft_4 token) v) i (47 ∷ text)
  name_found ms i text token after is rising cut h =
      let m = spelled_member x.documents x.makes x.matches s ms d i (47 ∷ text) is h in
      let u = under ms m.0 m.1 i (47 ∷ text) m.3 in
      let b = u.3 in
      let both = cut_is text token (text_left after) (escape b.name) b.rest cut (rest_left after) (escape_no_slash b.name) b.is_rest (let e : 47 ∷ text ≡ 47 ∷ (escape b.name ++ b.rest) = b.text in cc) in
      let back = u.2.back b.name b.named in
      let same : token ≡ b.name = both.0 ∙ back.plain in
      let member : m.0 ≡ member_of of_draft_4 token = sym (ap (member_of of_draft_4) same ∙ back.of_member) in (
        m.1,
        subst (λ k. get_member k ms ≡ Some m.1) member (listed_found m.0 m.1 ms rising m.2),
        subst (λ k. AreSpelledBy (reading_of x) d (rules_of x.documents x.makes x.matches s ms d k m.1) i (47 ∷ text)) member m.3,
      )

-- ---- the steps

pub ended : (w : Walk) (b : Bool) → text_left w.evaluation ≡ [] → (b ≡ true → (view w.site.contents.now ≡ boolean false) × (text_left w.instance ≡ []))
    → (view w.site.contents.now ≡ boolean false → text_left w.instance ≡ [] → b ≡ true) → Passes w (Answered b)
ended w true none holds only = record {
  outcome = λ x s meets straight.
      let h = holds refl in
      let is : s.contents ≡ boolean false = meets.stands.contents ∙ h.0 in
      subst (λ i. AreSpelled (reading_of x) s (view w.value.now) i (text_left w.evaluation)) (sym h.1)
      (subst (λ e. AreSpelled (reading_of x) s (view w.value.now) [] e) (sym none) (spelled_false x.documents x.makes x.matches s (view w.value.now) is));
}
ended w false none holds only = record {
  outcome = λ x s meets straight h.
      let f = ends_false x s (view w.value.now) (text_left w.instance) (text_left w.evaluation) none h (view w.site.contents.now) meets.stands.contents in
      true≢false (sym (only f.0 f.1));
}

module _ (w : Walk) (text : List ℕ) (is : text_left w.evaluation ≡ 47 ∷ text) where
  on_text : (x : Scene) (s : Site) → IsLeft x w s → AreSpelled (reading_of x) s (view w.value.now) (text_left w.instance) (47 ∷ text)
  on_text x s h = subst (λ e. AreSpelled (reading_of x) s (view w.value.now) (text_left w.instance) e) is h

  pub no_members : ((ms : Members) → view w.site.contents.now ≡ object ms → ⊥) → Passes w (Answered false)
  no_members none = record {
    outcome = λ x s meets straight h.
        let o = needs_object x s (view w.value.now) (text_left w.instance) text (on_text x s h) (view w.site.contents.now) meets.stands.contents in
        none o.0 o.1;
  }

  module _ (ms : Members) (token member : List ℕ) (after : Option (Bor (List ℕ))) (contents : view w.site.contents.now ≡ object ms) (rising : are_rising ms ≡ true)
      (of_member : member ≡ member_of (is_draft_4_at w.site) token) (cut : cuts text ≡ token ∷ cuts_behind (text_left after)) where
    joined : 47 ∷ text ≡ 47 ∷ (token ++ text_left after)
    joined = ap (λ t. 47 ∷ t) (cut_joined text token (text_left after) cut (rest_left after))

    found_here : (x : Scene) (s : Site) → Meets w.site x s → IsLeft x w s → (v : Data) × (get_member member ms ≡ Some v)
        × AreSpelledBy (reading_of x) (view w.value.now) (rules_of x.documents x.makes x.matches s ms (view w.value.now) member v) (text_left w.instance) (47 ∷ text)
    found_here x s meets h =
        let d = view w.value.now in
        let f = name_found x s d ms (text_left w.instance) text token after (meets.stands.contents ∙ contents) rising cut (on_text x s h) in
        let same : member_of (is_draft_4 s.dialect.draft) token ≡ member = ap (λ (y : Dialect). member_of (is_draft_4 y.draft) token) meets.stands.dialect ∙ sym of_member in (
          f.0,
          subst (λ k. get_member k ms ≡ Some f.0) same f.1,
          subst (λ k. AreSpelledBy (reading_of x) d (rules_of x.documents x.makes x.matches s ms d k f.0) (text_left w.instance) (47 ∷ text)) same f.2,
        )

    pub no_such_member : get_member member ms ≡ None → Passes w (Answered false)
    no_such_member none = record {
      outcome = λ x s meets straight h.
          let f = found_here x s meets h in
          let no : None ≡ Some f.0 = sym none ∙ f.1 in cc;
    }

    module _ (v : Data) (k : Keyword) (found : get_member member ms ≡ Some v)
        (read : (makes : List ℕ → Bool) (s : Site) → Stands w.site s → s.scope ≡ scope_of w.site.resolver → IsRowOf (context_at w.site ms makes s) member (row_at (context_at w.site ms makes s) member v) k) where
      row_here : (x : Scene) (s : Site) → Meets w.site x s → row_at (context x.documents x.makes x.matches s ms) member v ≡ row_of x.documents s k
      row_here x s meets =
          let row = row_at (context x.documents x.makes x.matches s ms) member v in
          let is : IsRowOf (context x.documents x.makes x.matches s ms) member row k =
          subst (λ (docs : Documents). IsRowOf (record { documents = docs; makes = x.makes; site = s; members = ms }) member (row_at (record { documents = docs; makes = x.makes; site = s; members = ms }) member v) k) (sym meets.documents)
          (read x.makes s meets.stands meets.scope) in
          is.made (is.right (row_right x s row meets.right (member_row x.documents x.makes x.matches s ms member v (meets.stands.contents ∙ contents) (found_listed member v ms found))))

      spelled_here : (x : Scene) (s : Site) → Meets w.site x s → IsLeft x w s
          → AreSpelledBy (reading_of x) (view w.value.now) (rules_by x s (view w.value.now) k) (text_left w.instance) (47 ∷ text)
      spelled_here x s meets h =
          let d = view w.value.now in
          let f = found_here x s meets h in
          subst (λ (r : Row). AreSpelledBy (reading_of x) d (map (rule x.matches d) r.shapes) (text_left w.instance) (47 ∷ text)) (row_here x s meets)
          (subst (λ u. AreSpelledBy (reading_of x) d (rules_of x.documents x.makes x.matches s ms d member u) (text_left w.instance) (47 ∷ text))
          (some_one (get_member member ms) f.0 v f.1 found) f.2)

      under_here : (x : Scene) (s : Site) → Meets w.site x s → AllByRecursion (IsUnder (is_draft_4 s.dialect.draft) member) (row_of x.documents s k).shapes
      under_here x s meets =
          subst (λ (r : Row). AllByRecursion (IsUnder (is_draft_4 s.dialect.draft) member) r.shapes) (row_here x s meets)
          (shapes_are_under (context x.documents x.makes x.matches s ms) member v)

      the_stage : bears k member token ≡ true → (x : Scene) (s : Site) → Meets w.site x s → IsStraight x s (view w.value.now)
          → Stage w.site (view w.value.now) token (row_of x.documents s k) x s
      the_stage same x s meets straight =
          let own = own_named (is_draft_4 s.dialect.draft) member token k x.documents s (under_here x s meets) same in
          record {
            meets = meets;
            straight = straight;
            stands = subst (λ r. In r (rows_at x.documents x.makes s)) (row_here x s meets)
                (member_row x.documents x.makes x.matches s ms member v (meets.stands.contents ∙ contents) (found_listed member v ms found));
            named = are_named token (row_of x.documents s k).shapes own;
            plain = λ shape i. (each_in (IsOwn token) (row_of x.documents s k).shapes own shape i).plain;
          }

      -- where references come back below the keyword
      pub member_back : bears k member token ≡ true → ComesBackBy w.site (view w.value.now) (keyword_row k) → WalkComesBack w
      member_back same h = record { back = λ x s meets straight. h.back x s token (the_stage same x s meets straight) }

      -- where the keyword refuses under the name
      under_name : (step : Step) → bears k member token ≡ true → PassesBy w k token after step → Passes w step
      under_name step same p = record {
        outcome = λ x s meets straight.
            let d = view w.value.now in
            let stage : Stage w.site d token (row_of x.documents s k) x s = the_stage same x s meets straight in
            let to : IsLeft x w s → AreSpelledBy (reading_of x) d (rules_by x s d k) (text_left w.instance) (47 ∷ (token ++ text_left after)) =
            λ h. subst (λ e. AreSpelledBy (reading_of x) d (rules_by x s d k) (text_left w.instance) e) joined (spelled_here x s meets h) in
            let from : AreSpelledBy (reading_of x) d (rules_by x s d k) (text_left w.instance) (47 ∷ (token ++ text_left after)) → IsLeft x w s = λ h.
            subst (λ e. AreSpelled (reading_of x) s d (text_left w.instance) e) (sym (is ∙ joined))
            (from_step (reading_of x) s d (rules_by x s d k) (text_left w.instance) (47 ∷ (token ++ text_left after))
            (rules_stand x.documents x.makes x.matches s (row_of x.documents s k) d stage.stands) h) in
            outcome_through x s s d d (IsLeft x w s) _ step (λ c. c) to from (p.outcome x s stage);
      }

      -- where it does under others alone
      under_other : bears k member token ≡ false → Passes w (Answered false)
      under_other other = record {
        outcome = λ x s meets straight h.
            let d = view w.value.now in
            let shapes = (row_of x.documents s k).shapes in
            let old = is_draft_4 s.dialect.draft in
            let u = begun_among x d shapes (IsUnder old member) (λ shape u. (u.name, u.named)) (under_here x s meets) (text_left w.instance) (47 ∷ text) (spelled_here x s meets h) in
            let b = u.3 in
            let both = cut_is text token (text_left after) (escape b.name) b.rest cut (rest_left after) (escape_no_slash b.name) b.is_rest
            (let e : 47 ∷ text ≡ 47 ∷ (escape b.name ++ b.rest) = b.text in cc) in
            let same : b.name ≡ token = sym (both.0 ∙ (u.2.back b.name b.named).plain) in
            true≢false (sym (named_own old member token k x.documents s u.0 u.1 (under_here x s meets) (subst (λ n. Bears n u.0) same b.named)) ∙ other);
      }

      pub by_member : (step : Step) → PassesAs w k token member after step → Passes w step
      by_member step p = by (bears k member token) refl
        where
          by : (b : Bool) → bears k member token ≡ b → Passes w step
          by true e = under_name step e (p.same e)
          by false e = subst (λ st. Passes w st) (sym (p.other e)) (under_other e)

    stands_there : (x : Scene) (s : Site) (v : Data) → s.contents ≡ object ms → get_member member ms ≡ Some v
        → In (row_at (context x.documents x.makes x.matches s ms) member v) (rows_at x.documents x.makes s)
    stands_there x s v there found = member_row x.documents x.makes x.matches s ms member v there (found_listed member v ms found)

    -- a member that is refused is none of a schema that is right
    refused_not : (x : Scene) (s : Site) (v : Data) (e : Refusal) → IsRight x s → s.contents ≡ object ms → get_member member ms ≡ Some v → (e ≡ refusal.Memory → ⊥)
        → Refuses (context x.documents x.makes x.matches s ms) member v (row_at (context x.documents x.makes x.matches s ms) member v) e → ⊥
    refused_not x s v (refusal.Value expected) right there found other r = no_cause x s _ _ right (stands_there x s v there found) r.stands
    refused_not x s v (refusal.Entry n expected) right there found other r = no_cause x s _ _ right (stands_there x s v there found) r.stands
    refused_not x s v (refusal.Element i expected) right there found other r = no_cause x s _ _ right (stands_there x s v there found) r.stands
    refused_not x s v (refusal.Target target) right there found other r = no_cause x s _ _ right (stands_there x s v there found) r.stands
    refused_not x s v (refusal.Reference error) right there found other r = no_cause x s _ _ right (stands_there x s v there found) r.2.stands
    refused_not x s v refusal.LeftOut right there found other r = no_cause x s _ _ right (stands_there x s v there found) r.stands
    refused_not x s v refusal.Memory right there found other r = absurd (other refl)

    pub refused_member : (v : Data) (e : Refusal) → get_member member ms ≡ Some v → (e ≡ refusal.Memory → ⊥)
        → ((makes : List ℕ → Bool) (s : Site) → Stands w.site s → s.scope ≡ scope_of w.site.resolver
        → Refuses (context_at w.site ms makes s) member v (row_at (context_at w.site ms makes s) member v) e) → Passes w (Answered false)
    refused_member v e found other r = record {
      outcome = λ x s meets straight h.
          refused_not x s v e meets.right (meets.stands.contents ∙ contents) found other
          (subst (λ (docs : Documents). Refuses (record { documents = docs; makes = x.makes; site = s; members = ms }) member v (row_at (record { documents = docs; makes = x.makes; site = s; members = ms }) member v) e)
          (sym meets.documents) (r x.makes s meets.stands meets.scope));
    }

-- ---- the last keyword

by_refuses : (x : Scene) (d : Data) (shapes : List (Shape Site)) (n : List ℕ) (after : Option (Bor (List ℕ))) (i : List ℕ) → AllByRecursion (Bears n) shapes
    → ((shape : Shape Site) → In shape shapes → escape n ≡ n) → AreSpelledBy (reading_of x) d (map (rule x.matches d) shapes) i (47 ∷ (n ++ text_left after))
    → SomeRefusesAt n (reading_of x) d (map (rule x.matches d) shapes)
by_refuses x d shapes n after i named plain h =
    let u = begun_among x d shapes (Bears n) (λ shape g. (n, g)) named i _ h in
    let b = u.3 in
    let same : n ≡ b.name = (one_begun n b.name b.rest after (plain u.0 u.1) b.is_rest b.text).0 in
    (rule x.matches d u.0, b.answers, in_map (rule x.matches d) u.0 shapes u.1, b.are, b.wrong, b.under ∙ ap at (sym same))

pub last_passes : (w : Walk) (k : Keyword) (n : List ℕ) (after : Option (Bor (List ℕ))) (b : Bool) → text_left w.instance ≡ [] → text_left after ≡ []
    → IsRefusalAt w.site (view w.value.now) k n b → PassesBy w k n after (Answered b)
last_passes w k n after true at_i on_e h = record {
  outcome = λ x s stage.
      let d = view w.value.now in
      let f = h.decides x s stage in
      let shape = in_mapped (rule x.matches d) (row_of x.documents s k).shapes f.2 in
      refuses f.0 f.1 f.2 f.3 f.4 at_i
      (ap (λ t. 47 ∷ (n ++ t)) on_e ∙ ap (λ t. 47 ∷ t) (append-nil n) ∙ sym (ap path_text f.5 ∙ name_text n n refl (stage.plain shape.0 shape.1)));
}
last_passes w k n after false at_i on_e h = record {
  outcome = λ x s stage p. h.decides x s stage (by_refuses x (view w.value.now) (row_of x.documents s k).shapes n after (text_left w.instance) stage.named stage.plain p);
}
