-- The one fault of a keyword that has one for all of its questions.
use Rattle.std.proofs.Common.{◌≡◌, ◌≤◌, ◌∙◌, ◌++◌, ℕ, List, true, Option, map, refl, sym, ap, ap₂, subst}
use Rattle.std.specs.declared.alloc.Global.{Global}
use Rattle.std.specs.declared.vec.Vec.{Vec}
use Rattle.serde_json.specs.Data.{Data}
use Rattle.serde_json.specs.View.{view}
use Rattle.json_values.specs.Parts.{Part}
use Rattle.schema_meaning.specs.Members.{count_true}
use Rattle.schema_meaning.specs.Faults as told
use Rattle.schema_meaning.specs.Questions.{at}
use Rattle.schema_meaning.specs.Rules.{Rule, every, together, each_named, some_branch, one_branch, refusal, counted, conditional, Note, asks, own_fault, verdicts_of, count_refused_at, one_of_kind}
use Rattle.schema_meaning.specs.Readings.{Reading}
use Rattle.schema_reports.specs.Kinds.{StandsFor}
use Rattle.location_texts.specs.Locations.{location_of}
use Rattle.schema_reports.specs.Told.{AreBranches}
use Rattle.schema_reports.specs.declared.error.ValidationError.{ValidationError}
use Rattle.schema_reports.specs.declared.kind.ValidationErrorKind.{ValidationErrorKind}
use Rattle.schema_reports.specs.declared.observer.Observer.{Observer}
use Rattle.schema_engine.specs.declared.combination.Combination.{Combination}
use Rattle.schema_engine.specs.declared.combination.Combination.TheVariants as combination
use Rattle.schema_engine.specs.declared.place.Question as code
use Rattle.schema_engine.specs.declared.reason.Reason.{Reason}
use Rattle.schema_engine.specs.declared.situation.Situation.{Situation}
use Rattle.schema_engine.specs.Hearing.{HearsMore}
use Rattle.schema_engine.specs.Refusals.{has_one_fault, refused_at, refused, IsRefusedUnder, IsReason}
use Rattle.schema_engine.specs.Rules.{combination_of}
use Rattle.schema_engine.specs.Situations.{spot_in, TellsOf}
use Rattle.schema_engine.specs.Places.{value_at}
use Rattle.schema_engine.specs.Questions.{call_of}
use Rattle.schema_engine.specs.Verdicts.{Setting, Counts, asked_in}
use Rattle.engine_faults.specs.Faults.{Stand, IsAt, Hearing, AreAsked, AreErrorsOf, asked_faults, question_faults, one_told}
use Rattle.schema_engine.proofs.HearsLemmas.{hears_same}
use Rattle.engine_faults.proofs.RuleFaults.{asked_answers, count_agrees}

-- a keyword's name, the kind and the value are those of the rule's fault
pub record Refuses (k : Rule ℕ) (d : Data) (answers : List told.Faults) (name : List ℕ) (kind : ValidationErrorKind) (value : Data) : Type 0 where
  pub under : at name ≡ refused_at k (count_true (verdicts_of answers))
  pub stands : StandsFor kind (refused k d answers).kind
  pub at_fault : value ≡ (refused k d answers).value

abbrev Branched : List (Vec ValidationError Global) → List told.Faults → Type 0
Branched context answers = AreBranches context (told.branches_of answers)

module _ (d : Data) (answers : List told.Faults) (name : List ℕ) where
  pub some_refuses : (k : Rule ℕ) (context : List (Vec ValidationError Global)) (kind : ValidationErrorKind) → combination_of k ≡ combination.SomeBranch → IsRefusedUnder k 0 name
      → ((branches : told.Branches) → AreBranches context branches → StandsFor kind (told.AnyOf branches)) → AreBranches context (told.branches_of answers) → Refuses k d answers name kind d
  some_refuses (some_branch p qs) context kind e under stands branches = record { under = sym under; stands = stands _ branches; at_fault = refl }
  some_refuses k context kind e under stands branches = absurd (cc)

  pub one_refuses : (k : Rule ℕ) (n : ℕ) (context : List (Vec ValidationError Global)) (kind : ValidationErrorKind) → combination_of k ≡ combination.OneBranch → IsRefusedUnder k 0 name
      → n ≡ count_true (verdicts_of answers) → ((branches : told.Branches) → AreBranches context branches → StandsFor kind (one_of_kind n branches))
      → AreBranches context (told.branches_of answers) → Refuses k d answers name kind d
  one_refuses (one_branch p qs) n context kind e under is stands branches = record {
    under = sym under;
    stands = subst (λ m. StandsFor kind (one_of_kind m (told.branches_of answers))) is (stands (told.branches_of answers) branches);
    at_fault = refl;
  }
  one_refuses k n context kind e under is stands branches = absurd (cc)

  pub counted_refuses : (k : Rule ℕ) (n : ℕ) (least : ℕ) (most : Option ℕ) (kind : ValidationErrorKind) → combination_of k ≡ combination.Counted least most → IsRefusedUnder k n name
      → n ≡ count_true (verdicts_of answers) → StandsFor kind told.Contains → Refuses k d answers name kind d
  counted_refuses (counted l m qs) n least most kind e under is stands = record {
    under = ap at (sym under) ∙ ap (λ c. at (count_refused_at l m c)) is;
    stands = stands;
    at_fault = refl;
  }
  counted_refuses k n least most kind e under is stands = absurd (cc)

  pub reason_refuses : (k : Rule ℕ) (c : Combination) (r : Reason) → c ≡ combination_of k → has_one_fault c ≡ true → (c ≡ combination.SomeBranch → ⊥) → (c ≡ combination.OneBranch → ⊥)
      → ((least : ℕ) (most : Option ℕ) → c ≡ combination.Counted least most → ⊥) → IsRefusedUnder k 0 name → IsReason k d r → Refuses k d answers name r.kind (view r.value.now)
  reason_refuses (every p notes qs) c r e once not_some not_one not_counted under says = absurd (let h : has_one_fault combination.Every ≡ true = ap has_one_fault (sym e) ∙ once in cc)
  reason_refuses (together p note qs) c r e once not_some not_one not_counted under says = record { under = sym under; stands = says.kind; at_fault = says.value }
  reason_refuses (each_named p s names) c r e once not_some not_one not_counted under says = absurd (let h : has_one_fault combination.EachNamed ≡ true = ap has_one_fault (sym e) ∙ once in cc)
  reason_refuses (some_branch p qs) c r e once not_some not_one not_counted under says = absurd (not_some e)
  reason_refuses (one_branch p qs) c r e once not_some not_one not_counted under says = absurd (not_one e)
  reason_refuses (refusal p schema q) c r e once not_some not_one not_counted under says = record { under = sym under; stands = says.kind; at_fault = says.value }
  reason_refuses (counted l m qs) c r e once not_some not_one not_counted under says = absurd (not_counted _ _ e)
  reason_refuses (conditional q cs) c r e once not_some not_one not_counted under says = absurd (let h : has_one_fault combination.Conditional ≡ true = ap has_one_fault (sym e) ∙ once in cc)

-- a rule that does not count refuses under one name, whatever the answers
refused_alike : (k : Rule ℕ) (c : Combination) (name : List ℕ) (n : ℕ) → c ≡ combination_of k → has_one_fault c ≡ true → ((least : ℕ) (most : Option ℕ) → c ≡ combination.Counted least most → ⊥)
    → IsRefusedUnder k 0 name → at name ≡ refused_at k n
refused_alike (every p notes qs) c name n e once not_counted under = absurd (let h : has_one_fault combination.Every ≡ true = ap has_one_fault (sym e) ∙ once in cc)
refused_alike (together p note qs) c name n e once not_counted under = sym under
refused_alike (each_named p s names) c name n e once not_counted under = absurd (let h : has_one_fault combination.EachNamed ≡ true = ap has_one_fault (sym e) ∙ once in cc)
refused_alike (some_branch p qs) c name n e once not_counted under = sym under
refused_alike (one_branch p qs) c name n e once not_counted under = sym under
refused_alike (refusal p schema q) c name n e once not_counted under = sym under
refused_alike (counted l m qs) c name n e once not_counted under = absurd (not_counted _ _ e)
refused_alike (conditional q cs) c name n e once not_counted under = absurd (let h : has_one_fault combination.Conditional ≡ true = ap has_one_fault (sym e) ∙ once in cc)

-- one fault, however its parts were come by
same_fault : (kind : told.Kind) (d e : Data) (path path' parts parts' above above' road road' : List Part) → d ≡ e → path ≡ path' → parts ≡ parts' → above ≡ above' → road ≡ road'
    → told.fault kind d path (parts ++ above) (parts ++ road) ≡ told.fault kind e path' (parts' ++ above') (parts' ++ road')
same_fault kind d e path path' parts parts' above above' road road' a b c f g =
    ap₂ (λ x y. told.fault kind x y (parts ++ above) (parts ++ road)) a b
    ∙ ap (λ p. told.fault kind e path' (p ++ above) (p ++ road)) c
    ∙ ap₂ (λ x y. told.fault kind e path' (parts' ++ x) (parts' ++ y)) f g

its_fault : (r : Reading ℕ) (n : ℕ) (k : Rule ℕ) (s : Situation) (stand : Stand) (x : Setting) (name : List ℕ) (value : Data)
    → IsAt stand x → stand.path ≡ location_of s.instance.now → stand.road ≡ location_of s.evaluation.now → s.schema.now ≡ r.schema_path n
    → value ≡ (refused k x.spot.value (map (asked_faults r x) (asks k))).value → at name ≡ refused_at k (count_true (verdicts_of (map (asked_faults r x) (asks k))))
    → told.also (own_fault (spot_in s) s.schema.now (at name) (record { kind = (refused k x.spot.value (map (asked_faults r x) (asks k))).kind; value = value })) told.none ≡ one_told r n k x
its_fault r n k s stand x name value here path road above at_fault under =
    let answers = map (asked_faults r x) (asks k) in
    let note = refused k x.spot.value answers in
    ap (λ f. told.also f told.none)
    (same_fault note.kind value note.value (location_of s.instance.now) x.spot.path (at name) (refused_at k (count_true (verdicts_of answers))) s.schema.now (r.schema_path n) (location_of s.evaluation.now) x.spot.road
    at_fault (sym (here.path ∙ path)) under above (sym (here.road ∙ road)))

pub refusal_heard : (r : Reading ℕ) (n : ℕ) (k : Rule ℕ) (s : Situation) (stand : Stand) (x : Setting) (name : List ℕ) (kind : ValidationErrorKind) (value : Data) (old new : Observer)
    → IsAt stand x → stand.path ≡ location_of s.instance.now → stand.road ≡ location_of s.evaluation.now → s.schema.now ≡ r.schema_path n
    → Refuses k x.spot.value (map (asked_faults r x) (asks k)) name kind value → TellsOf s (at name) kind value old new → HearsMore (one_told r n k x) old new
refusal_heard r n k s stand x name kind value old new here path road above refuses tells =
    let note = refused k x.spot.value (map (asked_faults r x) (asks k)) in
    hears_same (told.also (own_fault (spot_in s) s.schema.now (at name) (record { kind = note.kind; value = value })) told.none) (one_told r n k x) old new
    (its_fault r n k s stand x name value here path road above refuses.at_fault refuses.under) (tells.told note.kind refuses.stands)

-- by its paths alone
pub paths_heard : (r : Reading ℕ) (n : ℕ) (k : Rule ℕ) (s : Situation) (stand : Stand) (x : Setting) (name : List ℕ) (old new : Observer)
    → IsAt stand x → stand.path ≡ location_of s.instance.now → stand.road ≡ location_of s.evaluation.now → s.schema.now ≡ r.schema_path n
    → at name ≡ refused_at k (count_true (verdicts_of (map (asked_faults r x) (asks k))))
    → ((note : Note) → HearsMore (told.also (own_fault (spot_in s) s.schema.now (at name) note) told.none) old new) → HearsMore (one_told r n k x) old new
paths_heard r n k s stand x name old new here path road above under tells =
    let note = refused k x.spot.value (map (asked_faults r x) (asks k)) in
    hears_same (told.also (own_fault (spot_in s) s.schema.now (at name) note) told.none) (one_told r n k x) old new
    (its_fault r n k s stand x name note.value here path road above refl under) (tells note)

-- ---- it is told

module _ (r : Reading ℕ) (n : ℕ) (k : Rule ℕ) (s : Situation) (stand : Stand) (enough : ℕ) (path : stand.path ≡ location_of s.instance.now) (road : stand.road ≡ location_of s.evaluation.now) (above : s.schema.now ≡ r.schema_path n) (value : view s.value.now ≡ value_at stand.place) (added : ℕ → List Part) (xs : List code.Question) (are : AreAsked added k xs) (name : List ℕ) (old new : Observer) where
  abbrev answers_at : Setting → List told.Faults
  answers_at x = map (asked_faults r x) (asks k)

  its_value : (x : Setting) → IsAt stand x → view s.value.now ≡ x.spot.value
  its_value x at = value ∙ sym at.fits.value

  its_branches : (context : List (Vec ValidationError Global)) → AreErrorsOf stand enough (question_faults r added) xs context → (x : Setting) → IsAt stand x → enough ≤ x.depth → AreBranches context (told.branches_of (answers_at x))
  its_branches context errors x at deep =
      subst (λ fs. AreBranches context (told.branches_of fs)) (asked_answers (asked_faults r x) added k xs are) (errors.branches x at deep)

  pub some_told : (context : List (Vec ValidationError Global)) (kind : ValidationErrorKind) → combination_of k ≡ combination.SomeBranch → IsRefusedUnder k 0 name
      → ((branches : told.Branches) → AreBranches context branches → StandsFor kind (told.AnyOf branches)) → AreErrorsOf stand enough (question_faults r added) xs context
      → TellsOf s (at name) kind (view s.value.now) old new → Hearing stand enough (one_told r n k) old new
  some_told context kind e under stands errors tells = record {
    hears = λ x here deep.
        refusal_heard r n k s stand x name kind x.spot.value old new here path road above
        (some_refuses x.spot.value (answers_at x) name k context kind e under stands (its_branches context errors x here deep))
        (subst (λ v. TellsOf s (at name) kind v old new) (its_value x here) tells);
  }

  its_count : (m : ℕ) → Counts stand.place stand.progress enough (λ x. count_true (map (asked_in r x) (map call_of xs))) m → (x : Setting) → IsAt stand x → enough ≤ x.depth → m ≡ count_true (verdicts_of (answers_at x))
  its_count m counts x at deep = counts.same x at.fits deep ∙ count_agrees r x added k xs are

  pub one_branch_told : (m : ℕ) (context : List (Vec ValidationError Global)) (kind : ValidationErrorKind) → combination_of k ≡ combination.OneBranch → IsRefusedUnder k 0 name
      → Counts stand.place stand.progress enough (λ x. count_true (map (asked_in r x) (map call_of xs))) m
      → ((branches : told.Branches) → AreBranches context branches → StandsFor kind (one_of_kind m branches)) → AreErrorsOf stand enough (question_faults r added) xs context
      → TellsOf s (at name) kind (view s.value.now) old new → Hearing stand enough (one_told r n k) old new
  one_branch_told m context kind e under counts stands errors tells = record {
    hears = λ x here deep.
        refusal_heard r n k s stand x name kind x.spot.value old new here path road above
        (one_refuses x.spot.value (answers_at x) name k m context kind e under (its_count m counts x here deep) stands (its_branches context errors x here deep))
        (subst (λ v. TellsOf s (at name) kind v old new) (its_value x here) tells);
  }

  pub counted_told : (m least : ℕ) (most : Option ℕ) (kind : ValidationErrorKind) → combination_of k ≡ combination.Counted least most → IsRefusedUnder k m name
      → Counts stand.place stand.progress enough (λ x. count_true (map (asked_in r x) (map call_of xs))) m → StandsFor kind told.Contains
      → TellsOf s (at name) kind (view s.value.now) old new → Hearing stand enough (one_told r n k) old new
  counted_told m least most kind e under counts stands tells = record {
    hears = λ x here deep.
        refusal_heard r n k s stand x name kind x.spot.value old new here path road above
        (counted_refuses x.spot.value (answers_at x) name k m least most kind e under (its_count m counts x here deep) stands)
        (subst (λ v. TellsOf s (at name) kind v old new) (its_value x here) tells);
  }

  pub reason_told : (c : Combination) (reason : Reason) → c ≡ combination_of k → has_one_fault c ≡ true → (c ≡ combination.SomeBranch → ⊥) → (c ≡ combination.OneBranch → ⊥)
      → ((least : ℕ) (most : Option ℕ) → c ≡ combination.Counted least most → ⊥) → IsRefusedUnder k 0 name → IsReason k (view s.value.now) reason
      → TellsOf s (at name) reason.kind (view reason.value.now) old new → Hearing stand enough (one_told r n k) old new
  reason_told c reason e once not_some not_one not_counted under says tells = record {
    hears = λ x here deep.
        refusal_heard r n k s stand x name reason.kind (view reason.value.now) old new here path road above
        (reason_refuses x.spot.value (answers_at x) name k c reason e once not_some not_one not_counted under (subst (λ d. IsReason k d reason) (its_value x here) says)) tells;
  }

  pub paths_told : (c : Combination) → c ≡ combination_of k → has_one_fault c ≡ true → ((least : ℕ) (most : Option ℕ) → c ≡ combination.Counted least most → ⊥) → IsRefusedUnder k 0 name
      → ((note : Note) → HearsMore (told.also (own_fault (spot_in s) s.schema.now (at name) note) told.none) old new) → Hearing stand enough (one_told r n k) old new
  paths_told c e once not_counted under tells = record {
    hears = λ x here deep. paths_heard r n k s stand x name old new here path road above (refused_alike k c name _ e once not_counted under) tells;
  }
