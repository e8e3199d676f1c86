-- What the questions of a keyword tell, one after another.
use Rattle.std.proofs.Common.{◌≡◌, ◌<◌, ◌≤◌, ◌+◌, ◌++◌, ◌∙◌, ℕ, List, [], ◌∷◌, Bool, true, false, map, drop, length, get_or, refl, sym, ap, ap₂}
use Rattle.std.specs.declared.alloc.Global.{Global}
use Rattle.std.specs.declared.vec.Vec.{Vec}
use Rattle.std.proofs.lemmas.List.{drop_more, drop_all}
use Rattle.serde_json.specs.Data.{Data}
use Rattle.json_values.specs.Parts.{Part}
use Rattle.schema_meaning.specs.Places.{Spot}
use Rattle.schema_meaning.specs.Faults.{fault, Faults, none, also, joined, join, branch, branches_of}
use Rattle.schema_meaning.specs.Rules.{of_object, each_of_object}
use Rattle.schema_reports.specs.Observers.{Hears}
use Rattle.schema_reports.specs.Told.{faults_of, branches_in, context_is_proper, spot_of, AreAll}
use Rattle.schema_reports.specs.declared.error.ValidationError.{ValidationError}
use Rattle.schema_reports.specs.declared.observer.Observation.{Observation}
use Rattle.schema_reports.specs.declared.observer.Observation.TheVariants as kept
use Rattle.schema_reports.specs.declared.observer.Observer.{Observer}
use Rattle.schema_reports.proofs.FaultLemmas.{context_longer, object-joined}
use Rattle.schema_engine.specs.declared.place.Question as code
use Rattle.schema_engine.specs.Places.{value_at}
use Rattle.schema_engine.specs.Verdicts.{Setting}
use Rattle.engine_faults.specs.Faults.{Stand, IsAt, Hearing, AreErrorsOf, faults_if, faults_beside, faults_of_object}
use Rattle.schema_engine.proofs.HearsLemmas.{hears_same, hears_absorbed}
use Rattle.engine_faults.proofs.ToTell.{ToTell, told_one, told_no_more, none_to_tell}

next : (qs : List code.Question) (i : ℕ) (q : code.Question) → i < length qs → q ≡ get_or qs i q → drop i qs ≡ q ∷ drop (i + 1) qs
next qs i q high is = drop_more qs i q high ∙ ap (λ y. y ∷ drop (i + 1) qs) (sym is)

module _ (s : Stand) (enough : ℕ) (ask : Setting → code.Question → Faults) (all qs : List code.Question) (i : ℕ) where
  -- ---- those beside an answer

  module _ (beside : Bool) where
    abbrev beside_told : List code.Question → Setting → Faults
    beside_told rest x = faults_beside (ask x) beside rest

    if_beside : (b c : Bool) (fs gs : Faults) → b ≡ c → faults_if b c fs gs ≡ joined fs gs
    if_beside true true fs gs e = refl
    if_beside true false fs gs e = absurd (cc)
    if_beside false true fs gs e = absurd (cc)
    if_beside false false fs gs e = refl

    not_beside : (b c : Bool) (fs gs : Faults) → (b ≡ c → ⊥) → faults_if b c fs gs ≡ gs
    not_beside true true fs gs e = absurd (e refl)
    not_beside true false fs gs e = refl
    not_beside false true fs gs e = refl
    not_beside false false fs gs e = absurd (e refl)

    pub beside_next : (q : code.Question) (old now new : Observer) → i < length qs → q ≡ get_or qs i q → q.beside ≡ beside → Hearing s enough (λ x. ask x q) now new
        → ToTell s enough (beside_told all) (beside_told (drop i qs)) old now → ToTell s enough (beside_told all) (beside_told (drop (i + 1) qs)) old new
    beside_next q old now new high is same told left =
        told_one s enough (beside_told all) (beside_told (drop i qs)) (λ x. ask x q) (beside_told (drop (i + 1) qs)) old now new
        (λ x at. ap (faults_beside (ask x) beside) (next qs i q high is) ∙ if_beside q.beside beside (ask x q) (faults_beside (ask x) beside (drop (i + 1) qs)) same) told left

    pub beside_skipped : (q : code.Question) (old now : Observer) → i < length qs → q ≡ get_or qs i q → (q.beside ≡ beside → ⊥)
        → ToTell s enough (beside_told all) (beside_told (drop i qs)) old now → ToTell s enough (beside_told all) (beside_told (drop (i + 1) qs)) old now
    beside_skipped q old now high is other left =
        told_no_more s enough (beside_told all) (beside_told (drop i qs)) (beside_told (drop (i + 1) qs)) old now
        (λ x. ap (faults_beside (ask x) beside) (next qs i q high is) ∙ not_beside q.beside beside (ask x q) (faults_beside (ask x) beside (drop (i + 1) qs)) other) left

    pub beside_done : (old now : Observer) → length qs ≤ i → ToTell s enough (beside_told all) (beside_told (drop i qs)) old now → Hearing s enough (beside_told all) old now
    beside_done old now past left =
        none_to_tell s enough (beside_told all) (beside_told (drop i qs)) old now (λ x at. ap (faults_beside (ask x) beside) (drop_all i qs past)) left

  -- ---- of names

  abbrev named_told : List code.Question → Setting → Faults
  named_told rest x = faults_of_object (ask x) x rest

  -- by the object and its path alone
  each-same : (w : Spot) (fs : Faults) → each_of_object (spot_of w.value w.path) fs ≡ each_of_object w fs
  each-same w none = refl
  each-same w (also (fault k d i s e) fs) = ap (also (of_object w (fault k d i s e))) (each-same w fs)

  each-here : (x : Setting) (d : Data) (path : List Part) (fs : Faults) → d ≡ value_at s.place → path ≡ s.path → IsAt s x → each_of_object (spot_of d path) fs ≡ each_of_object x.spot fs
  each-here x d path fs value is at =
      ap₂ (λ e p. each_of_object (spot_of e p) fs) (value ∙ sym at.fits.value) (is ∙ sym at.path) ∙ each-same x.spot fs

  pub named_next : (q : code.Question) (d : Data) (path : List Part) (old now begun heard new : Observer) → d ≡ value_at s.place → path ≡ s.path → i < length qs → q ≡ get_or qs i q
      → ((kept : Observation) (fs : Faults) → Hears kept now fs → Hears kept begun none) → Hearing s enough (λ x. ask x q) begun heard
      → ((kept : Observation) (fs gs : Faults) → Hears kept now fs → Hears kept heard gs → Hears kept new (joined fs (each_of_object (spot_of d path) gs)))
      → ToTell s enough (named_told all) (named_told (drop i qs)) old now → ToTell s enough (named_told all) (named_told (drop (i + 1) qs)) old new
  named_next q d path old now begun heard new value is_path high is fresh told absorbs left =
      told_one s enough (named_told all) (named_told (drop i qs)) (λ x. each_of_object x.spot (ask x q)) (named_told (drop (i + 1) qs)) old now new
      (λ x at. ap (faults_of_object (ask x) x) (next qs i q high is) ∙ object-joined x.spot (ask x q) (join (map (ask x) (drop (i + 1) qs))))
      (record {
        hears = λ x at deep.
            hears_same (each_of_object (spot_of d path) (ask x q)) (each_of_object x.spot (ask x q)) now new (each-here x d path (ask x q) value is_path at)
            (hears_absorbed (each_of_object (spot_of d path)) (ask x q) now begun heard new fresh (told.hears x at deep) absorbs);
      })
      left

  pub named_done : (old now : Observer) → length qs ≤ i → ToTell s enough (named_told all) (named_told (drop i qs)) old now → Hearing s enough (named_told all) old now
  named_done old now past left =
      none_to_tell s enough (named_told all) (named_told (drop i qs)) old now (λ x at. ap (faults_of_object (ask x) x) (drop_all i qs past)) left

-- ---- the errors of branches

-- the errors of these branches, and then what is left to tell
pub record StartWith (context : List (Vec ValidationError Global)) (all left : List Faults) : Type 0 where
  pub told : all ≡ map (λ es. faults_of es.items) context ++ left
  pub proper : context_is_proper context ≡ true

pub record BranchesLeft (s : Stand) (enough : ℕ) (ask : Setting → code.Question → Faults) (all rest : List code.Question) (context : List (Vec ValidationError Global)) : Type 0 where
  pub left : (x : Setting) → IsAt s x → enough ≤ x.depth → StartWith context (map (ask x) all) (map (ask x) rest)

abbrev errors_told : List (Vec ValidationError Global) → List Faults
errors_told context = map (λ es. faults_of es.items) context

collected : (xs : List (Vec ValidationError Global)) (e : Vec ValidationError Global) (fs : Faults) (more : List Faults) → faults_of e.items ≡ fs
    → errors_told xs ++ (fs ∷ more) ≡ errors_told (xs ++ e ∷ []) ++ more
collected [] e fs more is = ap (λ gs. gs ∷ more) (sym is)
collected (y ∷ ys) e fs more is = ap (λ rest. faults_of y.items ∷ rest) (collected ys e fs more is)

told_branches : (xs : List (Vec ValidationError Global)) → branches_in xs ≡ branches_of (errors_told xs ++ [])
told_branches [] = refl
told_branches (y ∷ ys) = ap (branch (faults_of y.items)) (told_branches ys)

module _ (s : Stand) (enough : ℕ) (ask : Setting → code.Question → Faults) (all : List code.Question) where
  pub branches_next : (qs : List code.Question) (i : ℕ) (q : code.Question) (context more : List (Vec ValidationError Global)) (e : Vec ValidationError Global) (begun heard : Observer)
      → i < length qs → q ≡ get_or qs i q → Hears kept.All begun none → Hearing s enough (λ x. ask x q) begun heard
      → ((fs : Faults) → Hears kept.All heard fs → AreAll e.items fs) → more ≡ context ++ e ∷ []
      → BranchesLeft s enough ask all (drop i qs) context → BranchesLeft s enough ask all (drop (i + 1) qs) more
  branches_next qs i q context more e begun heard high is fresh told says pushed l = record {
    left = λ x at deep.
        (let before = l.left x at deep in
        let one : AreAll e.items (ask x q) = says (ask x q) ((told.hears x at deep).heard kept.All none fresh) in
        record {
          told = before.told ∙ ap (λ rest. errors_told context ++ map (ask x) rest) (next qs i q high is)
              ∙ collected context e (ask x q) (map (ask x) (drop (i + 1) qs)) one.told ∙ ap (λ es. errors_told es ++ map (ask x) (drop (i + 1) qs)) (sym pushed);
          proper = context_longer context more e pushed before.proper one.proper;
        });
  }

  pub branches_done : (qs : List code.Question) (i : ℕ) (context : List (Vec ValidationError Global)) → length qs ≤ i → BranchesLeft s enough ask all (drop i qs) context → AreErrorsOf s enough ask all context
  branches_done qs i context past l = record {
    branches = λ x at deep.
        (let left = l.left x at deep in
        record {
          told = told_branches context ∙ ap branches_of (sym (left.told ∙ ap (λ rest. errors_told context ++ map (ask x) rest) (drop_all i qs past)));
          proper = left.proper;
        });
  }
