-- What is written behind a text.
use Rattle.std.proofs.Common.{◌≡◌, ◌∙◌, ℕ, List, ◌++◌, Result, Ok, Err, OnOk, is_ok, if◌then◌else◌, sym, ap, subst, append_assoc}
use Rattle.line_runs.specs.declared.form.LineForm.{LineForm}

module _ {T E : Type 0} (Tell : List ℕ → Type 0) (old new : List ℕ) where
  pub told_on : (r : Result T E) (t : List ℕ) → Tell t → OnOk r (new ≡ old ++ t) → OnOk r ((written : List ℕ) × Tell written × (new ≡ old ++ written))
  told_on (Ok x) t h e = (t, h, e)
  told_on (Err e) t h x = tt

  pub pushed_on : (r : Result T E) (t : List ℕ) → Tell t → new ≡ (if is_ok r then old ++ t else old) → OnOk r ((written : List ℕ) × Tell written × (new ≡ old ++ written))
  pushed_on (Ok x) t h e = (t, h, e)
  pushed_on (Err e) t h x = tt

  pub told_so : (r : Result T E) {X : Type 0} (P : X → Type 0) (text : X → List ℕ) → ((x : X) → P x → Tell (text x))
      → OnOk r ((x : X) × P x × (new ≡ old ++ text x)) → OnOk r ((written : List ℕ) × Tell written × (new ≡ old ++ written))
  told_so (Ok r) P text so h = (text h.0, so h.0 h.1, h.2)
  told_so (Err e) P text so h = tt

-- in a form that is another
pub in_form : {T E : Type 0} (Told : LineForm → List ℕ → Type 0) (f g : LineForm) (r : Result T E) (old new : List ℕ) → f ≡ g → OnOk r ((written : List ℕ) × Told g written × (new ≡ old ++ written))
    → OnOk r ((written : List ℕ) × Told f written × (new ≡ old ++ written))
in_form Told f g r old new e h = subst (λ (k : LineForm). OnOk r ((written : List ℕ) × Told k written × (new ≡ old ++ written))) (sym e) h

-- with an end behind it
pub ended_on : (old text end : List ℕ) {middle new pushed : List ℕ} → middle ≡ old ++ text → new ≡ middle ++ pushed → pushed ≡ end → new ≡ old ++ (text ++ end)
ended_on old text end {middle = middle} e f h = f ∙ ap (λ t. middle ++ t) h ∙ ap (λ t. t ++ end) e ∙ append_assoc old text end
