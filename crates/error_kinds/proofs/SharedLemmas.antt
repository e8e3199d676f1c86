-- What a filter keeps of errors.
use Rattle.std.proofs.Common.{◌≡◌, ◌⊎◌, inl, inr, ◌||◌, List, [], ◌∷◌, Bool, true, false, cond, refl, sym, ap, ◌∙◌, subst}
use Rattle.std.specs.Cmp.{first_so, second_so}
use Rattle.std.specs.List.{filter, list_any}
use Rattle.std.proofs.lemmas.Bool.{false≢true, or_right}
use Rattle.json_values.proofs.Names.{both}
use Rattle.schema_meaning.specs.Faults.{Fault, Faults, none, also, Told, told_first, told_later}
use Rattle.schema_reports.specs.Told.{fault_of, faults_of, error_is_proper, are_proper}
use Rattle.schema_reports.specs.declared.error.ValidationError.{ValidationError}
use Rattle.error_kinds.specs.Faults.{same_fault}
use Rattle.error_kinds.specs.Floats.{fault_has_float}
use Rattle.error_kinds.proofs.FaultLaws.{fault_sound, fault_itself}

-- the first of them, or one behind it
told_or : {f g : Fault} {fs : Faults} → Told f (also g fs) → (f ≡ g) ⊎ Told f fs
told_or told_first = inl refl
told_or (told_later t) = inr t

told_here : (f g : Fault) (fs : Faults) → f ≡ g → Told f (also g fs)
told_here f g fs same = subst (λ h. Told f (also h fs)) same told_first

none_told : {A : Type 0} (f : Fault) → Told f none → A
none_told f t = elim t [ ]

-- ---- a test, and the errors that pass it

pub kept_told : (test : ValidationError → Bool) (es : List ValidationError) (f : Fault) → Told f (faults_of (filter test es)) → Told f (faults_of es)
kept_told test [] f t = t
kept_told test (e ∷ es) f t = by (λ r. kept_told test es f r) (test e) t
  where
    by : (Told f (faults_of (filter test es)) → Told f (faults_of es))
        → (b : Bool) → Told f (faults_of (cond b (e ∷ filter test es) (filter test es))) → Told f (faults_of (e ∷ es))
    by more true t = elim (told_or t) [ inl same ↦ told_here f (fault_of e) (faults_of es) same | inr rest ↦ told_later (more rest) ]
    by more false t = told_later (more t)

-- an error that passes and tells the fault
abbrev Passes : (ValidationError → Bool) → Fault → Type 0
Passes test f = (e : ValidationError) × (test e ≡ true) × (f ≡ fault_of e)

passing : (test : ValidationError → Bool) (es : List ValidationError) (f : Fault) → Told f (faults_of (filter test es)) → Passes test f
passing test [] f t = none_told f t
passing test (e ∷ es) f t = by (λ r. passing test es f r) (test e) refl t
  where
    by : (Told f (faults_of (filter test es)) → Passes test f) → (b : Bool) → test e ≡ b → Told f (faults_of (cond b (e ∷ filter test es) (filter test es))) → Passes test f
    by more true h t = elim (told_or t) [ inl same ↦ (e, h, same) | inr rest ↦ more rest ]
    by more false h t = more t

kept_back : (test : ValidationError → Bool) (es : List ValidationError) (f : Fault) → ((e : ValidationError) → f ≡ fault_of e → test e ≡ true)
    → Told f (faults_of es) → Told f (faults_of (filter test es))
kept_back test [] f passes t = t
kept_back test (e ∷ es) f passes t =
    elim (told_or t) [
      | inl same ↦ subst (λ b. Told f (faults_of (cond b (e ∷ filter test es) (filter test es)))) (sym (passes e same)) (told_here f (fault_of e) (faults_of (filter test es)) same)
      | inr rest ↦ by (test e) (kept_back test es f passes rest)
    ]
  where
    by : (b : Bool) → Told f (faults_of (filter test es)) → Told f (faults_of (cond b (e ∷ filter test es) (filter test es)))
    by true t = told_later t
    by false t = t

pub kept_proper : (test : ValidationError → Bool) (es : List ValidationError) → are_proper es ≡ true → are_proper (filter test es) ≡ true
kept_proper test [] h = h
kept_proper test (e ∷ es) h = by (kept_proper test es (second_so (error_is_proper e) (are_proper es) h)) (test e)
  where
    by : are_proper (filter test es) ≡ true → (b : Bool) → are_proper (cond b (e ∷ filter test es) (filter test es)) ≡ true
    by more true = both (error_is_proper e) (are_proper (filter test es)) (first_so (error_is_proper e) (are_proper es) h) more
    by more false = more

-- ---- errors that are the same as one of others

abbrev pub is_among : List ValidationError → ValidationError → Bool
is_among others e = list_any (λ d. same_fault (fault_of e) (fault_of d)) others

any_told : (f : Fault) (others : List ValidationError) → list_any (λ d. same_fault f (fault_of d)) others ≡ true → Told f (faults_of others)
any_told f [] h = absurd (false≢true h)
any_told f (d ∷ ds) h = by (λ r. any_told f ds r) (same_fault f (fault_of d)) refl h
  where
    by : (list_any (λ e. same_fault f (fault_of e)) ds ≡ true → Told f (faults_of ds))
        → (b : Bool) → same_fault f (fault_of d) ≡ b → (b || list_any (λ e. same_fault f (fault_of e)) ds) ≡ true → Told f (faults_of (d ∷ ds))
    by more true k h = told_here f (fault_of d) (faults_of ds) (fault_sound f (fault_of d) k)
    by more false k h = told_later (more h)

told_any : (f : Fault) → fault_has_float f ≡ false → (others : List ValidationError) → Told f (faults_of others)
    → list_any (λ d. same_fault f (fault_of d)) others ≡ true
told_any f whole [] t = none_told f t
told_any f whole (d ∷ ds) t =
    elim (told_or t) [
      | inl same ↦ ap (λ b. b || list_any (λ e. same_fault f (fault_of e)) ds) (ap (same_fault f) (sym same) ∙ fault_itself f whole)
      | inr rest ↦ or_right (same_fault f (fault_of d)) (list_any (λ e. same_fault f (fault_of e)) ds) (told_any f whole ds rest)
    ]

pub shared_told : (others es : List ValidationError) (f : Fault) → Told f (faults_of (filter (is_among others) es)) → Told f (faults_of others)
shared_told others es f t =
    let (e, so, same) = passing (is_among others) es f t in
    any_told f others (ap (λ g. list_any (λ d. same_fault g (fault_of d)) others) same ∙ so)

pub told_shared : (others es : List ValidationError) (f : Fault) → fault_has_float f ≡ false → Told f (faults_of es) → Told f (faults_of others)
    → Told f (faults_of (filter (is_among others) es))
told_shared others es f whole here there =
    kept_back (is_among others) es f
    (λ e same. ap (λ g. list_any (λ d. same_fault g (fault_of d)) others) (sym same) ∙ told_any f whole others there) here
