-- Lists of errors walked side by side.
use Rattle.std.proofs.Common.{◌≡◌, ℕ, zero, suc, ◌<◌, ◌&&◌, List, [], ◌∷◌, length, get_or, Bool, true, false, refl, ap, ◌∙◌, arith}
use Rattle.std.specs.declared.alloc.Global.{Global}
use Rattle.std.specs.declared.vec.Vec.{Vec}
use Rattle.schema_meaning.specs.Faults.{Kind, AnyOf, Branches, no_branch}
use Rattle.schema_reports.proofs.KindLemmas.{kind-AnyOf}
use Rattle.schema_reports.specs.Contexts.{branches_of}
use Rattle.schema_reports.specs.Kinds.{context_branches}
use Rattle.schema_reports.specs.Told.{fault_of, faults_of, branches_in}
use Rattle.schema_reports.specs.declared.context.ErrorContext.{ErrorContext}
use Rattle.schema_reports.specs.declared.error.ValidationError.{ValidationError}
use Rattle.error_kinds.specs.Faults.{same_fault, same_faults, same_branches}
use Rattle.error_kinds.specs.Sizes.{fault_size, faults_size, branches_size}

after : (b c : Bool) → c ≡ false → (b && c) ≡ false
after true c e = e
after false c e = refl

-- lists of other lengths
pub other_errors : (es ds : List ValidationError) → (length es ≡ length ds → ⊥) → same_faults (faults_of es) (faults_of ds) ≡ false
other_errors [] [] h = absurd (h refl)
other_errors [] (d ∷ ds) h = refl
other_errors (e ∷ es) [] h = refl
other_errors (e ∷ es) (d ∷ ds) h = after (same_fault (fault_of e) (fault_of d)) (same_faults (faults_of es) (faults_of ds)) (other_errors es ds (λ s. h (ap suc s)))

pub other_branches : (bs cs : List (Vec ValidationError Global)) → (length bs ≡ length cs → ⊥) → same_branches (branches_in bs) (branches_in cs) ≡ false
other_branches [] [] h = absurd (h refl)
other_branches [] (c ∷ cs) h = refl
other_branches (b ∷ bs) [] h = refl
other_branches (b ∷ bs) (c ∷ cs) h =
    after (same_faults (faults_of b.items) (faults_of c.items)) (same_branches (branches_in bs) (branches_in cs)) (other_branches bs cs (λ s. h (ap suc s)))

-- ---- what is inside is smaller

pub error_below : (es : List ValidationError) (i : ℕ) (e : ValidationError) → i < length es → e ≡ get_or es i e → fault_size (fault_of e) < faults_size (faults_of es)
error_below [] i e h is = absurd (omega arith)
error_below (d ∷ ds) zero e h is =
    let same : fault_size (fault_of e) ≡ fault_size (fault_of d) = ap (λ x. fault_size (fault_of x)) is in
    omega arith
error_below (d ∷ ds) (suc i) e h is =
    let later = error_below ds i e (omega arith) is in
    omega arith

pub errors_below : (bs : List (Vec ValidationError Global)) (i : ℕ) (b : Vec ValidationError Global) (es : List ValidationError)
    → i < length bs → b ≡ get_or bs i b → es ≡ b.items → faults_size (faults_of es) < branches_size (branches_in bs)
errors_below [] i b es h is all = absurd (omega arith)
errors_below (c ∷ cs) zero b es h is all =
    let same : faults_size (faults_of es) ≡ faults_size (faults_of c.items) =
    ap (λ ds. faults_size (faults_of ds)) all ∙ ap (λ (x : Vec ValidationError Global). faults_size (faults_of x.items)) is in
    omega arith
errors_below (c ∷ cs) (suc i) b es h is all =
    let later = errors_below cs i b es (omega arith) is all in
    omega arith

-- ---- the errors of branches

abbrev branches_carried : Kind → Branches
branches_carried (AnyOf bs) = bs
branches_carried k = no_branch

pub context_is : (context : ErrorContext) → context_branches context ≡ branches_in (branches_of context)
context_is context = ap branches_carried (kind-AnyOf context)
