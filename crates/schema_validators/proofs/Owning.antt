-- Errors that own their values, one after another.
use Rattle.std.proofs.Common.{◌≡◌, ◌∙◌, List, [], ◌∷◌, ◌++◌, ◌&&◌, Bool, ap, ap₂, subst, sym, append_assoc}
use Rattle.schema_meaning.specs.Faults.{Faults, also}
use Rattle.schema_reports.specs.Told.{fault_of, faults_of, error_is_proper, are_proper}
use Rattle.schema_reports.specs.declared.error.ValidationError.{ValidationError}

-- the same faults, and values such as their keywords have in the same
abbrev pub SayTheSame : List ValidationError → List ValidationError → Type 0
SayTheSame es others = (faults_of es ≡ faults_of others) × (are_proper es ≡ are_proper others)

faults_kept : (es after : List ValidationError) (e o : ValidationError) → fault_of o ≡ fault_of e → faults_of (es ++ o ∷ after) ≡ faults_of (es ++ e ∷ after)
faults_kept [] after e o h = ap (λ f. also f (faults_of after)) h
faults_kept (x ∷ es) after e o h = ap (λ fs. also (fault_of x) fs) (faults_kept es after e o h)

proper_kept : (es after : List ValidationError) (e o : ValidationError) → error_is_proper o ≡ error_is_proper e → are_proper (es ++ o ∷ after) ≡ are_proper (es ++ e ∷ after)
proper_kept [] after e o h = ap (λ b. b && are_proper after) h
proper_kept (x ∷ es) after e o h = ap (λ b. error_is_proper x && b) (proper_kept es after e o h)

-- one error more is owned, and those behind it are still to come
pub owned_on : (es newer left after all : List ValidationError) (e o : ValidationError) → left ≡ e ∷ after → newer ≡ es ++ o ∷ []
    → fault_of o ≡ fault_of e → error_is_proper o ≡ error_is_proper e → SayTheSame (es ++ left) all → SayTheSame (newer ++ after) all
owned_on es newer left after all e o is longer told proper before =
    let there : newer ++ after ≡ es ++ o ∷ after = ap (λ l. l ++ after) longer ∙ append_assoc es (o ∷ []) after in
    let was : SayTheSame (es ++ e ∷ after) all = subst (λ l. SayTheSame (es ++ l) all) is before in
    (ap faults_of there ∙ faults_kept es after e o told ∙ was.0, ap are_proper there ∙ proper_kept es after e o proper ∙ was.1)
