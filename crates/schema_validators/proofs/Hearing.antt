-- What observers say once they heard some faults.
use Rattle.std.proofs.Common.{◌≡◌, List, true, Result, Ok, Err, is_ok, false, IfErr, refl, sym, ap}
use Rattle.schema_meaning.specs.Faults.{Fault, Faults, none, also, is_none, Told}
use Rattle.schema_engine.specs.Hearing.{HearsMore}
use Rattle.schema_reports.specs.Told.{fault_of, faults_of, error_is_proper, are_proper, AreAll}
use Rattle.schema_reports.specs.Stands.{all_stand}
use Rattle.schema_reports.specs.declared.error.ValidationError.{ValidationError}
use Rattle.schema_reports.specs.declared.observer.Observation.TheVariants as kept
use Rattle.schema_reports.specs.declared.observer.Observer.TheVariants as observers
use Rattle.schema_reports.specs.declared.all_faults.AllFaults.{AllFaults}
use Rattle.schema_validators.specs.Heard.{SaysOne}

told_some : (f : Fault) (fs : Faults) → Told f fs → is_none fs ≡ false
told_some f none told = elim told [ ]
told_some f (also g fs) told = refl

module _ {T : Type 0} (fs : Faults) where
  pub says_verdict : (x : Result T ValidationError) → SaysOne x fs → is_ok x ≡ is_none fs
  says_verdict (Ok y) says = sym (ap is_none says)
  says_verdict (Err e) says = sym (told_some (fault_of e) fs says.told)

  pub says_told : (x : Result T ValidationError) → SaysOne x fs → IfErr x (λ e. Told (fault_of e) fs)
  says_told (Ok y) says = tt
  says_told (Err e) says = says.told

  pub says_proper : (x : Result T ValidationError) → SaysOne x fs → IfErr x (λ e. error_is_proper e ≡ true)
  says_proper (Ok y) says = tt
  says_proper (Err e) says = says.proper

-- one that heard of none before
pub all_say : (fs : Faults) (old new : AllFaults) → all_stand old none → HearsMore fs (observers.All old) (observers.All new)
    → (es : List ValidationError) → ((gs : Faults) → all_stand new gs → AreAll es gs) → AreAll es fs
all_say fs old new before h es says = says fs (h.heard kept.All none before)
