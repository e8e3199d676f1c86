-- What an observer hears after what it heard before.
use Rattle.schema_meaning.specs.Faults.{Faults, joined}
use Rattle.schema_reports.specs.Observers.{Hears}
use Rattle.schema_reports.specs.declared.observer.Observation.{Observation}
use Rattle.schema_reports.specs.declared.observer.Observer.{Observer}

-- it heard these faults too, in order
pub record HearsMore (fs : Faults) (old new : Observer) : Type 0 where
  pub heard : (kept : Observation) (before : Faults) → Hears kept old before → Hears kept new (joined before fs)

-- it heard nothing
pub record HearsSame (old new : Observer) : Type 0 where
  pub same : (kept : Observation) (before : Faults) → Hears kept old before → Hears kept new before
