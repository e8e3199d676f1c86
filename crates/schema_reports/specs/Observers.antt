-- What observers say of the faults told so far.
use Rattle.std.specs.Prelude.{Bool, true, false, not, is_some}
use Rattle.schema_meaning.specs.Faults.{Faults}
use Rattle.schema_reports.specs.Stands.{verdict_stands, first_stands, all_stand, pairs_stand}
use Rattle.schema_reports.specs.declared.observer.Observation.{Observation}
use Rattle.schema_reports.specs.declared.observer.Observation.TheVariants as kept
use Rattle.schema_reports.specs.declared.observer.Observer.{Observer}
use Rattle.schema_reports.specs.declared.observer.Observer.TheVariants as observers

-- an observer that keeps this
abbrev pub Hears : Observation → Observer → Faults → Type 0
Hears kept.Verdict (observers.Verdict v) fs = verdict_stands v fs
Hears kept.Verdict (observers.First f) fs = ⊥
Hears kept.Verdict (observers.All a) fs = ⊥
Hears kept.Verdict (observers.Paths p) fs = ⊥
Hears kept.First (observers.Verdict v) fs = ⊥
Hears kept.First (observers.First f) fs = first_stands f fs
Hears kept.First (observers.All a) fs = ⊥
Hears kept.First (observers.Paths p) fs = ⊥
Hears kept.All (observers.Verdict v) fs = ⊥
Hears kept.All (observers.First f) fs = ⊥
Hears kept.All (observers.All a) fs = all_stand a fs
Hears kept.All (observers.Paths p) fs = ⊥
Hears kept.Paths (observers.Verdict v) fs = ⊥
Hears kept.Paths (observers.First f) fs = ⊥
Hears kept.Paths (observers.All a) fs = ⊥
Hears kept.Paths (observers.Paths p) fs = pairs_stand p fs

-- whether it is to be told of a fault: not for the verdict alone, and for the first fault where none was told
abbrev pub wants : Observer → Bool
wants (observers.Verdict v) = false
wants (observers.First f) = not (is_some f.error)
wants (observers.All a) = true
wants (observers.Paths p) = true

-- whether it keeps the two paths of a fault, and no more of it
abbrev pub keeps_paths : Observer → Bool
keeps_paths (observers.Verdict v) = false
keeps_paths (observers.First f) = false
keeps_paths (observers.All a) = false
keeps_paths (observers.Paths p) = true
