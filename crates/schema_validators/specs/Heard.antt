-- What is said of some faults.
use Rattle.std.specs.Prelude.{◌≡◌, Result, Ok, Err}
use Rattle.schema_meaning.specs.Faults.{Faults, none}
use Rattle.schema_reports.specs.Told.{IsOneOf}
use Rattle.schema_reports.specs.declared.error.ValidationError.{ValidationError}

-- one of the faults is said, or there are none
abbrev pub SaysOne : {T : Type 0} → Result T ValidationError → Faults → Type 0
SaysOne (Ok x) fs = fs ≡ none
SaysOne (Err e) fs = IsOneOf e fs
