-- The objects of a value that is refused.
use Rattle.std.proofs.Common.{◌≡◌, ℕ, List, true, false}
use Rattle.std.proofs.lemmas.Bool.{true≢false}
use Rattle.schema_meaning.specs.Faults.{Faults, none, also, is_none}
use Rattle.schema_reports.specs.Told.{faults_of, are_proper}
use Rattle.schema_reports.specs.declared.error.ValidationError.{ValidationError}
use Rattle.error_texts.specs.Objects.{HasObjects}
use Rattle.line_runs.specs.Objects.{IsObjectText}

pub refused_text : (fs : Faults) (errors : List ValidationError) (text : List ℕ) → is_none fs ≡ false → faults_of errors ≡ fs → are_proper errors ≡ true → HasObjects errors text → IsObjectText fs text
refused_text none errors text some told proper has = absurd (true≢false some)
refused_text (also f fs) errors text some told proper has = record { errors = errors; told = told; proper = proper; has = has }
