use Rattle.std.proofs.Common.{List, ◌++◌, map}
use Rattle.std.specs.List.{AllZip}
use Rattle.serde_json.specs.Data.{Data}
use Rattle.serde_json.specs.View.{view}
use Rattle.schema_reports.specs.Left.{errors_left}
use Rattle.error_texts.specs.Objects.{IsObject}
use Rattle.error_texts.proofs.objects.error_values.Given as goal

-- what comes behind the objects so far is that of the errors that are left
abbrev pub invariant-loop-error : goal.invariant-loop-error
invariant-loop-error l = (more : List Data) → AllZip IsObject (errors_left l.error-iterator) more
    → AllZip IsObject (errors_left l.initial.error-iterator) (map view l.values.items ++ more)
