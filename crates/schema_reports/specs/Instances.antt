-- The value of which an error tells.
use Rattle.serde_json.specs.Data.{Data}
use Rattle.serde_json.specs.View.{view}
use Rattle.schema_reports.specs.declared.instance.Instance.{Instance}
use Rattle.schema_reports.specs.declared.instance.Instance.TheVariants.{Lent, Owned}

abbrev pub value_in : Instance → Data
value_in (Lent value) = view value.now
value_in (Owned value) = view value
