-- The text of a reference that was followed.
use Rattle.std.specs.Prelude.{ℕ, List}
use Rattle.schema_reports.specs.declared.reference.Reference.{Reference}

abbrev pub text_of : Reference → List ℕ
text_of r = r.text.now
