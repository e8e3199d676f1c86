-- What an error says in words: the keyword's name, and the name of its kind.
use Rattle.std.specs.Prelude.{ℕ, List, codes, box_value}
use Rattle.json_values.specs.Parts.{Part}
use Rattle.schema_meaning.specs.Faults.{Fault, fault, Kind}
use Rattle.schema_meaning.specs.Faults as told
use Rattle.schema_reports.specs.Kinds.{kind_name}
use Rattle.schema_reports.specs.LastNames.{last_name}
use Rattle.schema_reports.specs.declared.error.ValidationError.{ValidationError}

-- a schema `false` has no keyword, and what is told of a name is of `propertyNames`; every other fault is at its keyword
abbrev pub keyword_at : Kind → List Part → List ℕ
keyword_at told.FalseSchema evaluation = codes "falseSchema"
keyword_at (told.PropertyNames f) evaluation = codes "propertyNames"
keyword_at k evaluation = last_name evaluation

abbrev pub keyword_of : Fault → List ℕ
keyword_of (fault k d i s e) = keyword_at k e

abbrev pub message_of : ValidationError → List ℕ
message_of e = kind_name (box_value e.kind)
