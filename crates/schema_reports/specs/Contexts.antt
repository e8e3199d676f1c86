-- The errors of each branch of a context.
use Rattle.std.specs.Prelude.{List}
use Rattle.std.specs.declared.alloc.Global.{Global}
use Rattle.std.specs.declared.vec.Vec.{Vec}
use Rattle.schema_reports.specs.declared.error.ValidationError.{ValidationError}
use Rattle.schema_reports.specs.declared.context.ErrorContext.{ErrorContext, ErrorContext', items-the_row-ErrorContext-branches-1}

abbrev pub branches_of : ErrorContext → List (Vec ValidationError Global)
branches_of (ErrorContext' shape all) = items-the_row-ErrorContext-branches-1 _ all
