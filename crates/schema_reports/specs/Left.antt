-- The errors that an iterator has left.
use Rattle.std.specs.Prelude.{List}
use Rattle.std.specs.Vec.Iter.{into_iter_items}
use Rattle.schema_reports.specs.declared.error.ValidationError.{ValidationError}
use Rattle.schema_reports.specs.declared.iter.ErrorIterator.{ErrorIterator}

abbrev pub errors_left : ErrorIterator → List ValidationError
errors_left errors = into_iter_items errors.rest
