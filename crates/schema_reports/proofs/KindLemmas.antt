-- Kinds with the faults of several schemas.
use Rattle.std.proofs.Common.{◌≡◌, ◌&&◌, refl, sym, ap, ◌∙◌}
use Rattle.schema_meaning.specs.Faults as told
use Rattle.schema_reports.specs.Instances.{value_in}
use Rattle.schema_reports.specs.Contexts.{branches_of}
use Rattle.schema_reports.specs.Kinds.{kind_of, context_branches, row_faults, row_branches, is_proper, has_proper_branches, row_is_proper, branches_are_proper}
use Rattle.schema_reports.specs.Told.{faults_of, branches_in, are_proper, context_is_proper}
use Rattle.schema_reports.specs.declared.context.ErrorContext.{ErrorContext, ErrorContext', Row_of-ValidationError, end_of-ValidationError, more_of-ValidationError, items-the_row-ValidationError, items_shown-the_row-ValidationError-0, Row_of-ErrorContext-branches-1, end_of-ErrorContext-branches-1, more_of-ErrorContext-branches-1, items-the_row-ErrorContext-branches-1}
use Rattle.schema_reports.specs.declared.kind.ValidationErrorKind.TheVariants as kind

faults-row : {n : _} (k : Row_of-ValidationError n) → row_faults k ≡ faults_of (items-the_row-ValidationError n k)
faults-row end_of-ValidationError = refl
faults-row (more_of-ValidationError q k v i s e l rest) = ap (told.also (told.fault (kind_of k) (value_in v) i s e)) (faults-row rest)

branches-row : {n : _} (k : Row_of-ErrorContext-branches-1 n) → row_branches k ≡ branches_in (items-the_row-ErrorContext-branches-1 n k)
branches-row end_of-ErrorContext-branches-1 = refl
branches-row (more_of-ErrorContext-branches-1 shape errors rest) =
    let same = faults-row errors ∙ ap faults_of (sym (items_shown-the_row-ValidationError-0 shape errors)) in
    λ j. told.branch (same j) (branches-row rest j)

context-row : (context : ErrorContext) → context_branches context ≡ branches_in (branches_of context)
context-row (ErrorContext' shape all) = branches-row all

pub kind-AnyOf : (context : ErrorContext) → kind_of (kind.AnyOf context) ≡ told.AnyOf (branches_in (branches_of context))
kind-AnyOf context = ap told.AnyOf (context-row context)

pub kind-OneOfMultipleValid : (context : ErrorContext) → kind_of (kind.OneOfMultipleValid context) ≡ told.OneOfMultipleValid (branches_in (branches_of context))
kind-OneOfMultipleValid context = ap told.OneOfMultipleValid (context-row context)

pub kind-OneOfNotValid : (context : ErrorContext) → kind_of (kind.OneOfNotValid context) ≡ told.OneOfNotValid (branches_in (branches_of context))
kind-OneOfNotValid context = ap told.OneOfNotValid (context-row context)

-- ---- values such as keywords have

proper-row : {n : _} (k : Row_of-ValidationError n) → row_is_proper k ≡ are_proper (items-the_row-ValidationError n k)
proper-row end_of-ValidationError = refl
proper-row (more_of-ValidationError q k v i s e l rest) = ap (λ b. is_proper k && b) (proper-row rest)

proper-branches : {n : _} (k : Row_of-ErrorContext-branches-1 n) → branches_are_proper k ≡ context_is_proper (items-the_row-ErrorContext-branches-1 n k)
proper-branches end_of-ErrorContext-branches-1 = refl
proper-branches (more_of-ErrorContext-branches-1 shape errors rest) =
    let same = proper-row errors ∙ ap are_proper (sym (items_shown-the_row-ValidationError-0 shape errors)) in
    λ j. same j && proper-branches rest j

proper-context : (context : ErrorContext) → has_proper_branches context ≡ context_is_proper (branches_of context)
proper-context (ErrorContext' shape all) = proper-branches all

pub proper-AnyOf : (context : ErrorContext) → is_proper (kind.AnyOf context) ≡ context_is_proper (branches_of context)
proper-AnyOf context = proper-context context

pub proper-OneOfMultipleValid : (context : ErrorContext) → is_proper (kind.OneOfMultipleValid context) ≡ context_is_proper (branches_of context)
proper-OneOfMultipleValid context = proper-context context

pub proper-OneOfNotValid : (context : ErrorContext) → is_proper (kind.OneOfNotValid context) ≡ context_is_proper (branches_of context)
proper-OneOfNotValid context = proper-context context
