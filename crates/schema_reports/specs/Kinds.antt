-- What the kinds of the code stand for.
use Rattle.std.specs.Prelude.{◌≡◌, ◌&&◌, ℕ, ℤ, pos, int_le, unsigned_abs, Bool, true, false, Option, Some, None, is_some, List, map, codes, string_bytes}
use Rattle.serde_json.specs.Data.{Data, array}
use Rattle.serde_json.specs.View.{view}
use Rattle.json_values.specs.Numbers.{whole}
use Rattle.schema_meaning.specs.Faults as told
use Rattle.schema_meaning.specs.Questions.{items_of}
use Rattle.schema_definitions.specs.Words.{or}
use Rattle.assertions.specs.Named.{names_in}
use Rattle.schema_reports.specs.Instances.{value_in}
use Rattle.schema_reports.specs.declared.context.ErrorContext.{ErrorContext, ErrorContext', Row_of-ValidationError, end_of-ValidationError, more_of-ValidationError, Row_of-ErrorContext-branches-1, end_of-ErrorContext-branches-1, more_of-ErrorContext-branches-1}
use Rattle.schema_reports.specs.declared.kind.ValidationErrorKind.{ValidationErrorKind}
use Rattle.schema_reports.specs.declared.kind.ValidationErrorKind.TheVariants as kind

-- the whole number that a kind carries; a value that is none stands for zero, and `is_proper` tells it from zero
abbrev pub number_of : Data → ℤ
number_of d = or (pos 0) (whole d)

-- each kind with the faults that its errors stand for; a row holds the items of a list of errors, and of a list of such lists
abbrev mutual
  pub kind_of : ValidationErrorKind → told.Kind
  kind_of kind.AdditionalItems = told.AdditionalItems
  kind_of (kind.AdditionalProperties unexpected) = told.AdditionalProperties (map string_bytes unexpected.items)
  kind_of (kind.AnyOf context) = told.AnyOf (context_branches context)
  kind_of (kind.Constant expected_value) = told.Constant (view expected_value)
  kind_of kind.Contains = told.Contains
  kind_of (kind.Enumeration options) = told.Enumeration (items_of (view options))
  kind_of (kind.ExclusiveMaximum limit) = told.ExclusiveMaximum (number_of (view limit))
  kind_of (kind.ExclusiveMinimum limit) = told.ExclusiveMinimum (number_of (view limit))
  kind_of kind.FalseSchema = told.FalseSchema
  kind_of (kind.MaxItems limit) = told.MaxItems limit
  kind_of (kind.Maximum limit) = told.Maximum (number_of (view limit))
  kind_of (kind.MaxLength limit) = told.MaxLength limit
  kind_of (kind.MaxProperties limit) = told.MaxProperties limit
  kind_of (kind.MinItems limit) = told.MinItems limit
  kind_of (kind.Minimum limit) = told.Minimum (number_of (view limit))
  kind_of (kind.MinLength limit) = told.MinLength limit
  kind_of (kind.MinProperties limit) = told.MinProperties limit
  kind_of (kind.MultipleOf multiple_of) = told.MultipleOf (unsigned_abs (number_of (view multiple_of)))
  kind_of (kind.Not schema) = told.Not (view schema)
  kind_of (kind.OneOfMultipleValid context) = told.OneOfMultipleValid (context_branches context)
  kind_of (kind.OneOfNotValid context) = told.OneOfNotValid (context_branches context)
  kind_of (kind.Pattern pattern) = told.Pattern (string_bytes pattern)
  kind_of (kind.PropertyNames' p q k v i s e l) = told.PropertyNames (told.fault (kind_of k) (value_in v) i s e)
  kind_of (kind.Required property) = told.Required (string_bytes property)
  kind_of (kind.Types names) = told.Types (names_in names)
  kind_of kind.UniqueItems = told.UniqueItems
  kind_of (kind.UnfinishedMatch pattern) = told.UnfinishedMatch (string_bytes pattern)

  pub context_branches : ErrorContext → told.Branches
  context_branches (ErrorContext' shape all) = row_branches all

  pub row_faults : {n : _} → Row_of-ValidationError n → told.Faults
  row_faults end_of-ValidationError = told.none
  row_faults (more_of-ValidationError q k v i s e l rest) = told.also (told.fault (kind_of k) (value_in v) i s e) (row_faults rest)

  pub row_branches : {n : _} → Row_of-ErrorContext-branches-1 n → told.Branches
  row_branches end_of-ErrorContext-branches-1 = told.no_branch
  row_branches (more_of-ErrorContext-branches-1 shape errors rest) = told.branch (row_faults errors) (row_branches rest)

-- ---- values such as keywords have

-- a limit
abbrev pub is_whole : Data → Bool
is_whole d = is_some (whole d)

abbrev pub is_natural : Option ℤ → Bool
is_natural None = false
is_natural (Some z) = int_le (pos 0) z

-- a factor
abbrev pub is_factor : Data → Bool
is_factor d = is_natural (whole d)

-- options
abbrev pub is_list : Data → Bool
is_list (array ds) = true
is_list d = false

-- what a kind carries is such a value, and so it is in the errors that it carries
abbrev mutual
  pub is_proper : ValidationErrorKind → Bool
  is_proper (kind.AnyOf context) = has_proper_branches context
  is_proper (kind.Enumeration options) = is_list (view options)
  is_proper (kind.ExclusiveMaximum limit) = is_whole (view limit)
  is_proper (kind.ExclusiveMinimum limit) = is_whole (view limit)
  is_proper (kind.Maximum limit) = is_whole (view limit)
  is_proper (kind.Minimum limit) = is_whole (view limit)
  is_proper (kind.MultipleOf multiple_of) = is_factor (view multiple_of)
  is_proper (kind.OneOfMultipleValid context) = has_proper_branches context
  is_proper (kind.OneOfNotValid context) = has_proper_branches context
  is_proper (kind.PropertyNames' p q k v i s e l) = is_proper k
  is_proper other = true

  pub has_proper_branches : ErrorContext → Bool
  has_proper_branches (ErrorContext' shape all) = branches_are_proper all

  pub row_is_proper : {n : _} → Row_of-ValidationError n → Bool
  row_is_proper end_of-ValidationError = true
  row_is_proper (more_of-ValidationError q k v i s e l rest) = is_proper k && row_is_proper rest

  pub branches_are_proper : {n : _} → Row_of-ErrorContext-branches-1 n → Bool
  branches_are_proper end_of-ErrorContext-branches-1 = true
  branches_are_proper (more_of-ErrorContext-branches-1 shape errors rest) = row_is_proper errors && branches_are_proper rest

-- a kind of the code is this one, value for value
pub record StandsFor (code : ValidationErrorKind) (said : told.Kind) : Type 0 where
  pub kind : kind_of code ≡ said
  pub proper : is_proper code ≡ true

-- ---- names

-- the name that is printed
abbrev pub kind_name : ValidationErrorKind → List ℕ
kind_name kind.AdditionalItems = codes "AdditionalItems"
kind_name (kind.AdditionalProperties unexpected) = codes "AdditionalProperties"
kind_name (kind.AnyOf context) = codes "AnyOf"
kind_name (kind.Constant expected_value) = codes "Constant"
kind_name kind.Contains = codes "Contains"
kind_name (kind.Enumeration options) = codes "Enumeration"
kind_name (kind.ExclusiveMaximum limit) = codes "ExclusiveMaximum"
kind_name (kind.ExclusiveMinimum limit) = codes "ExclusiveMinimum"
kind_name kind.FalseSchema = codes "FalseSchema"
kind_name (kind.MaxItems limit) = codes "MaxItems"
kind_name (kind.Maximum limit) = codes "Maximum"
kind_name (kind.MaxLength limit) = codes "MaxLength"
kind_name (kind.MaxProperties limit) = codes "MaxProperties"
kind_name (kind.MinItems limit) = codes "MinItems"
kind_name (kind.Minimum limit) = codes "Minimum"
kind_name (kind.MinLength limit) = codes "MinLength"
kind_name (kind.MinProperties limit) = codes "MinProperties"
kind_name (kind.MultipleOf multiple_of) = codes "MultipleOf"
kind_name (kind.Not schema) = codes "Not"
kind_name (kind.OneOfMultipleValid context) = codes "OneOfMultipleValid"
kind_name (kind.OneOfNotValid context) = codes "OneOfNotValid"
kind_name (kind.Pattern pattern) = codes "Pattern"
kind_name (kind.PropertyNames' p q k v i s e l) = codes "PropertyNames"
kind_name (kind.Required property) = codes "Required"
kind_name (kind.Types names) = codes "Types"
kind_name kind.UniqueItems = codes "UniqueItems"
kind_name (kind.UnfinishedMatch pattern) = codes "UnfinishedMatch"
