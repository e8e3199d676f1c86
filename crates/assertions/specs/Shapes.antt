-- The assertions that those of the code stand for.
use Rattle.std.specs.Prelude.{ℕ, ℤ, Bool}
use Rattle.serde_json.specs.View.{view, items_view, members_view}
use Rattle.schema_meaning.specs.Keywords as told
use Rattle.assertions.specs.Named.{names_in}
use Rattle.assertions.specs.Texts.{texts_of, entries_of}
use Rattle.assertions.specs.declared.keyword.Count.{Count}
use Rattle.assertions.specs.declared.keyword.Count.TheVariants as count
use Rattle.assertions.specs.declared.keyword.Limit.{Limit}
use Rattle.assertions.specs.declared.keyword.Limit.TheVariants as side
use Rattle.assertions.specs.declared.assertion.Bound.{Bound}
use Rattle.assertions.specs.declared.assertion.Bound.TheVariants as bound
use Rattle.assertions.specs.declared.whole_number.WholeNumber.{WholeNumber}
use Rattle.assertions.specs.declared.assertion.Assertion.{Assertion}
use Rattle.assertions.specs.declared.assertion.Assertion.TheVariants as code

abbrev pub count_assertion : Count → ℕ → told.Assertion
count_assertion count.MaxLength n = told.max_length n
count_assertion count.MinLength n = told.min_length n
count_assertion count.MaxItems n = told.max_items n
count_assertion count.MinItems n = told.min_items n
count_assertion count.MaxProperties n = told.max_properties n
count_assertion count.MinProperties n = told.min_properties n

abbrev pub bound_assertion : Bound → ℤ → told.Assertion
bound_assertion bound.Maximum z = told.maximum z
bound_assertion bound.ExclusiveMaximum z = told.exclusive_maximum z
bound_assertion bound.Minimum z = told.minimum z
bound_assertion bound.ExclusiveMinimum z = told.exclusive_minimum z

abbrev pub plain_bound : Limit → Bound
plain_bound side.Maximum = bound.Maximum
plain_bound side.Minimum = bound.Minimum

abbrev pub strict_bound : Limit → Bound
strict_bound side.Maximum = bound.ExclusiveMaximum
strict_bound side.Minimum = bound.ExclusiveMinimum

abbrev pub old_assertion : Limit → ℤ → Bool → told.Assertion
old_assertion side.Maximum z strict = told.maximum_of_draft_4 z strict
old_assertion side.Minimum z strict = told.minimum_of_draft_4 z strict

abbrev pub integer_of : WholeNumber → ℤ
integer_of number = number.integer

abbrev pub assertion_of : Assertion → told.Assertion
assertion_of (code.Types names) = told.types (names_in names)
assertion_of (code.Enumeration options) = told.enumeration (items_view options.values.now)
assertion_of (code.Constant expected) = told.constant (view expected.now)
assertion_of (code.MultipleOf divisor) = told.multiple_of divisor.value
assertion_of (code.Limit b limit) = bound_assertion b (integer_of limit)
assertion_of (code.LimitOfDraft4 side limit strict) = old_assertion side (integer_of limit) strict
assertion_of (code.Count c limit) = count_assertion c limit
assertion_of code.UniqueItems = told.unique_items
assertion_of (code.Required names) = told.required (texts_of (items_view names.now))
assertion_of (code.DependentRequired entries) = told.dependent_required (entries_of (members_view entries.now.entries))
