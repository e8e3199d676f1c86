-- The row of each keyword that only asserts, at its own name.
use Rattle.std.specs.Prelude.{[], codes}
use Rattle.serde_json.specs.Data.{Data}
use Rattle.serde_json.specs.Find.{as_array, as_bool}
use Rattle.schema_meaning.specs.Keywords as told
use Rattle.schema_definitions.specs.Rows.{Context, Row, asserted, assertion, reads, counted, limit, strict_limit, unique_row, unless_empty, dependent_required_row}
use Rattle.schema_definitions.specs.Values.{type_names, positive_of, unique_names}
use Rattle.assertions.specs.Names.{count_name}
use Rattle.assertions.specs.Shapes.{count_assertion}
use Rattle.assertions.specs.declared.keyword.Limit.{Limit}
use Rattle.assertions.specs.declared.keyword.Limit.TheVariants as side
use Rattle.assertions.specs.declared.keyword.AssertionKeyword.{AssertionKeyword}
use Rattle.assertions.specs.declared.keyword.AssertionKeyword.TheVariants as keyword

abbrev pub limit_row : Limit → Context → Data → Row
limit_row side.Maximum c d = limit c (codes "maximum") (codes "exclusiveMaximum") told.maximum told.maximum_of_draft_4 d
limit_row side.Minimum c d = limit c (codes "minimum") (codes "exclusiveMinimum") told.minimum told.minimum_of_draft_4 d

abbrev pub strict_row : Limit → Context → Data → Row
strict_row side.Maximum c d = strict_limit c (codes "exclusiveMaximum") told.exclusive_maximum d
strict_row side.Minimum c d = strict_limit c (codes "exclusiveMinimum") told.exclusive_minimum d

abbrev pub row_of : AssertionKeyword → Context → Data → Row
row_of keyword.Type c d = asserted c (codes "type") (codes "type name") (λ ts. assertion (told.types ts)) (type_names d)
row_of keyword.Enum c d = asserted c (codes "enum") (codes "list") (λ ds. assertion (told.enumeration ds)) (as_array d)
row_of keyword.Const c d = reads [] (assertion (told.constant d))
row_of keyword.MultipleOf c d = asserted c (codes "multipleOf") (codes "positive number") (λ n. assertion (told.multiple_of n)) (positive_of d)
row_of (keyword.Limit side) c d = limit_row side c d
row_of (keyword.ExclusiveLimit side) c d = strict_row side c d
row_of (keyword.Count count) c d = counted c (count_name count) (count_assertion count) d
row_of keyword.UniqueItems c d = unique_row c (codes "uniqueItems") (as_bool d)
row_of keyword.Required c d = asserted c (codes "required") (codes "unique names") unless_empty (unique_names d)
row_of keyword.DependentRequired c d = dependent_required_row c (codes "dependentRequired") d
