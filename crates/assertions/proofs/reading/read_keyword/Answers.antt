use Rattle.std.proofs.Common.{codes}
use Rattle.serde_json.specs.View.{view}
use Rattle.serde_json.specs.Find.{as_array}
use Rattle.schema_meaning.specs.Keywords as told
use Rattle.schema_definitions.specs.Values.{type_names, positive_of, count_of}
use Rattle.assertions.specs.Names.{count_name}
use Rattle.assertions.specs.Shapes.{count_assertion}
use Rattle.assertions.specs.declared.keyword.AssertionKeyword.TheVariants as keyword
use Rattle.assertions.proofs.ReadLemmas.{asserted-row, at-keyword, if-at-keyword}
use Rattle.assertions.proofs.reading.read_keyword.Goals as goal

pub returns-in_ok-types-in-Type : goal.returns-in_ok-types-in-Type
returns-in_ok-types-in-Type c =
    let d = view c.args.value.now in
    at-keyword c.args.keyword keyword.Type c.args.draft _ d c.asserted.result c.in-Type.is
    (λ x around. asserted-row x (codes "type") (codes "type name") told.types (type_names d) c.in_ok-types-in-Type.field-0 c.asserted.result c.in_ok-types-in-Type.ensures c.asserted.ensures)

pub returns-in_ok-enumeration-in-Enum : goal.returns-in_ok-enumeration-in-Enum
returns-in_ok-enumeration-in-Enum c =
    let d = view c.args.value.now in
    at-keyword c.args.keyword keyword.Enum c.args.draft _ d c.asserted-in-Enum.result c.in-Enum.is
    (λ x around. asserted-row x (codes "enum") (codes "list") told.enumeration (as_array d) c.in_ok-enumeration-in-Enum.field-0 c.asserted-in-Enum.result c.in_ok-enumeration-in-Enum.ensures c.asserted-in-Enum.ensures)

pub returns-in-MultipleOf : goal.returns-in-MultipleOf
returns-in-MultipleOf c =
    let d = view c.args.value.now in
    at-keyword c.args.keyword keyword.MultipleOf c.args.draft _ d c.asserted-in-MultipleOf.result c.in-MultipleOf.is
    (λ x around. asserted-row x (codes "multipleOf") (codes "positive number") told.multiple_of (positive_of d) c.multiple_of.result c.asserted-in-MultipleOf.result c.multiple_of.ensures c.asserted-in-MultipleOf.ensures)

pub returns-in-ExclusiveLimit : goal.returns-in-ExclusiveLimit
returns-in-ExclusiveLimit c =
    at-keyword c.args.keyword (keyword.ExclusiveLimit c.in-ExclusiveLimit.side) c.args.draft _ (view c.args.value.now) c.exclusive_limit.result c.in-ExclusiveLimit.is
    (λ x around. c.exclusive_limit.ensures x around.draft)

pub returns-in-Count : goal.returns-in-Count
returns-in-Count c =
    let d = view c.args.value.now in
    let count = c.in-Count.count in
    at-keyword c.args.keyword (keyword.Count count) c.args.draft _ d c.asserted-in-Count.result c.in-Count.is
    (λ x around. asserted-row x (count_name count) (codes "count") (count_assertion count) (count_of d) c.counted.result c.asserted-in-Count.result c.counted.ensures c.asserted-in-Count.ensures)

pub returns-in-UniqueItems : goal.returns-in-UniqueItems
returns-in-UniqueItems c =
    at-keyword c.args.keyword keyword.UniqueItems c.args.draft _ (view c.args.value.now) c.unique_items.result c.in-UniqueItems.is (λ x around. c.unique_items.ensures x)

pub returns-in-Required : goal.returns-in-Required
returns-in-Required c = if-at-keyword c.args.keyword keyword.Required c.args.draft _ (view c.args.value.now) c.required.result c.in-Required.is c.required.ensures

pub returns-in-DependentRequired : goal.returns-in-DependentRequired
returns-in-DependentRequired c =
    if-at-keyword c.args.keyword keyword.DependentRequired c.args.draft _ (view c.args.value.now) c.dependent_required.result c.in-DependentRequired.is c.dependent_required.ensures
