-- The names of the keywords that only assert.
use Rattle.std.specs.Prelude.{ℕ, List, [], ◌∷◌, codes}
use Rattle.assertions.specs.declared.keyword.Count.{Count}
use Rattle.assertions.specs.declared.keyword.Count.TheVariants.{MaxLength, MinLength, MaxItems, MinItems, MaxProperties, MinProperties}
use Rattle.assertions.specs.declared.keyword.Limit.{Limit}
use Rattle.assertions.specs.declared.keyword.Limit.TheVariants.{Maximum, Minimum}
use Rattle.assertions.specs.declared.keyword.AssertionKeyword.{AssertionKeyword}
use Rattle.assertions.specs.declared.keyword.AssertionKeyword.TheVariants as keyword

abbrev pub count_name : Count → List ℕ
count_name MaxLength = codes "maxLength"
count_name MinLength = codes "minLength"
count_name MaxItems = codes "maxItems"
count_name MinItems = codes "minItems"
count_name MaxProperties = codes "maxProperties"
count_name MinProperties = codes "minProperties"

abbrev pub limit_name : Limit → List ℕ
limit_name Maximum = codes "maximum"
limit_name Minimum = codes "minimum"

-- the strict limit; in Draft 4 the boolean that makes the limit strict
abbrev pub strict_name : Limit → List ℕ
strict_name Maximum = codes "exclusiveMaximum"
strict_name Minimum = codes "exclusiveMinimum"

abbrev pub name_of : AssertionKeyword → List ℕ
name_of keyword.Type = codes "type"
name_of keyword.Enum = codes "enum"
name_of keyword.Const = codes "const"
name_of keyword.MultipleOf = codes "multipleOf"
name_of (keyword.Limit limit) = limit_name limit
name_of (keyword.ExclusiveLimit limit) = strict_name limit
name_of (keyword.Count count) = count_name count
name_of keyword.UniqueItems = codes "uniqueItems"
name_of keyword.Required = codes "required"
name_of keyword.DependentRequired = codes "dependentRequired"

abbrev pub assertion_names : List (List ℕ)
assertion_names =
    codes "type" ∷ codes "enum" ∷ codes "const" ∷ codes "multipleOf" ∷ codes "maximum" ∷ codes "minimum" ∷ codes "exclusiveMaximum" ∷ codes "exclusiveMinimum" ∷ codes "maxLength"
    ∷ codes "minLength" ∷ codes "maxItems" ∷ codes "minItems" ∷ codes "maxProperties" ∷ codes "minProperties" ∷ codes "uniqueItems" ∷ codes "required" ∷ codes "dependentRequired" ∷ []
