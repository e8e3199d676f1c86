-- Which members are read as keywords that apply subschemas, and whose verdict is by the number of answers that are yes; `minContains` and
-- `maxContains` are bounds that one of them reads.
use Rattle.std.specs.Prelude.{ℕ, List, [], ◌∷◌, codes}

abbrev pub applicator_names : List (List ℕ)
applicator_names =
    codes "items" ∷ codes "prefixItems" ∷ codes "additionalItems" ∷ codes "contains" ∷ codes "minContains" ∷ codes "maxContains" ∷ codes "properties" ∷ codes "patternProperties"
    ∷ codes "additionalProperties" ∷ codes "propertyNames" ∷ codes "dependentSchemas" ∷ codes "allOf" ∷ codes "anyOf" ∷ codes "oneOf" ∷ codes "not" ∷ []
