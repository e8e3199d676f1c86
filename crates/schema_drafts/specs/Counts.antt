-- Which keyword counts, by draft and vocabularies (Core 8.1.2; the tables of keywords of Core and Validation in each draft).
use Rattle.std.specs.Prelude.{ℕ, List, [], ◌∷◌, ◌++◌, Bool, true, false, ◌||◌, ◌&&◌, not, codes, bytes_eq}
use Rattle.schema_drafts.specs.Drafts.{is_listed, ignores_siblings}
use Rattle.schema_drafts.specs.Vocabularies.{Vocabularies, Dialect, has_some, is_applicator, is_validation, is_unevaluated}
use Rattle.schema_drafts.specs.declared.draft.Draft.{Draft}
use Rattle.schema_drafts.specs.declared.draft.Draft.TheVariants.{Draft4, Draft6, Draft7, Draft201909, Draft202012, Unknown}

-- ---- the keywords of each draft

abbrev pub of_draft_4 : List (List ℕ)
of_draft_4 =
    codes "$ref" ∷ codes "type" ∷ codes "enum" ∷ codes "multipleOf" ∷ codes "maximum" ∷ codes "exclusiveMaximum" ∷ codes "minimum" ∷ codes "exclusiveMinimum"
    ∷ codes "maxLength" ∷ codes "minLength" ∷ codes "pattern" ∷ codes "items" ∷ codes "additionalItems" ∷ codes "maxItems" ∷ codes "minItems" ∷ codes "uniqueItems"
    ∷ codes "maxProperties" ∷ codes "minProperties" ∷ codes "required" ∷ codes "properties" ∷ codes "patternProperties" ∷ codes "additionalProperties" ∷ codes "dependencies"
    ∷ codes "allOf" ∷ codes "anyOf" ∷ codes "oneOf" ∷ codes "not" ∷ []

abbrev pub new_in_draft_6 : List (List ℕ)
new_in_draft_6 = codes "const" ∷ codes "contains" ∷ codes "propertyNames" ∷ []

abbrev pub new_in_draft_7 : List (List ℕ)
new_in_draft_7 = codes "if" ∷ codes "then" ∷ codes "else" ∷ []

abbrev pub new_in_2019 : List (List ℕ)
new_in_2019 =
    codes "dependentRequired" ∷ codes "dependentSchemas" ∷ codes "minContains" ∷ codes "maxContains" ∷ codes "$recursiveRef" ∷ codes "unevaluatedItems"
    ∷ codes "unevaluatedProperties" ∷ []

abbrev pub new_in_2020 : List (List ℕ)
new_in_2020 = codes "prefixItems" ∷ codes "$dynamicRef" ∷ []

abbrev pub gone_in_2020 : List (List ℕ)
gone_in_2020 = codes "additionalItems" ∷ codes "$recursiveRef" ∷ []

abbrev pub in_draft_4 : List ℕ → Bool
in_draft_4 k = is_listed k of_draft_4

abbrev pub in_draft_6 : List ℕ → Bool
in_draft_6 k = in_draft_4 k || is_listed k new_in_draft_6

abbrev pub in_draft_7 : List ℕ → Bool
in_draft_7 k = in_draft_6 k || is_listed k new_in_draft_7

abbrev pub in_2019 : List ℕ → Bool
in_2019 k = in_draft_7 k || is_listed k new_in_2019

abbrev pub in_2020 : List ℕ → Bool
in_2020 k = (in_2019 k && not (is_listed k gone_in_2020)) || is_listed k new_in_2020

abbrev pub is_keyword : Draft → List ℕ → Bool
is_keyword Draft4 k = in_draft_4 k
is_keyword Draft6 k = in_draft_6 k
is_keyword Draft7 k = in_draft_7 k
is_keyword Draft201909 k = in_2019 k
is_keyword Draft202012 k = in_2020 k
is_keyword Unknown k = in_2020 k

-- ---- the vocabulary of each keyword, from 2019-09 on

abbrev pub applicators : List (List ℕ)
applicators =
    codes "items" ∷ codes "prefixItems" ∷ codes "additionalItems" ∷ codes "contains" ∷ codes "properties" ∷ codes "patternProperties" ∷ codes "additionalProperties"
    ∷ codes "propertyNames" ∷ codes "dependencies" ∷ codes "dependentSchemas" ∷ codes "allOf" ∷ codes "anyOf" ∷ codes "oneOf" ∷ codes "not" ∷ codes "if" ∷ codes "then"
    ∷ codes "else" ∷ []

abbrev pub validations : List (List ℕ)
validations =
    codes "type" ∷ codes "enum" ∷ codes "const" ∷ codes "multipleOf" ∷ codes "maximum" ∷ codes "exclusiveMaximum" ∷ codes "minimum" ∷ codes "exclusiveMinimum"
    ∷ codes "maxLength" ∷ codes "minLength" ∷ codes "pattern" ∷ codes "maxItems" ∷ codes "minItems" ∷ codes "uniqueItems" ∷ codes "maxProperties" ∷ codes "minProperties"
    ∷ codes "required" ∷ codes "dependentRequired" ∷ codes "minContains" ∷ codes "maxContains" ∷ []

abbrev pub unevaluated_ones : List (List ℕ)
unevaluated_ones = codes "unevaluatedItems" ∷ codes "unevaluatedProperties" ∷ []

abbrev pub references : List (List ℕ)
references = codes "$ref" ∷ codes "$dynamicRef" ∷ codes "$recursiveRef" ∷ []

abbrev pub in_vocabularies : Draft → Vocabularies → List ℕ → Bool
in_vocabularies Draft4 vs k = true
in_vocabularies Draft6 vs k = true
in_vocabularies Draft7 vs k = true
in_vocabularies Draft201909 vs k =
    is_listed k references || (is_listed k applicators && has_some is_applicator vs) || (is_listed k unevaluated_ones && has_some is_applicator vs)
    || (is_listed k validations && has_some is_validation vs)
in_vocabularies Draft202012 vs k =
    is_listed k references || (is_listed k applicators && has_some is_applicator vs) || (is_listed k unevaluated_ones && has_some is_unevaluated vs)
    || (is_listed k validations && has_some is_validation vs)
in_vocabularies Unknown vs k =
    is_listed k references || (is_listed k applicators && has_some is_applicator vs) || (is_listed k unevaluated_ones && has_some is_unevaluated vs)
    || (is_listed k validations && has_some is_validation vs)

-- whether a keyword counts: it is one of the draft's and of a vocabulary in force, and `$ref` beside does not hide it
abbrev pub counts : Dialect → Bool → List ℕ → Bool
counts e beside_ref k =
    is_keyword e.draft k && in_vocabularies e.draft e.vocabularies k
    && (not (ignores_siblings e.siblings e.draft && beside_ref) || bytes_eq k (codes "$ref"))

-- ---- names that a draft knows, keywords or not

abbrev pub other_known : List (List ℕ)
other_known =
    codes "$schema" ∷ codes "$id" ∷ codes "id" ∷ codes "$anchor" ∷ codes "$dynamicAnchor" ∷ codes "$recursiveAnchor" ∷ codes "$vocabulary" ∷ codes "$comment"
    ∷ codes "$defs" ∷ codes "definitions" ∷ []

abbrev pub is_known : Draft → List ℕ → Bool
is_known draft k = is_keyword draft k || is_listed k other_known
