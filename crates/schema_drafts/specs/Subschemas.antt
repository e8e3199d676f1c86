-- Which members of a schema hold schemas, by draft (the applicators of Core 10, and `$defs` and its like of Core 8.2.4).
use Rattle.std.specs.Prelude.{ℕ, List, [], ◌∷◌, ◌++◌, Bool, true, false, codes, bytes_eq, if◌then◌else◌}
use Rattle.schema_drafts.specs.Drafts.{is_listed}
use Rattle.schema_drafts.specs.declared.subschemas.Subschemas as held
use Rattle.schema_drafts.specs.declared.subschemas.Subschemas.TheVariants as variants
use Rattle.schema_drafts.specs.declared.draft.Draft.{Draft}
use Rattle.schema_drafts.specs.declared.draft.Draft.TheVariants.{Draft4, Draft6, Draft7, Draft201909, Draft202012, Unknown}

-- what a member holds: nothing, a schema, a list of schemas, one of the two, or schemas under names
pub data Holds : Type 0 where
  nothing : Holds
  one : Holds
  several : Holds
  one_or_several : Holds
  by_name : Holds

abbrev pub ones_of_draft_4 : List (List ℕ)
ones_of_draft_4 = codes "additionalItems" ∷ codes "additionalProperties" ∷ codes "not" ∷ []

abbrev pub ones_of_draft_6 : List (List ℕ)
ones_of_draft_6 = ones_of_draft_4 ++ codes "contains" ∷ codes "propertyNames" ∷ []

abbrev pub ones_of_draft_7 : List (List ℕ)
ones_of_draft_7 = ones_of_draft_6 ++ codes "if" ∷ codes "then" ∷ codes "else" ∷ []

abbrev pub new_ones : List (List ℕ)
new_ones = codes "unevaluatedItems" ∷ codes "unevaluatedProperties" ∷ codes "contentSchema" ∷ []

abbrev pub ones_of_2020 : List (List ℕ)
ones_of_2020 =
    codes "items" ∷ codes "additionalProperties" ∷ codes "not" ∷ codes "contains" ∷ codes "propertyNames" ∷ codes "if" ∷ codes "then" ∷ codes "else" ∷ []

-- a schema each
abbrev pub ones : Draft → List (List ℕ)
ones Draft4 = ones_of_draft_4
ones Draft6 = ones_of_draft_6
ones Draft7 = ones_of_draft_7
ones Draft201909 = ones_of_draft_7 ++ new_ones
ones Draft202012 = ones_of_2020 ++ new_ones
ones Unknown = ones_of_2020 ++ new_ones

abbrev pub branches : List (List ℕ)
branches = codes "allOf" ∷ codes "anyOf" ∷ codes "oneOf" ∷ []

-- a list of schemas each
abbrev pub lists : Draft → List (List ℕ)
lists Draft4 = branches
lists Draft6 = branches
lists Draft7 = branches
lists Draft201909 = branches
lists Draft202012 = codes "prefixItems" ∷ branches
lists Unknown = codes "prefixItems" ∷ branches

-- a schema or a list of schemas
abbrev pub either : Draft → List (List ℕ)
either Draft4 = codes "items" ∷ []
either Draft6 = codes "items" ∷ []
either Draft7 = codes "items" ∷ []
either Draft201909 = codes "items" ∷ []
either Draft202012 = []
either Unknown = []

abbrev pub maps_of_draft_4 : List (List ℕ)
maps_of_draft_4 = codes "definitions" ∷ codes "properties" ∷ codes "patternProperties" ∷ codes "dependencies" ∷ []

abbrev pub new_maps : List (List ℕ)
new_maps = codes "$defs" ∷ codes "dependentSchemas" ∷ []

-- schemas under names
abbrev pub maps : Draft → List (List ℕ)
maps Draft4 = maps_of_draft_4
maps Draft6 = maps_of_draft_4
maps Draft7 = maps_of_draft_4
maps Draft201909 = maps_of_draft_4 ++ new_maps
maps Draft202012 = maps_of_draft_4 ++ new_maps
maps Unknown = maps_of_draft_4 ++ new_maps

-- what a member holds by its name; `hidden`: a `$ref` stands beside that hides all but `definitions`
abbrev pub held_by : Draft → Bool → List ℕ → Holds
held_by draft hidden k =
    if hidden then (if bytes_eq k (codes "definitions") then by_name else nothing)
    else (if is_listed k (ones draft) then one
    else (if is_listed k (lists draft) then several
    else (if is_listed k (either draft) then one_or_several
    else (if is_listed k (maps draft) then by_name else nothing))))

-- the same as the program has it
abbrev pub holds_of : held.Subschemas → Holds
holds_of variants.None = nothing
holds_of variants.One = one
holds_of variants.Several = several
holds_of variants.OneOrSeveral = one_or_several
holds_of variants.ByName = by_name
