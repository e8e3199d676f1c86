-- Faults: what a refused value is told.
use Rattle.std.specs.Prelude.{ℕ, ℤ, List, [], ◌∷◌, Bool, true, false}
use Rattle.serde_json.specs.Data.{Data, Items}
use Rattle.json_values.specs.Kinds.{Primitive}
use Rattle.json_values.specs.Parts.{Part}

-- A fault has its kind, the value at fault, the path of the instance, the path of the schema, and the evaluation path,
-- each path with its last part first. A kind carries the values of its keyword, `AnyOf` and its like the faults of
-- each branch in turn, and `PropertyNames` the fault of the name.
mutual
  pub data Fault : Type 0 where
    fault : Kind → Data → List Part → List Part → List Part → Fault

  pub data Kind : Type 0 where
    AdditionalItems : Kind
    AdditionalProperties : List (List ℕ) → Kind
    AnyOf : Branches → Kind
    Constant : Data → Kind
    Contains : Kind
    Enumeration : Items → Kind
    ExclusiveMaximum : ℤ → Kind
    ExclusiveMinimum : ℤ → Kind
    FalseSchema : Kind
    MaxItems : ℕ → Kind
    Maximum : ℤ → Kind
    MaxLength : ℕ → Kind
    MaxProperties : ℕ → Kind
    MinItems : ℕ → Kind
    Minimum : ℤ → Kind
    MinLength : ℕ → Kind
    MinProperties : ℕ → Kind
    MultipleOf : ℕ → Kind
    Not : Data → Kind
    OneOfMultipleValid : Branches → Kind
    OneOfNotValid : Branches → Kind
    Pattern : List ℕ → Kind
    PropertyNames : Fault → Kind
    Required : List ℕ → Kind
    Types : List Primitive → Kind
    UniqueItems : Kind
    UnfinishedMatch : List ℕ → Kind

  pub data Faults : Type 0 where
    none : Faults
    also : Fault → Faults → Faults

  pub data Branches : Type 0 where
    no_branch : Branches
    branch : Faults → Branches → Branches

abbrev pub joined : Faults → Faults → Faults
joined none gs = gs
joined (also f fs) gs = also f (joined fs gs)

abbrev pub join : List Faults → Faults
join [] = none
join (fs ∷ rest) = joined fs (join rest)

abbrev pub is_none : Faults → Bool
is_none none = true
is_none (also f fs) = false

abbrev pub branches_of : List Faults → Branches
branches_of [] = no_branch
branches_of (fs ∷ rest) = branch fs (branches_of rest)

abbrev pub instance_path : Fault → List Part
instance_path (fault k d i s e) = i

abbrev pub schema_path : Fault → List Part
schema_path (fault k d i s e) = s

abbrev pub evaluation_path : Fault → List Part
evaluation_path (fault k d i s e) = e

-- f is one of them
pub data Told (f : Fault) : Faults → Type 0 where
  told_first : {fs : Faults} → Told f (also f fs)
  told_later : {g : Fault} {fs : Faults} → Told f fs → Told f (also g fs)
