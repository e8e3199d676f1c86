-- What `if`, `then` and `else` are read as.
use Rattle.std.specs.Prelude.{◌≡◌, codes, Option}
use Rattle.std.specs.Borrow.{Bor}
use Rattle.serde_json.specs.declared.value.Value.{Value}
use Rattle.applicators.specs.Applied.{Applicator}
use Rattle.applicators.specs.declared.asks.AsksOf.TheVariants as asking
use Rattle.applicators.specs.declared.combining.Combining.TheVariants as combining
use Rattle.applicator_reading.specs.declared.reading.Reading.{Reading}
use Rattle.applicator_reading.specs.declared.reading.Reading.TheVariants as reading

-- an `if` whose schema is this value
pub record IsIf (value : Bor Value) (a : Applicator) : Type 0 where
  pub then_schema : Option (Bor Value)
  pub else_schema : Option (Bor Value)
  pub named : a.keyword.now ≡ codes "if"
  pub asked : a.asks ≡ asking.Condition value then_schema else_schema
  pub combined : a.combining ≡ combining.Conditional

-- what the value of `if` is read as: nothing, the condition, or no schema
abbrev pub IsCondition : Bor Value → Reading → Type 0
IsCondition value (reading.Applied a) = IsIf value a
IsCondition value reading.Nothing = Unit {0}
IsCondition value (reading.Consequent schema) = ⊥
IsCondition value (reading.Value expected) = Unit {0}
IsCondition value (reading.Entry n expected) = ⊥
IsCondition value (reading.Element i expected) = ⊥

-- the same of `then` and `else`
abbrev pub IsConsequent : Bor Value → Reading → Type 0
IsConsequent value (reading.Applied a) = ⊥
IsConsequent value reading.Nothing = Unit {0}
IsConsequent value (reading.Consequent schema) = schema ≡ value
IsConsequent value (reading.Value expected) = Unit {0}
IsConsequent value (reading.Entry n expected) = ⊥
IsConsequent value (reading.Element i expected) = ⊥
