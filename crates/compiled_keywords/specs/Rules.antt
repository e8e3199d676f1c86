-- The rule that a compiled keyword follows at a value.
use Rattle.std.specs.Prelude.{Bool, true, false, is_some}
use Rattle.serde_json.specs.Data.{Data}
use Rattle.serde_json.specs.Find.{as_array}
use Rattle.applicators.specs.declared.combining.Combining.{Combining}
use Rattle.applicators.specs.declared.combining.Combining.TheVariants as code
use Rattle.schema_engine.specs.Rules.{or_one}
use Rattle.schema_engine.specs.declared.combination.Combination.{Combination}
use Rattle.schema_engine.specs.declared.combination.Combination.TheVariants as combination

abbrev pub where_list : Bool → Combination → Combination
where_list true c = c
where_list false c = combination.Every

abbrev pub combination_by : Combining → Data → Combination
combination_by code.Every d = combination.Every
combination_by code.Together d = combination.Together
combination_by code.EachNamed d = combination.EachNamed
combination_by code.SomeBranch d = combination.SomeBranch
combination_by code.OneBranch d = combination.OneBranch
combination_by code.Refusal d = combination.Refusal
combination_by (code.Counted least most) d = where_list (is_some (as_array d)) (combination.Counted (or_one least) most)
combination_by code.Conditional d = combination.Conditional
