-- What keywords ask, without their subschemas.
use Rattle.std.specs.Prelude.{[], None}
use Rattle.serde_json.specs.Data.{null}
use Rattle.applicators.specs.Forms.{Form, each_from, by_index, by_name, by_pattern, of_others, of_members, of_names, of_triggered, of_dependencies, of_branches, of_value, of_condition}
use Rattle.applicators.specs.declared.asks.AsksOf.{AsksOf}
use Rattle.applicators.specs.declared.asks.AsksOf.TheVariants as code

abbrev pub bare : {S L N P E V : Type 0} → AsksOf S L N P E V → Form (Unit {0})
bare (code.ItemsFrom start schema) = each_from start tt
bare (code.ItemByItem schemas) = by_index []
bare (code.DeclaredMembers schemas) = by_name []
bare (code.MatchingMembers schemas) = by_pattern []
bare (code.OtherMembers declared schema) = of_others (record { names = []; patterns = [] }) tt
bare (code.Members schema) = of_members tt
bare (code.Names schema) = of_names tt
bare (code.Triggered schemas) = of_triggered []
bare (code.Dependencies entries) = of_dependencies []
bare (code.Branches schemas) = of_branches []
bare (code.Value schema) = of_value null tt
bare (code.Condition condition then_schema else_schema) = of_condition tt None None
