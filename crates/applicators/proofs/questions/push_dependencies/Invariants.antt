use Rattle.std.proofs.Common.{◌≡◌, ◌++◌, List}
use Rattle.serde_json.specs.Data.{Data}
use Rattle.serde_json.specs.View.{view, members_view}
use Rattle.json_values.specs.Parts.{Part}
use Rattle.schema_definitions.specs.Sites.{Site}
use Rattle.applicators.specs.Shapes.{dependencies_in}
use Rattle.applicators.specs.Questions.{questions_of, each_dependency}
use Rattle.applicators.proofs.questions.push_dependencies.Given as goal

abbrev pub invariant-loop-name : goal.invariant-loop-name
invariant-loop-name l = (site : List Part → Data → Site) → questions_of site l.fn.questions.items ++ each_dependency l.keyword (view l.value) (dependencies_in site l.keyword (members_view l.entries.entries))
    ≡ questions_of site l.questions.items ++ each_dependency l.keyword (view l.value) (dependencies_in site l.keyword (members_view l.name-iterator))
