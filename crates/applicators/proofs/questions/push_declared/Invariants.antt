use Rattle.std.proofs.Common.{◌≡◌, ◌++◌, List}
use Rattle.serde_json.specs.Data.{Data}
use Rattle.serde_json.specs.View.{view, members_view}
use Rattle.json_values.specs.Parts.{Part}
use Rattle.schema_definitions.specs.Sites.{Site}
use Rattle.schema_meaning.specs.Questions.{each_declared}
use Rattle.applicators.specs.Shapes.{sites_of_map}
use Rattle.applicators.specs.Questions.{questions_of}
use Rattle.applicators.proofs.questions.push_declared.Given as goal

abbrev pub invariant-loop-name : goal.invariant-loop-name
invariant-loop-name l = (site : List Part → Data → Site) → questions_of site l.fn.questions.items ++ each_declared l.keyword (view l.value) (sites_of_map site l.keyword (members_view l.schemas.entries))
    ≡ questions_of site l.questions.items ++ each_declared l.keyword (view l.value) (sites_of_map site l.keyword (members_view l.name-iterator))
