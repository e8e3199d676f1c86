use Rattle.std.proofs.Common.{◌≡◌, ◌++◌, List, drop}
use Rattle.serde_json.specs.Data.{Data}
use Rattle.serde_json.specs.View.{items_view}
use Rattle.json_values.specs.Parts.{Part}
use Rattle.schema_definitions.specs.Sites.{Site}
use Rattle.schema_meaning.specs.Questions.{item_by_item}
use Rattle.applicators.specs.Shapes.{sites_of_list}
use Rattle.applicators.specs.Questions.{questions_of}
use Rattle.applicators.proofs.questions.push_item_list.Given as goal

abbrev pub invariant-loop-index : goal.invariant-loop-index
invariant-loop-index l = (site : List Part → Data → Site) → questions_of site l.fn.questions.items ++ item_by_item l.keyword (sites_of_list site l.keyword 0 (items_view l.schemas)) 0 (items_view l.items)
    ≡ questions_of site l.questions.items ++ item_by_item l.keyword (sites_of_list site l.keyword l.index (items_view (drop l.index l.schemas))) l.index (items_view (drop l.index l.items))
