use Rattle.std.proofs.Common.{◌≡◌, ◌++◌, List, drop}
use Rattle.serde_json.specs.Data.{Data}
use Rattle.serde_json.specs.View.{view, items_view}
use Rattle.json_values.specs.Parts.{Part}
use Rattle.schema_definitions.specs.Sites.{Site}
use Rattle.schema_meaning.specs.Questions.{items_from, each_item}
use Rattle.applicators.specs.Shapes.{site_of}
use Rattle.applicators.specs.Questions.{questions_of}
use Rattle.applicators.proofs.questions.push_items.Given as goal

abbrev pub invariant-loop-index : goal.invariant-loop-index
invariant-loop-index l = (site : List Part → Data → Site) → questions_of site l.fn.questions.items ++ each_item l.keyword (site_of site l.keyword (view l.schema)) l.start (items_from l.start (items_view l.items))
    ≡ questions_of site l.questions.items ++ each_item l.keyword (site_of site l.keyword (view l.schema)) l.index (items_view (drop l.index l.items))
