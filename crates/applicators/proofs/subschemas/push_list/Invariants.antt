use Rattle.std.proofs.Common.{◌≡◌, ◌++◌, List, map, drop}
use Rattle.serde_json.specs.Data.{Data}
use Rattle.serde_json.specs.View.{items_view}
use Rattle.json_values.specs.Parts.{Part}
use Rattle.schema_definitions.specs.Sites.{Site}
use Rattle.applicators.specs.Shapes.{place_of, sites_of_list}
use Rattle.applicators.proofs.subschemas.push_list.Given as goal

abbrev pub invariant-loop-index : goal.invariant-loop-index
invariant-loop-index l = (site : List Part → Data → Site) → map (place_of site) l.fn.found.items ++ sites_of_list site l.keyword 0 (items_view l.schemas)
    ≡ map (place_of site) l.found.items ++ sites_of_list site l.keyword l.index (items_view (drop l.index l.schemas))
