use Rattle.std.proofs.Common.{◌≡◌, ◌++◌, List, map}
use Rattle.serde_json.specs.Data.{Data}
use Rattle.serde_json.specs.View.{members_view}
use Rattle.json_values.specs.Parts.{Part}
use Rattle.schema_definitions.specs.Sites.{Site}
use Rattle.schema_definitions.specs.Rows.{sites_applied}
use Rattle.applicators.specs.Shapes.{place_of, dependencies_in}
use Rattle.applicators.proofs.subschemas.push_dependencies.Given as goal

abbrev pub invariant-loop-name : goal.invariant-loop-name
invariant-loop-name l = (site : List Part → Data → Site) → map (place_of site) l.fn.found.items ++ sites_applied (dependencies_in site l.keyword (members_view l.entries.entries))
    ≡ map (place_of site) l.found.items ++ sites_applied (dependencies_in site l.keyword (members_view l.name-iterator))
