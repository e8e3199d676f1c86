-- What is wrong at rows, and where they lead.
use Rattle.std.specs.Prelude.{List}
use Rattle.std.specs.List.{flat_map}
use Rattle.schema_definitions.specs.Sites.{Site}
use Rattle.schema_definitions.specs.Rows.{Row, BuildCause}

abbrev pub leads_in : List Row → List Site
leads_in rows = flat_map (λ r. r.leads) rows

abbrev pub causes_in : List Row → List BuildCause
causes_in rows = flat_map (λ r. r.causes) rows
