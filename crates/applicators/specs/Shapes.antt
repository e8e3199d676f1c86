-- The shapes that applicators stand for, over the sites of their subschemas.
use Rattle.std.specs.Prelude.{List}
use Rattle.serde_json.specs.Data.{Data}
use Rattle.json_values.specs.Parts.{Part}
use Rattle.schema_definitions.specs.Sites.{Site}
use Rattle.schema_meaning.specs.Keywords.{Shape}
pub use Rattle.applicators.specs.Lent.{Schemas}
pub use Rattle.applicators.specs.Sites.{added_at, place_of, sites_of_list, sites_of_map, dependency_at, dependencies_in, site_of, names_declared, declared_by, others_among}
use Rattle.applicators.specs.Forms.{shape_by}
use Rattle.applicators.specs.Asks.{form_by, leads_by}
use Rattle.applicators.specs.Applied.{name_of, combining_of, asks_of}
use Rattle.applicators.specs.Applied.{Applicator}

abbrev pub shape_of : (List Part → Data → Site) → Applicator → Shape Site
shape_of site a = shape_by (name_of a) (combining_of a) (form_by site (name_of a) (asks_of a))

-- the sites of the schemas in the keyword's own value: those of `then` and `else` are led to by these
abbrev pub leads_of : (List Part → Data → Site) → Applicator → List Site
leads_of site a = leads_by site (name_of a) (asks_of a)
