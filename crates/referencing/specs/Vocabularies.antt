-- The vocabularies by which a registry's documents let a schema's keywords count.
use Rattle.std.specs.Prelude.{true, false, codes, Option, Some, None, option_map, option_and_then}
use Rattle.serde_json.specs.Data.{Data}
use Rattle.serde_json.specs.Find.{get}
use Rattle.schema_drafts.specs.Vocabularies.{Vocabularies, all_of_draft}
use Rattle.schema_definitions.specs.Places.{named_meta_schema}
use Rattle.schema_definitions.specs.Bearers.{Documents, Standing, bearer, declared_by}

-- the contents of the meta-schema that a schema names, where it is none of the drafts' own and somebody bears its URI (Core 8.1.1). That of a root
-- counts, be its identifier read or not.
abbrev pub meta_schema_of : Documents → Data → Option Data
meta_schema_of docs d = option_and_then (λ uri. option_map (λ (s : Standing). s.place.contents) (bearer docs uri)) (named_meta_schema false true d)

abbrev pub required_from : Option Data → Vocabularies
required_from None = all_of_draft
required_from (Some contents) = declared_by (get (codes "$vocabulary") contents)

-- those that it requires, or all of the draft (Core 8.1.2)
abbrev pub vocabularies_for : Documents → Data → Vocabularies
vocabularies_for docs d = required_from (meta_schema_of docs d)
