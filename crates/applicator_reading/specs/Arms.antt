-- The rows of keywords whose values are lists or objects of schemas.
use Rattle.std.specs.Prelude.{ℕ, List, [], codes}
use Rattle.serde_json.specs.Data.{Data, Members}
use Rattle.schema_meaning.specs.Keywords.{Shape, item_list, prefix_items, properties, pattern_properties, dependent_schemas, all_of, any_of, one_of}
use Rattle.schema_definitions.specs.Sites.{Site}
use Rattle.schema_definitions.specs.Rows.{Context, Row, schema_list, schema_map, pattern_properties_row, member_names}
use Rattle.applicator_reading.specs.declared.keyword.ListKeyword.{ListKeyword}
use Rattle.applicator_reading.specs.declared.keyword.ListKeyword.TheVariants.{ItemList, PrefixItems, AllOf, AnyOf, OneOf}
use Rattle.applicator_reading.specs.declared.keyword.MapKeyword.{MapKeyword}
use Rattle.applicator_reading.specs.declared.keyword.MapKeyword.TheVariants.{Properties, PatternProperties, DependentSchemas}

abbrev pub list_name : ListKeyword → List ℕ
list_name ItemList = codes "items"
list_name PrefixItems = codes "prefixItems"
list_name AllOf = codes "allOf"
list_name AnyOf = codes "anyOf"
list_name OneOf = codes "oneOf"

-- what is expected where the value is no list
abbrev pub list_word : ListKeyword → List ℕ
list_word ItemList = codes "schema or list"
list_word PrefixItems = codes "list"
list_word AllOf = codes "list"
list_word AnyOf = codes "list"
list_word OneOf = codes "list"

abbrev pub list_shape : ListKeyword → List Site → Shape Site
list_shape ItemList ss = item_list ss
list_shape PrefixItems ss = prefix_items ss
list_shape AllOf ss = all_of ss
list_shape AnyOf ss = any_of ss
list_shape OneOf ss = one_of ss

abbrev pub list_row : ListKeyword → Context → Data → Row
list_row w x d = schema_list x (list_name w) (list_word w) (list_shape w) d

abbrev pub map_name : MapKeyword → List ℕ
map_name Properties = codes "properties"
map_name PatternProperties = codes "patternProperties"
map_name DependentSchemas = codes "dependentSchemas"

abbrev pub map_shape : MapKeyword → List (List ℕ × Site) → Shape Site
map_shape Properties ps = properties ps
map_shape PatternProperties ps = pattern_properties ps
map_shape DependentSchemas ps = dependent_schemas ps

abbrev pub map_row : MapKeyword → Context → Data → Row
map_row Properties x d = schema_map x (map_name Properties) (map_shape Properties) d
map_row PatternProperties x d = pattern_properties_row x (map_name PatternProperties) d
map_row DependentSchemas x d = schema_map x (map_name DependentSchemas) (map_shape DependentSchemas) d

-- the patterns of its members
abbrev pub map_patterns : MapKeyword → Members → List (List ℕ)
map_patterns Properties ms = []
map_patterns PatternProperties ms = member_names ms
map_patterns DependentSchemas ms = []
