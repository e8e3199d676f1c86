-- The boolean schemas (Core 4.3.2): `true` and `{}` accept each value, `false` none, and its fault stands at the schema itself.
use Rattle.std.specs.Prelude.{List, [], ◌∷◌, false, None, codes}
use Rattle.serde_json.specs.Data.{null, boolean}
use Rattle.schema_meaning.specs.Faults.{Contains, FalseSchema}
use Rattle.schema_meaning.specs.Keywords.{static, never, items, contains, properties, all_of, negation, reference}
use Rattle.worked_examples.specs.Forms.{natural, list_of, object_of, root, below, wrong_at, wrong_by, Example, over, accepted, refused}

abbrev pub boolean_schemas_examples : List Example
boolean_schemas_examples =
    -- true
    record {
      schema = over (root [] ∷ []);
      cases = accepted (object_of []) ∷ [];
    }
    -- {}
    ∷ record {
      schema = over (root [] ∷ []);
      cases =
          -- [1]
          accepted (list_of (natural 1 ∷ [])) ∷ [];
    }
    -- false
    ∷ record {
      schema = over (root (never ∷ []) ∷ []);
      cases = refused (object_of []) (wrong_at FalseSchema (object_of []) "" "" ∷ []) ∷ [];
    }
    -- {"properties":{"a":false}}
    ∷ record {
      schema = over (root (properties ((codes "a", 1) ∷ []) ∷ [])
          ∷ below "/properties/a" (never ∷ []) ∷ []);
      cases =
          -- {"a":1}
          refused (object_of (("a", natural 1) ∷ [])) (wrong_at FalseSchema (natural 1) "/a" "/properties/a" ∷ []) ∷ [];
    }
    -- {"allOf":[true,false]}
    ∷ record {
      schema = over (root (all_of (1 ∷ 2 ∷ []) ∷ [])
          ∷ below "/allOf/0" []
          ∷ below "/allOf/1" (never ∷ []) ∷ []);
      cases = refused null (wrong_at FalseSchema null "" "/allOf/1" ∷ []) ∷ [];
    }
    -- {"$defs":{"n":false},"$ref":"#/$defs/n"}
    ∷ record {
      schema = over (root (reference static 1 ∷ [])
          ∷ below "/$defs/n" (never ∷ []) ∷ []);
      cases = refused null (wrong_by FalseSchema null "" "/$defs/n" "/$ref" ∷ []) ∷ [];
    }
    -- {"items":false}
    ∷ record {
      schema = over (root (items 0 1 ∷ [])
          ∷ below "/items" (never ∷ []) ∷ []);
      cases =
          -- [1,2]
          refused (list_of (natural 1 ∷ natural 2 ∷ [])) (wrong_at FalseSchema (natural 1) "/0" "/items"
          ∷ wrong_at FalseSchema (natural 2) "/1" "/items" ∷ []) ∷ [];
    }
    -- {"not":false}
    ∷ record {
      schema = over (root (negation (boolean false) 1 ∷ [])
          ∷ below "/not" (never ∷ []) ∷ []);
      cases = accepted null ∷ [];
    }
    -- {"contains":true}
    ∷ record {
      schema = over (root (contains 1 None None ∷ [])
          ∷ below "/contains" [] ∷ []);
      cases = refused (list_of []) (wrong_at Contains (list_of []) "" "/contains" ∷ []) ∷ [];
    }
    ∷ []
