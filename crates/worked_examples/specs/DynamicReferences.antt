-- `$dynamicRef` (Core 8.2.3.2) and `$recursiveRef` (2019-09, Core 8.2.4.2.1), over the sites that they lead to. The schema path restarts empty.
use Rattle.std.specs.Prelude.{List, [], ◌∷◌, codes}
use Rattle.json_values.specs.Kinds.{array_type, string_type}
use Rattle.schema_meaning.specs.Faults.{Required, Types}
use Rattle.schema_meaning.specs.Keywords.{asserts, types, required, static, dynamic, recursive, items, properties, reference}
use Rattle.worked_examples.specs.Forms.{natural, text, list_of, object_of, root, below, wrong_by, Example, over, accepted, refused}

abbrev pub dynamic_references_examples : List Example
dynamic_references_examples =
    -- the outermost resource with the dynamic anchor
    -- http://a.test/list = {"$id":"http://a.test/list","type":"array","items":{"$dynamicRef":"#item"},"$defs":{"d":{"$dynamicAnchor":"item"}}}
    -- http://a.test/strings = {"$id":"http://a.test/strings","$ref":"list","$defs":{"s":{"$dynamicAnchor":"item","type":"string"}}}
    -- root http://a.test/strings
    record {
      schema = over (root (reference static 1 ∷ [])
          ∷ root (items 0 2 ∷ asserts (types (array_type ∷ [])) ∷ [])
          ∷ below "/items" (reference dynamic 3 ∷ [])
          ∷ root (asserts (types (string_type ∷ [])) ∷ []) ∷ []);
      cases =
          -- ["a",1]
          refused (list_of (text "a" ∷ natural 1 ∷ [])) (wrong_by (Types (string_type ∷ [])) (natural 1) "/1" "/type" "/$ref/items/$dynamicRef/type" ∷ [])
          -- ["a"]
          ∷ accepted (list_of (text "a" ∷ [])) ∷ [];
    }
    -- no resource outside
    -- http://a.test/list = {"$id":"http://a.test/list","type":"array","items":{"$dynamicRef":"#item"},"$defs":{"d":{"$dynamicAnchor":"item"}}}
    -- http://a.test/strings = {"$id":"http://a.test/strings","$ref":"list","$defs":{"s":{"$dynamicAnchor":"item","type":"string"}}}
    -- root http://a.test/list
    ∷ record {
      schema = over (root (items 0 1 ∷ asserts (types (array_type ∷ [])) ∷ [])
          ∷ below "/items" (reference dynamic 2 ∷ [])
          ∷ root [] ∷ []);
      cases =
          -- ["a",1]
          accepted (list_of (text "a" ∷ natural 1 ∷ [])) ∷ [];
    }
    -- one target, two scopes
    -- http://a.test/list = {"$id":"http://a.test/list","type":"array","items":{"$dynamicRef":"#item"},"$defs":{"d":{"$dynamicAnchor":"item"}}}
    -- http://a.test/strings = {"$id":"http://a.test/strings","$ref":"list","$defs":{"s":{"$dynamicAnchor":"item","type":"string"}}}
    -- http://a.test/both = {"properties":{"l":{"$ref":"list"},"s":{"$ref":"strings"}}}
    -- root http://a.test/both
    ∷ record {
      schema = over (root (properties ((codes "l", 1) ∷ (codes "s", 5) ∷ []) ∷ [])
          ∷ below "/properties/l" (reference static 2 ∷ [])
          ∷ root (items 0 3 ∷ asserts (types (array_type ∷ [])) ∷ [])
          ∷ below "/items" (reference dynamic 4 ∷ [])
          ∷ root []
          ∷ below "/properties/s" (reference static 6 ∷ [])
          ∷ root (reference static 7 ∷ [])
          ∷ root (items 0 8 ∷ asserts (types (array_type ∷ [])) ∷ [])
          ∷ below "/items" (reference dynamic 9 ∷ [])
          ∷ root (asserts (types (string_type ∷ [])) ∷ []) ∷ []);
      cases =
          -- {"l":[1],"s":[1]}
          refused (object_of (("l", list_of (natural 1 ∷ [])) ∷ ("s", list_of (natural 1 ∷ [])) ∷ [])) (wrong_by (Types (string_type ∷ [])) (natural 1) "/s/0" "/type" "/properties/s/$ref/$ref/items/$dynamicRef/type" ∷ []) ∷ [];
    }
    -- 2019-09
    -- http://a.test/tree = {"$id":"http://a.test/tree","$recursiveAnchor":true,"properties":{"c":{"items":{"$recursiveRef":"#"}}}}
    -- http://a.test/strict = {"$id":"http://a.test/strict","$recursiveAnchor":true,"$ref":"tree","required":["v"]}
    -- root http://a.test/strict
    ∷ record {
      schema = over (root (reference static 1 ∷ asserts (required (codes "v" ∷ [])) ∷ [])
          ∷ root (properties ((codes "c", 2) ∷ []) ∷ [])
          ∷ below "/properties/c" (items 0 3 ∷ [])
          ∷ below "/properties/c/items" (reference recursive 0 ∷ []) ∷ []);
      cases =
          -- {"c":[{}],"v":1}
          refused (object_of (("c", list_of (object_of [] ∷ [])) ∷ ("v", natural 1) ∷ [])) (wrong_by (Required (codes "v")) (object_of []) "/c/0" "/required" "/$ref/properties/c/items/$recursiveRef/required" ∷ [])
          -- {"c":[{"v":2}],"v":1}
          ∷ accepted (object_of (("c", list_of (object_of (("v", natural 2) ∷ []) ∷ [])) ∷ ("v", natural 1) ∷ [])) ∷ [];
    }
    -- http://a.test/tree = {"$id":"http://a.test/tree","$recursiveAnchor":true,"properties":{"c":{"items":{"$recursiveRef":"#"}}}}
    -- http://a.test/strict = {"$id":"http://a.test/strict","$recursiveAnchor":true,"$ref":"tree","required":["v"]}
    -- root http://a.test/tree
    ∷ record {
      schema = over (root (properties ((codes "c", 1) ∷ []) ∷ [])
          ∷ below "/properties/c" (items 0 2 ∷ [])
          ∷ below "/properties/c/items" (reference recursive 0 ∷ []) ∷ []);
      cases =
          -- {"c":[{}],"v":1}
          accepted (object_of (("c", list_of (object_of [] ∷ [])) ∷ ("v", natural 1) ∷ [])) ∷ [];
    }
    ∷ []
