-- `$ref` (Core 8.2.3.1). The road goes through `$ref`; the schema path restarts with the pointer of the reference, empty for a bare URI.
use Rattle.std.specs.Prelude.{List, [], ◌∷◌, pos, codes}
use Rattle.json_values.specs.Kinds.{null_type, object_type, array_type, string_type, integer_type}
use Rattle.schema_meaning.specs.Faults.{AnyOf, MinItems, Minimum, Types}
use Rattle.schema_meaning.specs.Keywords.{asserts, types, minimum, min_items, static, items, properties, any_of, reference}
use Rattle.worked_examples.specs.Forms.{natural, text, list_of, object_of, root, below, branches_in, wrong_at, wrong_by, Example, over, accepted, refused}

abbrev pub static_references_examples : List Example
static_references_examples =
    -- two documents
    -- http://a.test/root.json = {"$id":"http://a.test/root.json","type":"array","minItems":2,"items":{"$ref":"leaf.json"}}
    -- http://a.test/leaf.json = {"$id":"http://a.test/leaf.json","type":"string"}
    -- root http://a.test/root.json
    record {
      schema = over (root (items 0 1 ∷ asserts (min_items 2) ∷ asserts (types (array_type ∷ [])) ∷ [])
          ∷ below "/items" (reference static 2 ∷ [])
          ∷ root (asserts (types (string_type ∷ [])) ∷ []) ∷ []);
      cases =
          -- [1]
          refused (list_of (natural 1 ∷ [])) (wrong_by (Types (string_type ∷ [])) (natural 1) "/0" "/type" "/items/$ref/type"
          ∷ wrong_at (MinItems 2) (list_of (natural 1 ∷ [])) "" "/minItems" ∷ [])
          -- ["a","b"]
          ∷ accepted (list_of (text "a" ∷ text "b" ∷ [])) ∷ [];
    }
    -- siblings are read
    -- {"$defs":{"s":{"type":"integer"}},"properties":{"x":{"$ref":"#/$defs/s","minimum":10}}}
    ∷ record {
      schema = over (root (properties ((codes "x", 1) ∷ []) ∷ [])
          ∷ below "/properties/x" (reference static 2 ∷ asserts (minimum (pos 10)) ∷ [])
          ∷ below "/$defs/s" (asserts (types (integer_type ∷ [])) ∷ []) ∷ []);
      cases =
          -- {"x":3}
          refused (object_of (("x", natural 3) ∷ [])) (wrong_at (Minimum (pos 10)) (natural 3) "/x" "/properties/x/minimum" ∷ []) ∷ [];
    }
    -- siblings are not read (Draft 7 Core 8.3)
    -- Draft 7: {"definitions":{"s":{"type":"integer"}},"properties":{"x":{"$ref":"#/definitions/s","minimum":10}}}
    ∷ record {
      schema = over (root (properties ((codes "x", 1) ∷ []) ∷ [])
          ∷ below "/properties/x" (reference static 2 ∷ [])
          ∷ below "/definitions/s" (asserts (types (integer_type ∷ [])) ∷ []) ∷ []);
      cases =
          -- {"x":3}
          accepted (object_of (("x", natural 3) ∷ []))
          -- {"x":"y"}
          ∷ refused (object_of (("x", text "y") ∷ [])) (wrong_by (Types (integer_type ∷ [])) (text "y") "/x" "/definitions/s/type" "/properties/x/$ref/type" ∷ []) ∷ [];
    }
    -- a linked list
    -- {"$defs":{"node":{"type":"object","properties":{"next":{"$ref":"#/$defs/node"},"v":{"type":"integer"}}}},"$ref":"#/$defs/node"}
    ∷ record {
      schema = over (root (reference static 1 ∷ [])
          ∷ below "/$defs/node" (properties ((codes "next", 2) ∷ (codes "v", 3) ∷ []) ∷ asserts (types (object_type ∷ [])) ∷ [])
          ∷ below "/$defs/node/properties/next" (reference static 1 ∷ [])
          ∷ below "/$defs/node/properties/v" (asserts (types (integer_type ∷ [])) ∷ []) ∷ []);
      cases =
          -- {"next":{"next":{"v":2},"v":1},"v":0}
          accepted (object_of (("next", object_of (("next", object_of (("v", natural 2) ∷ [])) ∷ ("v", natural 1) ∷ [])) ∷ ("v", natural 0) ∷ []))
          -- {"next":{"v":"x"},"v":1}
          ∷ refused (object_of (("next", object_of (("v", text "x") ∷ [])) ∷ ("v", natural 1) ∷ [])) (wrong_by (Types (integer_type ∷ [])) (text "x") "/next/v" "/$defs/node/properties/v/type" "/$ref/properties/next/$ref/properties/v/type" ∷ [])
          -- {"next":{"next":{"next":0,"v":"x"},"v":1},"v":0}: faults two and three levels down
          ∷ refused (object_of (("next", object_of (("next", object_of (("next", natural 0) ∷ ("v", text "x") ∷ [])) ∷ ("v", natural 1) ∷ [])) ∷ ("v", natural 0) ∷ [])) (wrong_by (Types (object_type ∷ [])) (natural 0) "/next/next/next" "/$defs/node/type" "/$ref/properties/next/$ref/properties/next/$ref/properties/next/$ref/type"
          ∷ wrong_by (Types (integer_type ∷ [])) (text "x") "/next/next/v" "/$defs/node/properties/v/type" "/$ref/properties/next/$ref/properties/next/$ref/properties/v/type" ∷ []) ∷ [];
    }
    -- documents that refer to each other
    -- http://a.test/a = {"$id":"http://a.test/a","properties":{"b":{"$ref":"b"}}}
    -- http://a.test/b = {"$id":"http://a.test/b","type":"object","properties":{"a":{"$ref":"a"}}}
    -- root http://a.test/a
    ∷ record {
      schema = over (root (properties ((codes "b", 1) ∷ []) ∷ [])
          ∷ below "/properties/b" (reference static 2 ∷ [])
          ∷ root (properties ((codes "a", 3) ∷ []) ∷ asserts (types (object_type ∷ [])) ∷ [])
          ∷ below "/properties/a" (reference static 0 ∷ []) ∷ []);
      cases =
          -- {"b":{"a":{"b":1}}}
          refused (object_of (("b", object_of (("a", object_of (("b", natural 1) ∷ [])) ∷ [])) ∷ [])) (wrong_by (Types (object_type ∷ [])) (natural 1) "/b/a/b" "/type" "/properties/b/$ref/properties/a/$ref/properties/b/$ref/type" ∷ [])
          -- {"b":{"a":{"b":{}}}}
          ∷ accepted (object_of (("b", object_of (("a", object_of (("b", object_of []) ∷ [])) ∷ [])) ∷ [])) ∷ [];
    }
    -- for an anchor the schema path restarts empty
    -- {"$defs":{"s":{"$anchor":"t","type":"string"}},"items":{"$ref":"#t"}}
    ∷ record {
      schema = over (root (items 0 1 ∷ [])
          ∷ below "/items" (reference static 2 ∷ [])
          ∷ root (asserts (types (string_type ∷ [])) ∷ []) ∷ []);
      cases =
          -- [1]
          refused (list_of (natural 1 ∷ [])) (wrong_by (Types (string_type ∷ [])) (natural 1) "/0" "/type" "/items/$ref/type" ∷ []) ∷ [];
    }
    -- a reference in a branch
    -- {"$defs":{"a":{"anyOf":[{"$ref":"#/$defs/b"},{"type":"null"}]},"b":{"type":"string"}},"$ref":"#/$defs/a"}
    ∷ record {
      schema = over (root (reference static 1 ∷ [])
          ∷ below "/$defs/a" (any_of (2 ∷ 4 ∷ []) ∷ [])
          ∷ below "/$defs/a/anyOf/0" (reference static 3 ∷ [])
          ∷ below "/$defs/b" (asserts (types (string_type ∷ [])) ∷ [])
          ∷ below "/$defs/a/anyOf/1" (asserts (types (null_type ∷ [])) ∷ []) ∷ []);
      cases = refused (natural 1) (wrong_by (AnyOf (branches_in ((wrong_by (Types (string_type ∷ [])) (natural 1) "" "/$defs/b/type" "/$ref/anyOf/0/$ref/type" ∷ []) ∷ (wrong_by (Types (null_type ∷ [])) (natural 1) "" "/$defs/a/anyOf/1/type" "/$ref/anyOf/1/type" ∷ []) ∷ []))) (natural 1) "" "/$defs/a/anyOf" "/$ref/anyOf" ∷ []) ∷ [];
    }
    ∷ []
