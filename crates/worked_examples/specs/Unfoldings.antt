-- How many unfoldings decide: a reference asks its target with one less, and is out with none left. Nothing else spends one.
use Rattle.std.specs.Prelude.{◌≡◌, ℕ, suc, pos, List, [], ◌∷◌, Bool, true, false, Some, None, codes}
use Rattle.serde_json.specs.Data.{Data}
use Rattle.json_values.specs.Kinds.{object_type, string_type, integer_type}
use Rattle.schema_meaning.specs.Places.{whole}
use Rattle.schema_meaning.specs.Keywords.{asserts, types, minimum, static, items, properties, all_of, any_of, negation, reference}
use Rattle.schema_meaning.specs.Readings.{Reading, told, verdicts}
use Rattle.worked_examples.specs.Forms.{natural, text, list_of, object_of, root, below, over}

-- a schema, a value, how many unfoldings are too few, and the verdict with one more
pub record SpendExample : Type 0 where
  pub schema : Reading ℕ
  pub value : Data
  pub too_few : ℕ
  pub verdict : Bool

abbrev pub IsSpent : SpendExample → Type 0
IsSpent e = (told verdicts e.schema e.too_few 0 (whole e.value) ≡ None) × (told verdicts e.schema (suc e.too_few) 0 (whole e.value) ≡ Some e.verdict)

abbrev pub spend_examples : List SpendExample
spend_examples =
    -- {"items":{"$ref":"#/$defs/s"},"$defs":{"s":{"type":"integer"}}}: [1,2]. Each of two questions has the one unfolding
    record {
      schema = over (root (items 0 1 ∷ []) ∷ below "/items" (reference static 2 ∷ []) ∷ below "/$defs/s" (asserts (types (integer_type ∷ [])) ∷ []) ∷ []);
      value = list_of (natural 1 ∷ natural 2 ∷ []);
      too_few = 0;
      verdict = true;
    }
    -- {"$ref":"#/$defs/a","$defs":{"a":{"$ref":"#/$defs/b"},"b":{"$ref":"#/$defs/c"},"c":{"type":"integer"}}}: "x"
    ∷ record {
      schema = over (root (reference static 1 ∷ [])
          ∷ below "/$defs/a" (reference static 2 ∷ [])
          ∷ below "/$defs/b" (reference static 3 ∷ [])
          ∷ below "/$defs/c" (asserts (types (integer_type ∷ [])) ∷ []) ∷ []);
      value = text "x";
      too_few = 2;
      verdict = false;
    }
    -- {"properties":{"next":{"$ref":"#"}},"type":"object"}: {"next":{"next":{}}}
    ∷ record {
      schema = over (root (properties ((codes "next", 1) ∷ []) ∷ asserts (types (object_type ∷ [])) ∷ []) ∷ below "/properties/next" (reference static 0 ∷ []) ∷ []);
      value = object_of (("next", object_of (("next", object_of []) ∷ [])) ∷ []);
      too_few = 1;
      verdict = true;
    }
    -- {"anyOf":[{"type":"integer"},{"$ref":"#/$defs/s"}],"$defs":{"s":{"type":"string"}}}: 1. Out where any question is, though a branch accepts
    ∷ record {
      schema = over (root (any_of (1 ∷ 2 ∷ []) ∷ [])
          ∷ below "/anyOf/0" (asserts (types (integer_type ∷ [])) ∷ [])
          ∷ below "/anyOf/1" (reference static 3 ∷ [])
          ∷ below "/$defs/s" (asserts (types (string_type ∷ [])) ∷ []) ∷ []);
      value = natural 1;
      too_few = 0;
      verdict = true;
    }
    ∷ []

-- {"allOf":[{"not":{"items":{"minimum":2}}}]}: [1]. Without a reference none is wanted, however deep schemas nest
abbrev pub NestingSpendsNothing : Type 0
NestingSpendsNothing =
    told verdicts
    (over (root (all_of (1 ∷ []) ∷ [])
    ∷ below "/allOf/0" (negation (object_of (("items", object_of (("minimum", natural 2) ∷ [])) ∷ [])) 2 ∷ [])
    ∷ below "/allOf/0/not" (items 0 3 ∷ [])
    ∷ below "/allOf/0/not/items" (asserts (minimum (pos 2)) ∷ []) ∷ []))
    0 0 (whole (list_of (natural 1 ∷ [])))
    ≡ Some true
