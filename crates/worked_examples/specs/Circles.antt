-- Values at which references come back: out of unfoldings by any small number, circular by a chain of references,
-- and what the cut reading tells, which takes a return to a target at one place of the value as accepted.
use Prim.Native.String.{String as Quoted}
use Rattle.std.specs.Prelude.{◌≡◌, ℕ, List, [], ◌∷◌, codes, Option, Some, None}
use Rattle.serde_json.specs.Data.{Data, null}
use Rattle.json_values.specs.Kinds.{object_type, string_type}
use Rattle.json_values.specs.Parts.{index}
use Rattle.schema_meaning.specs.Places.{Key, whole}
use Rattle.schema_meaning.specs.Faults.{Fault, Types, PropertyNames, is_none}
use Rattle.schema_meaning.specs.Keywords.{asserts, types, static, properties, property_names, all_of, any_of, reference}
use Rattle.schema_meaning.specs.Readings.{told, bags, verdicts}
use Rattle.schema_meaning.specs.Circular.{IsCircular}
use Rattle.schema_meaning.specs.Cut.{cut, AreAll}
use Rattle.worked_examples.specs.Forms.{natural, text, object_of, Site, root, below, reading_of, pointer, wrong_at, wrong_by, faults_in}

-- the target of a reference, by the number of its site, at a place of the value, and of a member's name there
abbrev pub key : ℕ → Quoted → Option (List ℕ) → Key
key n instance called = record { target = record { document = []; path = index n ∷ [] }; path = pointer instance; called = called }

-- a schema, a value, the keys of the references that chains from the root take, and what the cut reading tells
pub record CutExample : Type 0 where
  pub sites : List Site
  pub value : Data
  pub keys : List Key
  pub faults : List Fault

abbrev pub CutHolds : CutExample → Type 0
CutHolds e =
    (cut bags (reading_of e.sites []) e.keys [] 0 (whole e.value) ≡ faults_in e.faults)
    × (cut verdicts (reading_of e.sites []) e.keys [] 0 (whole e.value) ≡ is_none (faults_in e.faults))

abbrev pub IsOut : CutExample → Type 0
IsOut e = (told bags (reading_of e.sites []) 50 0 (whole e.value) ≡ None) × (told verdicts (reading_of e.sites []) 50 0 (whole e.value) ≡ None)

-- a chain of references comes back, no number of unfoldings up to 50 decides, and the cut reading tells this
abbrev pub Circles : CutExample → Type 0
Circles e = IsOut e × IsCircular (reading_of e.sites []) 0 (whole e.value) × CutHolds e

-- with few unfoldings decided, by the faults that the cut reading tells
abbrev pub IsDecided : CutExample → Type 0
IsDecided e = (told bags (reading_of e.sites []) 6 0 (whole e.value) ≡ Some (faults_in e.faults)) × CutHolds e

-- {"$ref":"#"}: null
abbrev pub itself : CutExample
itself = record { sites = root (reference static 0 ∷ []) ∷ []; value = null; keys = key 0 "" None ∷ []; faults = [] }

-- {"anyOf":[{"$ref":"#"},true]}: null. Each branch is asked, whatever another answers
abbrev pub to_any_of : CutExample
to_any_of = record {
  sites = root (any_of (1 ∷ 2 ∷ []) ∷ []) ∷ below "/anyOf/0" (reference static 0 ∷ []) ∷ below "/anyOf/1" [] ∷ [];
  value = null;
  keys = key 0 "" None ∷ [];
  faults = [];
}

-- {"$defs":{"a":{"$ref":"#/$defs/b"},"b":{"$ref":"#/$defs/a"}},"$ref":"#/$defs/a"}: null
abbrev pub to_each_other : CutExample
to_each_other = record {
  sites = root (reference static 1 ∷ [])
      ∷ below "/$defs/a" (reference static 2 ∷ [])
      ∷ below "/$defs/b" (reference static 1 ∷ []) ∷ [];
  value = null;
  keys = key 1 "" None ∷ key 2 "" None ∷ [];
  faults = [];
}

-- {"allOf":[{"$ref":"#"},{"type":"string"}]}: 1. The root is a target once before the chain comes back
abbrev pub to_all_of : CutExample
to_all_of = record {
  sites = root (all_of (1 ∷ 2 ∷ []) ∷ [])
      ∷ below "/allOf/0" (reference static 0 ∷ [])
      ∷ below "/allOf/1" (asserts (types (string_type ∷ [])) ∷ []) ∷ [];
  value = natural 1;
  keys = key 0 "" None ∷ [];
  faults = wrong_by (Types (string_type ∷ [])) (natural 1) "" "/allOf/1/type"
      "/allOf/0/$ref/allOf/1/type"
      ∷ wrong_at (Types (string_type ∷ [])) (natural 1) "" "/allOf/1/type" ∷ [];
}

abbrev pub circles_examples : List CutExample
circles_examples = itself ∷ to_any_of ∷ to_each_other ∷ to_all_of ∷ []

-- Schemas that refer to themselves, at other places of the value
abbrev pub recursive_examples : List CutExample
recursive_examples =
    -- {"properties":{"next":{"$ref":"#"}},"type":"object"}: {"next":{"next":1}}
    record {
      sites = root (properties ((codes "next", 1) ∷ []) ∷ asserts (types (object_type ∷ [])) ∷ [])
          ∷ below "/properties/next" (reference static 0 ∷ []) ∷ [];
      value = object_of (("next", object_of (("next", natural 1) ∷ [])) ∷ []);
      keys = key 0 "/next" None ∷ key 0 "/next/next" None ∷ [];
      faults = wrong_by (Types (object_type ∷ [])) (natural 1) "/next/next" "/type"
          "/properties/next/$ref/properties/next/$ref/type"
          ∷ [];
    }
    -- {"$defs":{"n":{"propertyNames":{"$ref":"#/$defs/n"},"type":"object"}},"$ref":"#/$defs/n"}: {"a":1}. A name is a place of its own
    ∷ record {
      sites = root (reference static 1 ∷ [])
          ∷ below "/$defs/n" (property_names 2 ∷ asserts (types (object_type ∷ [])) ∷ [])
          ∷ below "/$defs/n/propertyNames" (reference static 1 ∷ []) ∷ [];
      value = object_of (("a", natural 1) ∷ []);
      keys = key 1 "" None ∷ key 1 "" (Some (codes "a")) ∷ [];
      faults = wrong_by
          (PropertyNames (wrong_by (Types (object_type ∷ [])) (text "a") "" "/$defs/n/type"
          "/$ref/propertyNames/$ref/type"))
          (object_of (("a", natural 1) ∷ [])) "" "/$defs/n/type"
          "/$ref/propertyNames/$ref/type"
          ∷ [];
    }
    ∷ []

-- the keys of the first are all that a chain takes
abbrev pub KeysOfItself : Type 0
KeysOfItself = AreAll (reading_of itself.sites []) 0 (whole itself.value) itself.keys
