-- Two that tell the same of meta-schemas: documents are read alike under both.
use Rattle.std.specs.Prelude.{ℕ, ◌≡◌, List, Bool, Option, Some}
use Rattle.std.specs.List.{AllByRecursion}
use Rattle.serde_json.specs.Data.{Data}
use Rattle.json_values.specs.Parts.{Part}
use Rattle.schema_definitions.specs.Identifiers.{dynamic_anchors}
use Rattle.schema_definitions.specs.Places.{Dialect, SchemaPlace, named_meta_schema, entered, root_place, children, places}
use Rattle.schema_definitions.specs.Bearers.{Documents, Standing, standings, is_root, bears_anchor, last_standing, bearer_under, anchored_under}
use Rattle.schema_definitions.specs.Lookup.{Walk, walk, lookup_under}

-- two tell the same of the meta-schema that this schema names
pub record Agrees (told after : List ℕ → Option Dialect) (s : Standing) : Type 0 where
  pub agrees : (uri : List ℕ) → named_meta_schema s.place.dialect.siblings (is_root s.place.path) s.place.contents ≡ Some uri → after uri ≡ told uri

-- where they agree on all that the schema places of documents name, the places are the same
abbrev pub AgreeingTellPlaces : Type 0
AgreeingTellPlaces = (told after : List ℕ → Option Dialect) (docs : Documents)
    → AllByRecursion (Agrees told after) (standings told docs) → standings after docs ≡ standings told docs

-- the same places, bearers, anchors and lookups
pub record TellAlike (m n : List ℕ → Option Dialect) : Type 0 where
  pub entry : (outer : List ℕ) (around : Dialect) (path : List Part) (d : Data) → entered m outer around path d ≡ entered n outer around path d
  pub root : (uri : List ℕ) (default : Dialect) (d : Data) → root_place m uri default d ≡ root_place n uri default d
  pub below : (p : SchemaPlace) → children m p ≡ children n p
  pub inside : (uri : List ℕ) (default : Dialect) (d : Data) → places m uri default d ≡ places n uri default d
  pub standing : (docs : Documents) → standings m docs ≡ standings n docs
  pub last : (test : Standing → Bool) (docs : Documents) → last_standing test m docs ≡ last_standing test n docs
  pub bearers : (docs : Documents) (uri : List ℕ) → bearer_under m docs uri ≡ bearer_under n docs uri
  pub anchored : (docs : Documents) (base k : List ℕ) → anchored_under m docs base k ≡ anchored_under n docs base k
  pub dynamic : (docs : Documents) (base k : List ℕ) → last_standing (bears_anchor dynamic_anchors base k) m docs ≡ last_standing (bears_anchor dynamic_anchors base k) n docs
  pub walks : (written : List ℕ) (tokens : List (List ℕ)) (w : Walk) → walk m written tokens w ≡ walk n written tokens w
  pub lookups : (docs : Documents) (base reference : List ℕ) → lookup_under m docs base reference ≡ lookup_under n docs base reference

-- where they tell the same of every URI
abbrev pub AlikeTell : Type 0
AlikeTell = (m n : List ℕ → Option Dialect) → ((uri : List ℕ) → m uri ≡ n uri) → TellAlike m n
